-- What a stage reports, and what its calls do to it.
use Rattle.std.specs.Prelude.{◌≡◌, ◌≢◌, ◌⊎◌, ℕ, ◌+◌, ◌-◌, ◌<◌, ◌≤◌, ◌^◌, [], ◌∷◌, ◌++◌, length, take, drop}
use Rattle.std.specs.Prelude.{Option, Some, None, Result, Ok, Err, if◌then◌else◌}
use Rattle.std.specs.declared.vec.Vec.{Vec}
use Rattle.std.specs.declared.alloc.Global.{Global}
use Rattle.std.specs.Str.{bytes_eq}
use Rattle.paw_base.specs.Bytes.{Bytes, Line, Lines, Name, Text}
use Rattle.paw_base.specs.declared.limits.TheConstants.{LINE_LIMIT}
use Rattle.paw_stage.specs.Disk.{Disk, MayLeave, MayStay, IsInWrite, stable, disk_written}
use Rattle.paw_stage.specs.declared.StageCall.{StageCall}
use Rattle.paw_stage.specs.declared.StageCall.TheVariants as call
use Rattle.paw_stage.specs.declared.LoadRefusal.{LoadRefusal}
use Rattle.paw_stage.specs.declared.LoadRefusal.TheVariants as refusal
use Rattle.paw_stage.specs.declared.Failed.{Failed}
use Rattle.paw_stage.specs.declared.Asked.{Asked}
use Rattle.paw_stage.specs.declared.Asked.TheVariants as asked

-- The files by name: the bytes of the file with a name, or nothing where there is no such file.
abbrev pub Files : Type 0
Files = Name → Option Bytes

-- The files, once the file of this name holds these bytes, or is gone where no bytes are given.
abbrev pub file_holding : Name → Option Bytes → Files → Files
file_holding name bytes files = λ n. if bytes_eq n name then bytes else files n

-- The bytes of a file; none where it is missing.
abbrev pub bytes_or_none : Option Bytes → Bytes
bytes_or_none None = []
bytes_or_none (Some bytes) = bytes

-- The files, once the file of this name is there: a missing one is made empty.
abbrev pub made_if_missing : Name → Option Bytes → Files → Files
made_if_missing name None files = file_holding name (Some []) files
made_if_missing name (Some bytes) files = files

-- The files, once the file of the attached store holds these bytes; the same files where no store is attached.
abbrev pub store_holding : Option Name → Bytes → Files → Files
store_holding None bytes files = files
store_holding (Some name) bytes files = file_holding name (Some bytes) files

-- What stands at a stage, between its calls or at a moment inside one of them: the files, the lines that are left (the
-- next one first), the number of lines taken, all text shown, the name of the attached store, its bytes with what a
-- crash may leave of them, and the number of bytes written to stores.
pub record Standing : Type 0 where
  pub files : Files
  pub lines : Lines
  pub asked : ℕ
  pub shown : Text
  pub attached : Option Name
  pub disk : Disk
  pub written : ℕ

-- The bytes of the file of a name; none where it is missing.
abbrev pub file_bytes : Standing → Name → Bytes
file_bytes s name = bytes_or_none (s.files name)

-- A count of failures rose in a call. At its greatest value it stays, and counts as having risen.
abbrev pub Rose : ℕ → ℕ → Type 0
Rose old new = (old < new) ⊎ ((old ≡ 2 ^ 64 - 1) × (new ≡ 2 ^ 64 - 1))

-- What one call, or several, one after another, did to the counts of failures: the count of the call that failed rose,
-- and no other changed. Where none failed, none changed.
abbrev pub CountsFailure : Option StageCall → (StageCall → ℕ) → (StageCall → ℕ) → Type 0
CountsFailure None old new = (c : StageCall) → new c ≡ old c
CountsFailure (Some failed) old new = Rose (old failed) (new failed) × ((c : StageCall) → c ≢ failed → new c ≡ old c)

-- The call that failed, if it did, by its answer.
abbrev pub failed_in : {A : Type 0} → StageCall → Result A Failed → Option StageCall
failed_in call (Ok answer) = None
failed_in call (Err e) = Some call

-- The call that failed in a load, if any, by its answer; a missing file counts apart. Lack of memory is no failure.
abbrev pub failed_load : {A : Type 0} → Result A LoadRefusal → Option StageCall
failed_load (Ok bytes) = None
failed_load (Err refusal.Absent) = Some call.LoadAbsent
failed_load (Err refusal.Failed) = Some call.Load
failed_load (Err refusal.Memory) = None

-- The call that failed in an ask, if any, by its answer.
abbrev pub failed_ask : Asked → Option StageCall
failed_ask (asked.Line n) = None
failed_ask asked.End = None
failed_ask asked.Failed = Some call.Ask

-- What stands at a moment of a call that changes nothing.
abbrev pub Still : Standing → Standing → Type 0
Still old m = m ≡ old

-- The first n bytes are a line, cut to at most 255 bytes.
pub record IsCut (line : Line) (bytes : Bytes) (n : ℕ) : Type 0 where
  pub short : n ≤ LINE_LIMIT
  pub same : take n bytes ≡ take LINE_LIMIT line

-- What an ask does: it takes the next line, finds no line left, or fails. Only the first changes anything.
abbrev pub AsksTo : Standing → Standing → Asked → Bytes → Type 0
AsksTo old new (asked.Line n) into =
    (line : Line) × (old.lines ≡ line ∷ new.lines) × IsCut line into n
    × (new ≡ record old { lines = new.lines; asked = old.asked + 1 })
AsksTo old new asked.End into = (old.lines ≡ []) × (new ≡ old)
AsksTo old new asked.Failed into = new ≡ old

-- What stands at a moment of an ask: what stood before it, or what stands after it.
abbrev pub InAsk : Standing → Standing → Standing → Type 0
InAsk old new m = (m ≡ old) ⊎ (m ≡ new)

-- What a load answers: the bytes of the file of this name, or the first `most + 1` of them where it has more. Memory is
-- never lacking for a file that is missing.
abbrev pub LoadsTo : Standing → Name → ℕ → Result (Vec ℕ Global) LoadRefusal → Type 0
LoadsTo s name most (Ok given) = (bytes : Bytes) × (s.files name ≡ Some bytes) × (given.items ≡ take (most + 1) bytes)
LoadsTo s name most (Err refusal.Absent) = s.files name ≡ None
LoadsTo s name most (Err refusal.Failed) = Unit {0}
LoadsTo s name most (Err refusal.Memory) = s.files name ≢ None

-- What a save does: the file of this name now holds these bytes, or is gone where there are none. If it is the file of
-- the attached store, the store has these bytes, and a crash may leave them; what else it may leave of it is open.
pub record Saves (old new : Standing) (name : Name) (bytes : Option Bytes) : Type 0 where
  pub disk : Disk
  pub apart : old.attached ≢ Some name → disk ≡ old.disk
  pub store : old.attached ≡ Some name → disk.bytes ≡ bytes_or_none bytes
  pub stays : MayStay disk
  pub stands : new ≡ record old { files = file_holding name bytes old.files; disk = disk }

-- What stands at a moment of a save: nothing changed, or the file holds any bytes, or it is gone.
abbrev pub InSave : Standing → Name → Standing → Type 0
InSave old name m = (m ≡ old) ⊎ ((left : Option Bytes) × Saves old m name left)

-- What a save leaves. Where it failed, that is what stands at one of its moments.
abbrev pub SavesTo : {A : Type 0} → Standing → Standing → Name → Bytes → Result A Failed → Type 0
SavesTo old new name bytes (Ok done) = Saves old new name (Some bytes)
SavesTo old new name bytes (Err e) = InSave old name new

-- What stands once the file of this name is the attached store. A missing file is made empty; the bytes of the store
-- are stable.
abbrev pub with_store_opened : Name → Standing → Standing
with_store_opened name s = record s {
  files = made_if_missing name (s.files name) s.files;
  attached = Some name;
  disk = stable (file_bytes s name);
}

-- What an attach that failed leaves: nothing changed, or no store is attached any more.
abbrev pub Unattached : Standing → Standing → Type 0
Unattached old new = (new ≡ old) ⊎ (new ≡ record old { attached = None; disk = stable [] })

-- What an attach does: it answers the length of the store, or leaves what a failed one may leave.
abbrev pub AttachesTo : Standing → Standing → Name → Result ℕ Failed → Type 0
AttachesTo old new name (Ok n) = (n ≡ length (file_bytes old name)) × (new ≡ with_store_opened name old)
AttachesTo old new name (Err e) = Unattached old new

-- What stands at a moment of an attach: what stood before it, or what stands after it, or what stood before it with the
-- file made, empty, where it was missing.
abbrev pub InAttach : Standing → Standing → Name → Standing → Type 0
InAttach old new name m =
    (m ≡ old) ⊎ (m ≡ record old { files = made_if_missing name (old.files name) old.files }) ⊎ (m ≡ new)

-- What stands once the store's bytes are those of this disk, and n more bytes were written.
abbrev pub with_disk : Standing → Disk → ℕ → Standing
with_disk old d n =
    record old { files = store_holding old.attached d.bytes old.files; disk = d; written = old.written + n }

-- What stands once these bytes were written to the store from an offset on.
abbrev pub with_written : ℕ → Bytes → Standing → Standing
with_written at bytes s = with_disk s (disk_written at (length bytes) bytes s.disk) (length bytes)

-- What stands at a moment of a write of n bytes: nothing changed, or some of them were written and may be any bytes. As
-- many bytes, or fewer, count as written.
abbrev pub InWrite : Standing → ℕ → ℕ → Standing → Type 0
InWrite old at n m =
    (m ≡ old)
    ⊎ ((disk : Disk) × (count : ℕ) × IsInWrite at n old.disk disk × (count ≤ n) × (m ≡ with_disk old disk count))

-- What a write of these bytes leaves. Where it failed, that is what stands at one of its moments.
abbrev pub WritesTo : {A : Type 0} → Standing → Standing → ℕ → Bytes → Result A Failed → Type 0
WritesTo old new at bytes (Ok done) = new ≡ with_written at bytes old
WritesTo old new at bytes (Err e) = InWrite old at (length bytes) new

-- At most n bytes of the store, from an offset on.
abbrev pub part_of : Standing → ℕ → ℕ → Bytes
part_of s at n = take n (drop at s.disk.bytes)

-- What a read gives. Where it failed, the bytes may be any.
abbrev pub ReadsTo : {A : Type 0} → Standing → ℕ → ℕ → Bytes → Result A Failed → Type 0
ReadsTo s at n given (Ok done) = given ≡ part_of s at n
ReadsTo s at n given (Err e) = Unit {0}

-- What stands once the store is synced.
abbrev pub with_store_synced : Standing → Standing
with_store_synced s = record s { disk = stable s.disk.bytes }

-- What stands at a moment of a sync: a crash leaves nothing of the store that it couldn't leave before.
pub record InSync (old m : Standing) : Type 0 where
  pub disk : Disk
  pub leaves : (image : Bytes) → MayLeave disk image → MayLeave old.disk image
  pub stands : m ≡ record old { disk = disk }

-- What a sync leaves. Where it failed, nothing changed.
abbrev pub SyncsTo : {A : Type 0} → Standing → Standing → Result A Failed → Type 0
SyncsTo old new (Ok done) = new ≡ with_store_synced old
SyncsTo old new (Err e) = new ≡ old

-- What stands once this text is shown after the text before it.
abbrev pub with_shown : Text → Standing → Standing
with_shown text s = record s { shown = s.shown ++ text }

-- What stands at a moment of a show: a first part of the text was shown.
abbrev pub InShow : Standing → Text → Standing → Type 0
InShow old text m = (n : ℕ) × (m ≡ with_shown (take n text) old)

-- What a show leaves. Where it failed, that is what stands at one of its moments.
abbrev pub ShowsTo : {A : Type 0} → Standing → Standing → Text → Result A Failed → Type 0
ShowsTo old new text (Ok done) = new ≡ with_shown text old
ShowsTo old new text (Err e) = InShow old text new
