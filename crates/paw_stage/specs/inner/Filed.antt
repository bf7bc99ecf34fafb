-- The file of the attached store's name holds the store's bytes: so it is after every call of a stage in memory.
use Rattle.std.proofs.Common.{◌≡◌, Bool, true, false, List, [], ◌∷◌, refl, sym, ap, ◌∙◌, subst}
use Rattle.std.specs.Prelude.{Option, Some, None, if◌then◌else◌}
use Rattle.std.specs.Str.{bytes_eq}
use Rattle.paw_base.specs.Bytes.{Bytes, Name}
use Rattle.paw_stage.specs.Disk.{Disk, put_at, stable}
use Rattle.std.proofs.lemmas.Slice.Eq.{bytes_eq-Decides}
use Rattle.paw_stage.specs.Stage.{Standing, Files, file_holding, store_holding, made_if_missing}
use Rattle.paw_stage.specs.Stage.{bytes_or_none, file_bytes}
use Rattle.paw_stage.specs.inner.Done.{DoneCall, fresh, standing_after, after_call_of, after, is_attached}
use Rattle.paw_stage.specs.inner.Seen.{IsFiled}
use Rattle.paw_stage.specs.inner.Memory.{Memory, standing_of}
use Rattle.paw_stage.specs.declared.log.CallKind.{CallKind}
use Rattle.paw_stage.specs.declared.log.CallKind.TheVariants as kind

-- The file of this name is what it was made.
holds : (name : Name) (bytes : Option Bytes) (files : Files) → file_holding name bytes files name ≡ bytes
holds name bytes files = ap (λ b. if b then bytes else files name) ((bytes_eq-Decides name name).1 refl)

-- The store's bytes stay those of its file.
either_filed : (b : Bool) (o : Option Bytes) (bytes : Bytes) (d : Disk) → o ≡ Some d.bytes →
    (if b then Some bytes else o) ≡ Some (if b then stable bytes else d).bytes
either_filed true o bytes d h = refl
either_filed false o bytes d h = h

-- A file that is saved leaves the store's bytes those of its file.
saved_filed : (s : Standing) (name : Name) (bytes : Bytes) → IsFiled s → IsFiled (after_call_of kind.Save name bytes s)
saved_filed s name bytes h n e =
    let k : is_attached s.attached name ≡ bytes_eq n name = ap (λ a. is_attached a name) e in
    either_filed (bytes_eq n name) (s.files n) bytes s.disk (h n e)
    ∙ sym (ap (λ b. Some (if b then stable bytes else s.disk).bytes) k)

-- A file that was made where it was missing is there.
made_gives : (o : Option Bytes) (files : Files) (name : Name) → files name ≡ o →
    made_if_missing name o files name ≡ Some (bytes_or_none o)
made_gives None files name h = holds name (Some []) files
made_gives (Some b) files name h = h

-- Values that are there and are the same are the same values.
some_same : (a b : Bytes) → Some a ≡ Some b → a ≡ b
some_same a b e = cc

-- A call of any kind leaves the store's bytes those of its file.
call_filed : (k : CallKind) (name : Name) (bytes : Bytes) (s : Standing) → IsFiled s →
    IsFiled (after_call_of k name bytes s)
call_filed kind.Add name bytes s h n e = saved_filed s name bytes h n e
call_filed kind.Load name bytes s h n e = h n e
call_filed kind.Save name bytes s h n e = saved_filed s name bytes h n e
call_filed kind.Attach name bytes s h n e =
    subst (λ m. made_if_missing name (s.files name) s.files m ≡ Some (bytes_or_none (s.files name)))
    (some_same name n e) (made_gives (s.files name) s.files name refl)
call_filed kind.Read name bytes s h n e = h n e
call_filed (kind.Write at) name bytes s h n e =
    ap (λ a. store_holding a (put_at at bytes s.disk.bytes) s.files n) e
    ∙ holds n (Some (put_at at bytes s.disk.bytes)) s.files
call_filed kind.Sync name bytes s h n e = h n e
call_filed kind.Take name bytes s h n e = h n e
call_filed kind.End name bytes s h n e = h n e
call_filed kind.Show name bytes s h n e = h n e

-- Calls in order leave the store's bytes those of its file.
later_filed : (s : Standing) (ds : List DoneCall) → IsFiled s → IsFiled (after s ds)
later_filed s [] h = h
later_filed s (d ∷ ds) h = later_filed (standing_after s d) ds (call_filed d.kind d.name d.bytes s h)

-- After any calls the store's bytes are those of its file.
pub after_filed : (ds : List DoneCall) → IsFiled (after fresh ds)
after_filed ds = later_filed fresh ds (λ n e. cc)

-- What the stage in memory reports of it.
pub file_holds : (m : Memory) (name : Name) → (standing_of m).attached ≡ Some name →
    file_bytes (standing_of m) name ≡ (standing_of m).disk.bytes
file_holds m name h = ap bytes_or_none (after_filed m.log.calls name h)
