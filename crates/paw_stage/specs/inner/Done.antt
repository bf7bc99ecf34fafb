-- What a stage in memory was asked to do, and what stands after it.
use Rattle.std.specs.Prelude.{ℕ, zero, suc, ◌+◌, List, [], ◌∷◌, length, fold, Option, Some, None, Bool, true, false}
use Rattle.std.specs.Prelude.{if◌then◌else◌}
use Rattle.std.specs.Option.{option_map}
use Rattle.std.specs.List.{slice_get, filter}
use Rattle.std.specs.Str.{bytes_eq}
use Rattle.paw_base.specs.Bytes.{Bytes, Name, Text}
use Rattle.paw_stage.specs.Disk.{stable}
use Rattle.paw_stage.specs.Stage.{Standing, file_holding, bytes_or_none, with_shown, with_store_opened, with_written}
use Rattle.paw_stage.specs.Stage.{with_store_synced}
use Rattle.paw_stage.specs.declared.log.CallKind.{CallKind}
use Rattle.paw_stage.specs.declared.log.CallKind.TheVariants as kind

-- A call that was done, with the name and the bytes that were handed to it.
pub record DoneCall : Type 0 where
  pub kind : CallKind
  pub name : Name
  pub bytes : Bytes

-- A call of this kind, to which this name and these bytes were handed.
abbrev pub call_of : CallKind → Name → Bytes → DoneCall
call_of kind name bytes = record { kind = kind; name = name; bytes = bytes }

-- How many bytes were handed to a call.
abbrev pub size_of : DoneCall → ℕ
size_of d = length d.name + length d.bytes

-- A file was put there between the calls; or a call loaded, saved, took a line, found no line left, or showed a text.
abbrev pub added_file : Name → Bytes → DoneCall
added_file name bytes = call_of kind.Add name bytes

-- A file was loaded.
abbrev pub loaded_file : Name → DoneCall
loaded_file name = call_of kind.Load name []

-- A file was saved with these bytes.
abbrev pub saved_file : Name → Bytes → DoneCall
saved_file name bytes = call_of kind.Save name bytes

-- A line was taken.
abbrev pub taken_line : DoneCall
taken_line = call_of kind.Take [] []

-- No line was left to take.
abbrev pub end_done : DoneCall
end_done = call_of kind.End [] []

-- A text was shown.
abbrev pub shown_text : Text → DoneCall
shown_text text = call_of kind.Show [] text

-- A call attached a store, read it, wrote bytes to it from an offset on, or synced it.
abbrev pub attached_store : Name → DoneCall
attached_store name = call_of kind.Attach name []

-- The store was read.
abbrev pub read_store : DoneCall
read_store = call_of kind.Read [] []

-- These bytes were written to the store from an offset on.
abbrev pub wrote_store : ℕ → Bytes → DoneCall
wrote_store at bytes = call_of (kind.Write at) [] bytes

-- The store was synced.
abbrev pub synced_store : DoneCall
synced_store = call_of kind.Sync [] []

-- The kind of the call of this number, counted from 0, and the name handed to it; None where there are no more calls.
abbrev pub call_at : List DoneCall → ℕ → Option (CallKind × Name)
call_at ds number = option_map (λ d. (d.kind, d.name)) (slice_get ds number)

-- A stage with nothing there.
abbrev pub fresh : Standing
fresh = record { files = λ n. None; lines = []; asked = 0; shown = []; attached = None; disk = stable []; written = 0 }

-- Whether the attached store is the file of this name.
abbrev pub is_attached : Option Name → Name → Bool
is_attached None name = false
is_attached (Some n) name = bytes_eq n name

-- What stands once the file of this name holds these bytes, or is gone where there are none. If it is the file of the
-- attached store, the store has these bytes, and all of them are synced.
abbrev pub file_replaced : Name → Option Bytes → Standing → Standing
file_replaced name bytes s = record s {
  files = file_holding name bytes s.files;
  disk = if is_attached s.attached name then stable (bytes_or_none bytes) else s.disk;
}

-- What a call of a kind makes of what stands. The lines that are left stand elsewhere.
abbrev pub after_call_of : CallKind → Name → Bytes → Standing → Standing
after_call_of kind.Add name bytes s = file_replaced name (Some bytes) s
after_call_of kind.Load name bytes s = s
after_call_of kind.Save name bytes s = file_replaced name (Some bytes) s
after_call_of kind.Attach name bytes s = with_store_opened name s
after_call_of kind.Read name bytes s = s
after_call_of (kind.Write at) name bytes s = with_written at bytes s
after_call_of kind.Sync name bytes s = with_store_synced s
after_call_of kind.Take name bytes s = record s { asked = s.asked + 1 }
after_call_of kind.End name bytes s = s
after_call_of kind.Show name bytes s = with_shown bytes s

-- What stands after a call.
abbrev pub standing_after : Standing → DoneCall → Standing
standing_after s d = after_call_of d.kind d.name d.bytes s

-- What stands after these calls, one after the other.
abbrev pub after : Standing → List DoneCall → Standing
after s ds = fold standing_after s ds

-- Whether this is a call of the stage, and not a file that was put there between them.
abbrev pub is_call : CallKind → Bool
is_call kind.Add = false
is_call _ = true

-- How many calls of the stage these are.
abbrev pub calls_made : List DoneCall → ℕ
calls_made ds = length (filter (λ d. is_call d.kind) ds)

-- The first n calls of the stage, with the files that were put there before them; all where there are fewer.
abbrev pub first_calls : ℕ → List DoneCall → List DoneCall
first_calls zero ds = []
first_calls (suc n) [] = []
first_calls (suc n) (d ∷ ds) = d ∷ first_calls (if is_call d.kind then n else suc n) ds

-- What stood right after the call of this number, counted from 0.
abbrev pub right_after : ℕ → List DoneCall → Standing
right_after number ds = after fresh (first_calls (suc number) ds)
