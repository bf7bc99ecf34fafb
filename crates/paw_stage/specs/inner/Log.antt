-- A record of calls, kept in memory that was taken beforehand.
use Rattle.std.specs.Prelude.{◌≡◌, ℕ, suc, ◌-◌, ◌≤◌, ◌<◌, nat_lt, nat_le, ◌&&◌, Bool, List, [], ◌∷◌, ◌++◌}
use Rattle.std.specs.Prelude.{map, length, take, slice_range, Option, Some, None}
use Rattle.paw_base.specs.Bytes.{Bytes, Name, Text}
use Rattle.paw_stage.specs.Stage.{Standing}
use Rattle.paw_stage.specs.inner.Done.{DoneCall, size_of, fresh, after_call_of, after, calls_made, first_calls}
use Rattle.paw_stage.specs.declared.log.CallKind.{CallKind}
use Rattle.paw_stage.specs.declared.log.Call.{Call}

-- The calls that were done, and how many calls and bytes may still be recorded.
pub record Logged : Type 0 where
  pub calls : List DoneCall
  pub calls_left : ℕ
  pub bytes_left : ℕ

-- Whether there is room for one more call with this number of bytes.
abbrev pub has_room : Logged → ℕ → Bool
has_room l n = nat_lt 0 l.calls_left && nat_le n l.bytes_left

-- One call more, which takes one of the spare calls and its bytes from the spare bytes.
abbrev pub logged_in_spare_room : DoneCall → Logged → Logged
logged_in_spare_room d l = record {
  calls = l.calls ++ d ∷ [];
  calls_left = l.calls_left - 1;
  bytes_left = l.bytes_left - size_of d;
}

-- One call more, for which room was made besides the spare room.
abbrev pub call_logged : DoneCall → Logged → Logged
call_logged d l = record l { calls = l.calls ++ d ∷ [] }

-- What a call did, with its name and bytes read from the room.
abbrev pub done_in : Bytes → Call → DoneCall
done_in room c = record { kind = c.kind; name = slice_range room c.from c.mid; bytes = slice_range room c.mid c.to }

-- What calls that lie in this room did, in order.
abbrev pub all_done : Bytes → List Call → List DoneCall
all_done room calls = map (done_in room) calls

-- What stands once calls that lie in this room are played again.
abbrev pub calls_replayed : Bytes → List Call → Standing
calls_replayed room calls = after fresh (all_done room calls)

-- A text is what was shown before a call of this kind, and another is that after it.
abbrev pub IsTextOfCall : CallKind → Bytes → Text → Text → Type 0
IsTextOfCall kind bytes old new =
    (s : Standing) (name : Name) → s.shown ≡ old → (after_call_of kind name bytes s).shown ≡ new

-- The offsets of calls that lie one after the other, between start and end.
abbrev pub AreLaid : List Call → ℕ → ℕ → Type 0
AreLaid [] start end = start ≤ end
AreLaid (c ∷ cs) start end = (start ≤ c.from) × (c.from ≤ c.mid) × (c.mid ≤ c.to) × AreLaid cs c.to end

-- The first n of these calls end with the call of the stage of this number, counted from 0; there is no such n where
-- fewer were made. That doesn't depend on the room they lie in.
abbrev pub IsEndOf : List Call → ℕ → Option ℕ → Type 0
IsEndOf calls number None = (room : Bytes) → calls_made (all_done room calls) ≤ number
IsEndOf calls number (Some n) =
    (n ≤ length calls)
    × ((room : Bytes) → (number < calls_made (all_done room calls))
    × (first_calls (suc number) (all_done room calls) ≡ all_done room (take n calls)))
