-- What a commit writes, and how much at most.
use Rattle.std.specs.Prelude.{ℕ, ◌+◌, ◌-◌, ◌*◌, nat_le, length, Option, Some, None, if◌then◌else◌}
use Rattle.paw_base.specs.Bytes.{Bytes, Text}
use Rattle.paw_stage.specs.Stage.{Standing}
use Rattle.paw_stage.specs.inner.Stage.{WritesAtMost}
use Rattle.paw_journal.specs.declared.drafting.SlotState.{SlotState}
use Rattle.paw_journal.specs.declared.layout.Slot.{Slot}
use Rattle.paw_journal.specs.Session.{most_changes, slot, differing}
use Rattle.paw_journal.specs.inner.Room.{slot_number, kept_slot}

-- The most bytes that a commit of a state and a piece writes over a slot, by what is kept of that slot. Where it has a
-- state, and its change records and the new ones aren't too many, these are four bytes for each offset at which that
-- state and the new one differ; otherwise they are a whole base.
abbrev pub most_written : Option SlotState → Bytes → Text → ℕ
most_written None state piece = 4224 + length piece
most_written (Some kept) state piece =
    if nat_le (kept.records + differing kept.state state) most_changes
    then 128 + length piece + 4 * differing kept.state state
    else 4224 + length piece

-- No more was written than a commit may write to a session that uses this slot: it writes over the other.
abbrev pub WritesLittle : Slot → Bytes → Text → Standing → Standing → Type 0
WritesLittle used state piece old new =
    WritesAtMost (most_written (kept_slot (slot (1 - slot_number used) old.disk.bytes)) state piece) old new
