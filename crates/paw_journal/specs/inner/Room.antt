-- The buffers of a journal, and what it keeps of the slots of its store.
use Rattle.paw_journal.specs.declared.layout.TheConstants.{PIECE_AT}
use Rattle.std.specs.Prelude.{◌≡◌, ◌&&◌, ℕ, Option, Some, None, if◌then◌else◌}
use Rattle.paw_base.specs.Bytes.{Bytes, Text}
use Rattle.paw_journal.specs.declared.layout.Slot.{Slot}
use Rattle.paw_journal.specs.declared.layout.Slot.TheVariants as which
use Rattle.paw_journal.specs.declared.drafting.SlotState.{SlotState}
use Rattle.paw_stage.specs.Stage.{Standing}
use Rattle.paw_journal.specs.Session.{Digests, slot, is_current, two_byte_number, slot_state, slot_shows}
use Rattle.paw_journal.specs.Session.{has_state}
use Rattle.paw_journal.specs.Session.{stretch, piece_length}
use Rattle.paw_journal.specs.inner.Session.{session_shown}

-- The number of a slot.
abbrev pub slot_number : Slot → ℕ
slot_number which.First = 0
slot_number which.Second = 1

-- The state of a slot, with the number of its change records.
abbrev pub slot_with_records : Bytes → SlotState
slot_with_records bytes = record { records = two_byte_number 0 bytes; state = slot_state bytes }

-- The same, for a commit to go on from; none where it has no state, or is of an older version.
abbrev pub kept_slot : Bytes → Option SlotState
kept_slot bytes = if is_current bytes && has_state bytes then Some (slot_with_records bytes) else None

-- The bytes on their way to the store or from it, the state and the piece that the session shows, and the states of
-- both slots.
pub record Room : Type 0 where
  pub slot : Bytes
  pub state : Bytes
  pub piece : Text
  pub first : Option SlotState
  pub second : Option SlotState

-- What a room keeps of a slot.
abbrev pub kept_of : Slot → Room → Option SlotState
kept_of which.First room = room.first
kept_of which.Second room = room.second

-- A room that keeps another state of a slot.
abbrev pub with_slot_kept : Slot → Option SlotState → Room → Room
with_slot_kept which.First kept room = record room { first = kept }
with_slot_kept which.Second kept room = record room { second = kept }

-- A room that shows this state of the slot that was read, and the slot's piece, whose length the state gives.
abbrev pub with_state : Bytes → Room → Room
with_state state room = record room { state = state; piece = stretch PIECE_AT (piece_length state) room.slot }

-- A room that keeps this state of both slots, which are made with it.
abbrev pub with_made : Bytes → Room → Room
with_made state room = record room {
  first = Some (record { records = 0; state = state });
  second = Some (record { records = 0; state = state });
}

-- The slot that was read is this slot of the store.
abbrev pub HasReadSlot : Slot → Standing → Room → Type 0
HasReadSlot which s room = room.slot ≡ slot (slot_number which) s.disk.bytes

-- The room shows what the slot that was read shows.
abbrev pub ShowsSlot : Digests → Room → Room → Type 0
ShowsSlot digests old new = slot_shows digests old.slot ≡ session_shown digests new.state new.piece

-- The room keeps what a commit may go on from of this slot, which was read, and may show another state and piece.
abbrev pub KeepsRead : Slot → Room → Room → Type 0
KeepsRead which old new =
    new ≡ with_slot_kept which (kept_slot old.slot) (record old { state = new.state; piece = new.piece })

-- A room keeps the states of both slots of a store.
pub record KeepsSlots (room : Room) (bytes : Bytes) : Type 0 where
  pub first : room.first ≡ kept_slot (slot 0 bytes)
  pub second : room.second ≡ kept_slot (slot 1 bytes)
