-- How a session lies in the bytes of a store, and what bytes of a store stand for.
use Rattle.std.specs.Prelude.{◌≡◌, ◌⊎◌, ◌==◌, ◌&&◌, ℕ, ◌+◌, ◌-◌, ◌*◌, ◌/◌, ◌%◌, Bool, not, nat_lt, nat_le, List}
use Rattle.std.specs.Prelude.{[], suc}
use Rattle.std.specs.Prelude.{◌∷◌, ◌++◌, length, take, drop, slice_index, slice_set, position, Option, Some}
use Rattle.std.specs.Prelude.{None, is_none, if◌then◌else◌}
use Rattle.std.specs.List.{slice_index_or}
use Rattle.paw_base.specs.declared.layout.TheConstants.{STATE_LENGTH, FIRST_LENGTH, FORM_LENGTHS, PIECE_LENGTH_AT}
unfoldable pub use Rattle.paw_base.specs.Bytes.{zeros}
use Rattle.paw_base.specs.Bytes.{Bytes, Text}
use Rattle.paw_stage.specs.Disk.{put_at}
use Rattle.paw_journal.specs.declared.layout.TheConstants.{HEADER_LENGTH, SLOT_LENGTH, SESSION_LENGTH, BASE_AT}
use Rattle.paw_journal.specs.declared.layout.TheConstants.{BASE_LENGTH, PIECE_AT, CHANGES_AT, MOST_CHANGES}
use Rattle.paw_base.specs.declared.layout.TheConstants.{FIRST_VERSION, VERSION}
use Rattle.paw_journal.specs.declared.refusal.SessionPart.{SessionPart}
use Rattle.paw_journal.specs.declared.refusal.SessionPart.TheVariants as part

-- The length of the header in bytes. A session is a header and then two slots, 0 and 1.
abbrev pub header_length : ℕ
header_length = HEADER_LENGTH

-- The length of a slot in bytes.
abbrev pub slot_length : ℕ
slot_length = SLOT_LENGTH

-- The length of a session in bytes: its header and two slots.
abbrev pub session_length : ℕ
session_length = SESSION_LENGTH

-- The n bytes from an offset on.
abbrev pub stretch : ℕ → ℕ → Bytes → Bytes
stretch at n bytes = take n (drop at bytes)

-- The number of 16 bits at an offset, its low byte first.
abbrev pub two_byte_number : ℕ → Bytes → ℕ
two_byte_number at bytes = slice_index bytes at + 256 * slice_index bytes (at + 1)

-- The value of byte 0 of the header once the session is made. The low bit of byte 1 chooses a slot.
abbrev pub made_mark : ℕ
made_mark = 80

-- Byte 0 of a session.
abbrev pub session_mark : Bytes → ℕ
session_mark bytes = slice_index bytes 0

-- Which slot is in use: 0 or 1.
abbrev pub slot_in_use : Bytes → ℕ
slot_in_use bytes = slice_index bytes 1 % 2

-- Byte 2: the version of the session.
abbrev pub version : Bytes → ℕ
version bytes = slice_index bytes 2

-- The versions of a session: from the first up to the one that is written. Each slot has one of its own, and the
-- session's decides nothing else.
abbrev pub is_version : ℕ → Bool
is_version n = nat_le FIRST_VERSION n && nat_le n VERSION

-- The digests of what a session belongs to: its game, and the routines that it is played with.
pub record Digests : Type 0 where
  pub game : Bytes
  pub routines : Bytes

-- The digests that the header keeps.
abbrev pub kept_digests : Bytes → Digests
kept_digests bytes = record { game = stretch 32 32 bytes; routines = stretch 64 32 bytes }

-- A session belongs to a game and to routines that have these digests. If it keeps 32 zeros as the digest of its
-- routines, it isn't measured, and belongs to all routines.
pub record BelongsTo (game routines : Bytes) (kept : Digests) : Type 0 where
  pub of_game : kept.game ≡ game
  pub of_routines : (kept.routines ≡ zeros 32) ⊎ (kept.routines ≡ routines)

-- The bytes of slot k: the number of its change records (at 0), its version (at 2), its base (at 64), a piece (at
-- 4,160) and the change records (at 69,696).
abbrev pub slot : ℕ → Bytes → Bytes
slot k bytes = stretch (header_length + slot_length * k) slot_length bytes

-- The length of a slot's base in bytes.
abbrev pub base_length : ℕ
base_length = BASE_LENGTH

-- The most change records of a slot.
abbrev pub most_changes : ℕ
most_changes = MOST_CHANGES

-- Byte 2 of a slot: its version.
abbrev pub slot_version : Bytes → ℕ
slot_version bytes = slice_index bytes 2

-- Whether a slot is of the version that is written.
abbrev pub is_current : Bytes → Bool
is_current bytes = slot_version bytes == VERSION

-- The base of a slot.
abbrev pub base : Bytes → Bytes
base bytes = stretch BASE_AT base_length bytes

-- A change record: the offset of a byte of the base, the byte that stands there from then on, and a byte that is 0.
pub record Change : Type 0 where
  pub at : ℕ
  pub byte : ℕ
  pub last : ℕ

-- Whether a change is sound: its offset is one of the base, and its last byte is 0.
abbrev pub is_sound : Change → Bool
is_sound c = nat_lt c.at base_length && (c.last == 0)

-- The change records that stand in these bytes, one after the other, each in four bytes.
abbrev pub changes : Bytes → List Change
changes (a ∷ b ∷ c ∷ d ∷ bytes) = record { at = a + 256 * b; byte = c; last = d } ∷ changes bytes
changes bytes = []

-- The change records of a slot.
abbrev pub slot_changes : Bytes → List Change
slot_changes bytes = changes (stretch CHANGES_AT (4 * two_byte_number 0 bytes) bytes)

-- The number of the first change that isn't sound.
abbrev pub first_unsound : List Change → Option ℕ
first_unsound all = position (λ c. not (is_sound c)) all

-- The bytes with changes applied in order.
abbrev pub with_changes : List Change → Bytes → Bytes
with_changes [] bytes = bytes
with_changes (c ∷ more) bytes = with_changes more (slice_set bytes c.at c.byte)

-- The state of a slot: its base with its change records applied.
abbrev pub slot_state : Bytes → Bytes
slot_state bytes = with_changes (slot_changes bytes) (base bytes)

-- Whether a slot has a state: it has at most 4,096 change records, and each is sound.
abbrev pub has_state : Bytes → Bool
has_state bytes = nat_le (two_byte_number 0 bytes) most_changes && is_none (first_unsound (slot_changes bytes))

-- The length of a state in bytes. Bytes 1,369 and 1,370 give the length of the piece; after them come the kept
-- positions, which version 1 doesn't have.
abbrev pub state_length : ℕ
state_length = STATE_LENGTH

-- The length in bytes of a state in version 1.
abbrev pub first_length : ℕ
first_length = FIRST_LENGTH

-- How many bytes of a state a slot of this version has. A slot of a version that isn't known is read as one of
-- version 1.
abbrev pub form_length : ℕ → ℕ
form_length version = slice_index_or FORM_LENGTHS (version - 1) first_length

-- The state that a slot shows: the bytes that its version has, whatever stands after them, and zeros for the others.
abbrev pub shown_state : Bytes → Bytes
shown_state bytes =
    let n = form_length (slot_version bytes) in take n (slot_state bytes) ++ zeros (state_length - n)

-- The length in bytes of the piece of a state.
abbrev pub piece_length : Bytes → ℕ
piece_length state = two_byte_number PIECE_LENGTH_AT state

-- The piece of a slot.
abbrev pub slot_piece : Bytes → Text
slot_piece bytes = stretch PIECE_AT (piece_length (slot_state bytes)) bytes

-- What the bytes of a store stand for: no session (with their length and mark); a damaged one (with the offset of the
-- first broken rule); or one that shows a state and a piece (with the digests that it keeps).
pub data Recovered : Type 0 where
  Unmade : (length mark : ℕ) → Recovered
  Damaged : (part : SessionPart) (at : ℕ) → Recovered
  Shown : (digests : Digests) (state piece : Bytes) → Recovered

-- What a slot shows, given its first change that isn't sound: damage there; or, where all are sound, its state and its
-- piece.
abbrev pub shown_unless : Digests → Bytes → Option ℕ → Recovered
shown_unless digests bytes (Some n) = Damaged part.Slot (CHANGES_AT + 4 * n)
shown_unless digests bytes None = Shown digests (shown_state bytes) (slot_piece bytes)

-- What a slot shows. One with too many change records is damaged at its first byte.
unfoldable pub slot_shows : Digests → Bytes → Recovered
slot_shows digests bytes =
    if nat_le (two_byte_number 0 bytes) most_changes
    then shown_unless digests bytes (first_unsound (slot_changes bytes))
    else Damaged part.Slot 0

-- What the bytes stand for if slot k is the one in use.
unfoldable pub recover_by : ℕ → Bytes → Recovered
recover_by k bytes =
    if (length bytes == session_length) && (session_mark bytes == made_mark)
    then (if is_version (version bytes) then slot_shows (kept_digests bytes) (slot k bytes) else Damaged part.Header 2)
    else Unmade (length bytes) (session_mark bytes)

-- What the bytes stand for, by the slot that is in use.
unfoldable pub recover : Bytes → Recovered
recover bytes = recover_by (slot_in_use bytes) bytes

-- The bytes do not hold a session.
abbrev pub IsUnmade : Recovered → Type 0
IsUnmade (Unmade n m) = Unit {0}
IsUnmade (Damaged p at) = ⊥
IsUnmade (Shown d s p) = ⊥

-- ---- what is written ----

-- A slot as it is made: no change records, the version that is written, this state as its base, and this piece.
abbrev pub made_slot : Bytes → Text → Bytes
made_slot state piece = 0 ∷ 0 ∷ VERSION ∷ zeros 61 ++ state ++ piece ++ zeros (81920 - length piece)

-- A header as it is made, with this mark and these digests: slot 0 is in use, and the version is the one that is
-- written.
abbrev pub made_header : ℕ → Digests → Bytes
made_header mark digests = mark ∷ 0 ∷ VERSION ∷ zeros 29 ++ digests.game ++ digests.routines ++ zeros 32

-- A session that is newly made: both slots have this state and this piece.
abbrev pub made_session : Digests → Bytes → Text → Bytes
made_session digests state piece = made_header made_mark digests ++ made_slot state piece ++ made_slot state piece

-- The number of offsets at which two states differ.
unfoldable pub differing : Bytes → Bytes → ℕ
differing (x ∷ old) (y ∷ new) = (if x == y then 0 else 1) + differing old new
differing old new = 0

-- A change record in its four bytes: this byte replaces the one at this offset.
abbrev pub change_bytes : ℕ → ℕ → Bytes
change_bytes at byte = (at % 256) ∷ (at / 256) ∷ byte ∷ 0 ∷ []

-- The change records that lead from one state to another, as bytes: one for each byte that differs, in rising order.
-- Both states are given from this offset on.
unfoldable pub differences_from : ℕ → Bytes → Bytes → Bytes
differences_from at (x ∷ old) (y ∷ new) =
    (if x == y then [] else change_bytes at y) ++ differences_from (suc at) old new
differences_from at old new = []

-- The change records that lead from one whole state to another, as bytes.
abbrev pub differences : Bytes → Bytes → Bytes
differences old new = differences_from 0 old new

-- The first bytes of a slot of the version that is written, with this number of change records.
abbrev pub slot_head : ℕ → Bytes
slot_head records = (records % 256) ∷ (records / 256) ∷ VERSION ∷ []

-- A slot once it is given the version that is written, this number of change records, this piece, and these bytes at an
-- offset. All its other bytes stay.
abbrev pub slot_rewritten : ℕ → Bytes → ℕ → Text → Bytes → Bytes
slot_rewritten at new records piece bytes = put_at 0 (slot_head records) (put_at PIECE_AT piece (put_at at new bytes))

-- How many change records a slot has once those are added that give it this state: those that it has, and one for each
-- byte at which its state differs from this one.
abbrev pub records_with : Bytes → Bytes → ℕ
records_with state bytes = two_byte_number 0 bytes + differing (slot_state bytes) state

-- Whether a commit adds change records to a slot: it is of the version that is written, has a state, and has room for
-- them.
abbrev pub takes_changes : Bytes → Bytes → Bool
takes_changes state bytes = is_current bytes && has_state bytes && nat_le (records_with state bytes) most_changes

-- A slot after a commit gave it this state and this piece: by change records after those that it has, or by its base,
-- written whole.
unfoldable pub committed_slot : Bytes → Text → Bytes → Bytes
committed_slot state piece bytes =
    if takes_changes state bytes
    then slot_rewritten (CHANGES_AT + 4 * two_byte_number 0 bytes) (differences (slot_state bytes) state)
    (records_with state bytes) piece bytes
    else slot_rewritten BASE_AT state 0 piece bytes

-- The bytes of a session after a commit to slot k, which is then in use. All other bytes stay.
unfoldable pub committed_in : ℕ → Bytes → Text → Bytes → Bytes
committed_in k state piece bytes =
    put_at 1 (k ∷ []) (put_at (header_length + slot_length * k) (committed_slot state piece (slot k bytes)) bytes)

-- The bytes of a session after a commit of this state and this piece, to the slot that isn't in use.
unfoldable pub session_committed : Bytes → Text → Bytes → Bytes
session_committed state piece bytes = committed_in (1 - slot_in_use bytes) state piece bytes
