-- The first fault of a state's fields, part by part, each at its offset: words that contracts of checks and proofs use.
-- specs/Fields.antt says the same in one list.
use Rattle.std.specs.Prelude.{ℕ, suc, ◌+◌, ◌-◌, ◌==◌, Bool, List, [], ◌∷◌, Option, Some, None, Result, Ok}
use Rattle.std.specs.Prelude.{Err}
use Rattle.std.specs.Prelude.{length, take, drop, is_some, nat_le, if◌then◌else◌}
use Rattle.std.specs.Option.{option_or}
use Rattle.paw_base.specs.Bytes.{Bytes, ObjectPlaces}
use Rattle.paw_base.specs.declared.codes.TheConstants.{PROCESS}
use Rattle.paw_game.specs.Game.{GameLists}
use Rattle.paw_game.specs.Tables.{head_at, condact_at}
use Rattle.paw_game.specs.Valid.{is_place}
use Rattle.paw_process.specs.Kept.{may_open, has_code, parameter_of}
use Rattle.paw_state.specs.declared.fields.TheConstants.{POSITION_FLAGS, POSITION_PLACES, POSITION_LENGTH}
use Rattle.paw_state.specs.declared.fields.TheConstants.{FRAME_LENGTH, FRAME_ENTRY, FRAME_AT}
use Rattle.paw_state.specs.declared.fields.TheConstants.{FRAME_ACTED}
use Rattle.paw_state.specs.declared.fields.FrameField.{FrameField}
use Rattle.paw_state.specs.declared.fields.Fields.{Fields}
use Rattle.paw_state.specs.declared.position_field.PositionField.{PositionField}
use Rattle.paw_state.specs.declared.StateFault.{StateFault}
use Rattle.paw_state.specs.Fields.{fault_from}
use Rattle.paw_state.specs.Fields.{state_fields}

-- ---- rules and faults ----

-- None where the rule of a field holds; otherwise the offset of the field.
abbrev pub rule : ℕ → Bool → Option ℕ
rule at holds = if holds then None else Some at

-- The first of these faults; none where there is none.
abbrev pub first : List (Option ℕ) → Option ℕ
first [] = None
first (o ∷ later) = option_or o (first later)

-- The offset of the first byte that breaks this rule, where the first byte stands at this offset.
unfoldable pub first_not : (ℕ → Bool) → ℕ → Bytes → Option ℕ
first_not p at [] = None
first_not p at (b ∷ bs) = if p b then first_not p (suc at) bs else Some at

-- ---- the rules of the fields ----

-- A byte is 0.
abbrev pub is_zero : ℕ → Bool
is_zero b = b == 0

-- The first fault of the bytes for places: those of the objects come first, each a place of the game; the others are 0.
abbrev pub places_fault : GameLists → ℕ → ObjectPlaces → Option ℕ
places_fault g at places = first (
    first_not (is_place (length g.locations)) at (take (length g.objects) places)
    ∷ first_not is_zero (at + length g.objects) (drop (length g.objects) places)
    ∷ [])

-- The first fault of a position that isn't there: its flags and its places are 0.
abbrev pub absent_fault : ℕ → PositionField → Option ℕ
absent_fault at h = first (
    first_not is_zero (at + POSITION_FLAGS) h.flags
    ∷ first_not is_zero (at + POSITION_PLACES) h.places
    ∷ [])

-- The first fault of a position: 0 or 1 says whether it is there; one that isn't has zeros alone, and the places of one
-- that is are like those of now.
abbrev pub position_fault : GameLists → ℕ → PositionField → Option ℕ
position_fault g at h = first (
    rule at (nat_le h.there 1)
    ∷ (if h.there == 0 then absent_fault at h else places_fault g (at + POSITION_PLACES) h.places)
    ∷ [])

-- The first fault of positions that stand one after the other from this offset on.
unfoldable pub kept_fault : GameLists → ℕ → List PositionField → Option ℕ
kept_fault g at [] = None
kept_fault g at (h ∷ hs) = option_or (position_fault g at h) (kept_fault g (at + POSITION_LENGTH) hs)

-- The first fault of an unused frame: it is 0.
abbrev pub unused_fault : ℕ → FrameField → Option ℕ
unused_fault at r = first (
    rule at (r.table == 0)
    ∷ rule (at + FRAME_ENTRY) (r.entry == 0)
    ∷ rule (at + FRAME_AT) (r.at == 0)
    ∷ rule (at + FRAME_ACTED) (r.acted == 0)
    ∷ [])

-- The first fault of a used frame: it is of the table that was called (the outermost of table 0, 1 or 2), and stands at
-- a condact with this code.
abbrev pub used_fault : GameLists → ℕ → Option ℕ → ℕ → FrameField → Option ℕ
used_fault g code caller at r = first (
    rule at (may_open caller r.table)
    ∷ rule (at + FRAME_ENTRY) (is_some (head_at g r.table r.entry))
    ∷ rule (at + FRAME_AT) (has_code code (condact_at g r.table r.entry r.at))
    ∷ rule (at + FRAME_ACTED) (nat_le r.acted 1)
    ∷ [])

-- The first fault of a frame from which on n are used: the last is at the prompt's condact, each other at a PROCESS.
abbrev pub frame_fault : GameLists → ℕ → Option ℕ → ℕ → ℕ → FrameField → Option ℕ
frame_fault g code caller n at r =
    if n == 0 then unused_fault at r else used_fault g (if n == 1 then code else PROCESS) caller at r

-- The table that the PROCESS of a frame calls.
abbrev pub called_table : GameLists → FrameField → Option ℕ
called_table g r = Some (parameter_of (condact_at g r.table r.entry r.at))

-- The first fault of frames that stand from this offset on, of which n are used, the first of them of the table that
-- was called.
unfoldable pub frame_fields_fault : GameLists → ℕ → Option ℕ → ℕ → ℕ → List FrameField → Option ℕ
frame_fields_fault g code caller n at [] = None
frame_fields_fault g code caller n at (r ∷ rs) =
    option_or (frame_fault g code caller n at r)
    (frame_fields_fault g code (called_table g r) (n - 1) (at + FRAME_LENGTH) rs)

-- ---- of the list of fields ----

-- The offset of the first field that breaks its rule.
abbrev pub fields_fault : GameLists → Fields → Option ℕ
fields_fault g f = fault_from g 0 (state_fields f)

-- ---- what checks answer ----

-- What a check answers: a fault is the offset of the field that breaks a rule.
abbrev pub fault_of : Result (Unit {0}) StateFault → Option ℕ
fault_of (Ok u) = None
fault_of (Err e) = Some e.at
