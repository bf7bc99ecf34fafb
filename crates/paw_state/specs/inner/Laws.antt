-- The laws of a state's bytes.
use Rattle.paw_base.specs.declared.layout.TheConstants.{STATE_LENGTH}
use Rattle.std.specs.Prelude.{◌≡◌, ℕ, ◌≤◌, ◌++◌, Some, None, length, ◌↔◌}
use Rattle.paw_base.specs.Bytes.{Bytes}
use Rattle.paw_game.specs.Game.{GameLists}
use Rattle.paw_game.specs.Valid.{Valid}
use Rattle.paw_state.specs.State.{State, IsValidState, FitsFields, AreBytes}
use Rattle.paw_state.specs.declared.fields.Fields.{Fields}
use Rattle.paw_state.specs.Fields.{AreSized, bytes_of, state_fields}
use Rattle.paw_state.specs.State.{state_bytes}
use Rattle.paw_state.specs.Fit.{Fit, Unfit}
use Rattle.paw_state.specs.inner.Fields.{fields_at}
use Rattle.paw_state.specs.inner.Fit.{unfit}

-- Fields stand at their offsets in the bytes that they are written to.
abbrev pub FieldsStand : Type 0
FieldsStand = (f : Fields) (rest : Bytes) → AreSized f → fields_at (bytes_of (state_fields f) ++ rest) ≡ f

-- Bytes have one first fault at most, which is that of the fields at these offsets.
abbrev pub OneFault : Type 0
OneFault = (g : GameLists) (bytes : Bytes) (at : ℕ) → Unfit g bytes at → unfit g bytes ≡ Some at

-- Bytes have a fault exactly where they are not fit.
abbrev pub FitOrUnfit : Type 0
FitOrUnfit =
    (g : GameLists) (bytes : Bytes) → Valid g → STATE_LENGTH ≤ length bytes → AreBytes bytes →
    (unfit g bytes ≡ None) ↔ Fit g bytes

-- Two states of a game with the same bytes are the same.
abbrev pub BytesTellTheState : Type 0
BytesTellTheState =
    (g : GameLists) (s t : State) → Valid g → IsValidState g s → FitsFields s → IsValidState g t → FitsFields t →
    state_bytes s ≡ state_bytes t → s ≡ t

-- A state has a fixed number of bytes, which are fit for the game, whatever follows them.
abbrev pub WrittenIsFit : Type 0
WrittenIsFit =
    (g : GameLists) (s : State) (rest : Bytes) → Valid g → IsValidState g s → FitsFields s →
    (length (state_bytes s) ≡ STATE_LENGTH) × Fit g (state_bytes s ++ rest)
