-- Bytes that are a state of a game.
use Rattle.paw_base.specs.declared.layout.TheConstants.{STATE_LENGTH}
use Rattle.std.specs.Prelude.{◌≡◌, ℕ, Some, take}
use Rattle.paw_base.specs.Bytes.{Bytes}
use Rattle.paw_game.specs.Game.{GameLists}
use Rattle.paw_state.specs.declared.fields.Fields.{Fields}
use Rattle.paw_state.specs.Fields.{AreSized, bytes_of, state_fields, fault_from}
use Rattle.paw_state.specs.State.{State, IsValidState, FitsFields, state_bytes}

-- Bytes are fit for a game if the first STATE_LENGTH of them are those of a state that follows its rules.
pub record Fit (g : GameLists) (bytes : Bytes) : Type 0 where
  pub state : State
  pub valid : IsValidState g state
  pub fits : FitsFields state
  pub are : take STATE_LENGTH bytes ≡ state_bytes state

-- Bytes are unfit at the offset of the first field that breaks its rule.
pub record Unfit (g : GameLists) (bytes : Bytes) (at : ℕ) : Type 0 where
  pub fields : Fields
  pub sized : AreSized fields
  pub are : take STATE_LENGTH bytes ≡ bytes_of (state_fields fields)
  pub fault : fault_from g 0 (state_fields fields) ≡ Some at
