-- Bytes that are a state of a game: words that contracts between crates and proofs use besides those of specs/Fit.antt.
use Rattle.paw_base.specs.declared.layout.TheConstants.{STATE_LENGTH}
use Rattle.std.specs.Prelude.{◌≡◌, ℕ, Option, take}
use Rattle.paw_base.specs.Bytes.{Bytes}
use Rattle.paw_game.specs.Game.{GameLists}
use Rattle.paw_process.specs.inner.Kept.{machine_kept}
use Rattle.paw_process.specs.inner.Kept.{machine_restored, waiting_at, WaitsAtPrompt}
use Rattle.paw_state.specs.declared.parts.Restored.{Restored}
use Rattle.paw_state.specs.State.{IsValidState, FitsFields}
pub use Rattle.paw_state.specs.inner.State.{state_read}
use Rattle.paw_state.specs.State.{state_bytes}
use Rattle.paw_state.specs.inner.Faults.{fields_fault}
use Rattle.paw_state.specs.inner.Fields.{fields_at}

-- The offset of the first field that breaks its rule; none where the bytes are fit.
abbrev pub unfit : GameLists → Bytes → Option ℕ
unfit g bytes = fields_fault g (fields_at bytes)

-- Parts that were read from bytes: the bytes are those of their state, which follows its rules; the machine waits at
-- the prompt with a full budget.
pub record IsRead (g : GameLists) (bytes : Bytes) (r : Restored) : Type 0 where
  pub are : take STATE_LENGTH bytes ≡ state_bytes (state_read r)
  pub valid : IsValidState g (state_read r)
  pub fits : FitsFields (state_read r)
  pub machine : r.machine ≡ machine_restored (machine_kept r.machine) (waiting_at r.prompt)
  pub stands : WaitsAtPrompt r.prompt r.machine
