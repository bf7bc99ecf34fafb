-- What a condition answers.
use Rattle.std.specs.Prelude.{ℕ, Bool, true, false, if◌then◌else◌}
use Rattle.std.specs.Option.{option_map_or}
use Rattle.paw_base.specs.declared.flags.TheConstants.{VERB_FLAG}
use Rattle.paw_game.specs.Game.{GameLists}
use Rattle.paw_game.specs.Tables.{exit_at}
use Rattle.paw_world.specs.World.{World, flag, with_flag}
use Rattle.paw_effects.specs.declared.act.Truth.{Truth}
use Rattle.paw_effects.specs.declared.act.Truth.TheVariants as truth

-- What a condition answers, and the world after it: CHANCE makes a draw, MOVE changes a flag.
pub record Tested : Type 0 where
  pub answer : Truth
  pub world : World

-- The answer of a condition: yes where it holds, and no otherwise.
abbrev pub truth_of : Bool → Truth
truth_of b = if b then truth.Yes else truth.No

-- A condition answers by whether it holds, and leaves this world.
abbrev pub answers : World → Bool → Tested
answers w b = record { answer = truth_of b; world = w }

-- MOVE takes the exit for the sentence's verb from the location in a flag, and sets the flag to where it leads. Where
-- there is no such exit it fails, and changes nothing.
abbrev pub moves : GameLists → World → ℕ → Tested
moves g w f =
    option_map_or (λ to. answers (with_flag w f to) true) (exit_at g (flag w f) (flag w VERB_FLAG)) (answers w false)
