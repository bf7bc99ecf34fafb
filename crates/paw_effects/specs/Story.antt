-- A game with the routines that it calls.
use Rattle.paw_base.specs.Bytes.{RoutineAnswers}
use Rattle.paw_game.specs.Game.{GameLists}

-- A game, and the answers of the routines that its EXTERN calls, 256 of each.
pub record Story : Type 0 where
  pub game : GameLists
  pub answers : RoutineAnswers

-- The story of a game with these answers.
abbrev pub story_of : GameLists → RoutineAnswers → Story
story_of g answers = record { game = g; answers = answers }
