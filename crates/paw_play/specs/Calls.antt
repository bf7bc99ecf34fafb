-- The calls of a stage that playing makes.
use Rattle.std.specs.Prelude.{List, [], ◌∷◌}
use Rattle.paw_stage.specs.declared.StageCall.{StageCall}
use Rattle.paw_stage.specs.declared.StageCall.TheVariants as call

-- The calls that a walk makes.
abbrev pub walk_calls : List StageCall
walk_calls = call.Ask ∷ call.Show ∷ []

-- The calls that playing on with a session makes.
abbrev pub play_calls : List StageCall
play_calls = call.Write ∷ call.Sync ∷ walk_calls

-- The calls that a session needs, from the attach of its store on.
abbrev pub session_calls : List StageCall
session_calls = call.Attach ∷ call.Read ∷ play_calls
