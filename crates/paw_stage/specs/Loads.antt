-- The calls that a load counts.
use Rattle.std.specs.Prelude.{List, [], ◌∷◌}
use Rattle.paw_stage.specs.declared.StageCall.{StageCall}
use Rattle.paw_stage.specs.declared.StageCall.TheVariants as call

-- The two counts of a load: of loads that failed, and of loads that found no file.
abbrev pub load_calls : List StageCall
load_calls = call.Load ∷ call.LoadAbsent ∷ []
