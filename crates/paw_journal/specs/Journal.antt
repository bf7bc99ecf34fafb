-- What the calls of a journal answer, and what they leave.
use Rattle.std.specs.Prelude.{List, [], ◌∷◌}
use Rattle.paw_stage.specs.declared.StageCall.{StageCall}
use Rattle.paw_stage.specs.declared.StageCall.TheVariants as call

-- The calls by which something is written to the store: a write, and a sync.
abbrev pub writing_calls : List StageCall
writing_calls = call.Write ∷ call.Sync ∷ []
