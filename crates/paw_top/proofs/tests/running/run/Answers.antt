use Rattle.std.proofs.Common.{rules}
use Rattle.paw_routines.proofs.ProgramAnswers.{given_stand}
use Rattle.paw_top.proofs.tests.running.run.Goals as goal

pub new-routines-requires : goal.new-routines-requires
new-routines-requires g c = record { answers = given_stand _ _ (λ n x below small. tt) (λ n x y below small byte called. search rules) }
