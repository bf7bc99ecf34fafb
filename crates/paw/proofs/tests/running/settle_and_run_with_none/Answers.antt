use Rattle.std.proofs.Common.{rules}
use Rattle.paw_routines.proofs.ProgramAnswers.{given_stand}
use Rattle.paw.proofs.tests.running.settle_and_run_with_none.Goals as goal

pub new-requires : goal.new-requires
new-requires g c = record { answers = given_stand _ _ (λ n x below small. tt) (λ n x y below small byte called. search rules) }
