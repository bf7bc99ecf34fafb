use Rattle.std.proofs.Common.{refl, sym}
use Rattle.paw_trial.specs.Trial.{trial_reading}
use Rattle.paw_top.specs.Tries.{without_memory}
use Rattle.paw_top.proofs.Trying.{halt_answers, halted}
use Rattle.paw_top.proofs.trial.stopped_as.Goals as goal

pub returns-in-Some-clause-form : goal.returns-in-Some-clause-form
returns-in-Some-clause-form c = rw c.outcome_of_halt.ensures.value (halt_answers c.in-Some.halt).0

pub returns-in-Some-clause-memory : goal.returns-in-Some-clause-memory
returns-in-Some-clause-memory c = rw c.outcome_of_halt.ensures.value (halt_answers c.in-Some.halt).1

pub returns-in-Some-clause-fine : goal.returns-in-Some-clause-fine
returns-in-Some-clause-fine c = rw c.outcome_of_halt.ensures.value (halt_answers c.in-Some.halt).2

pub returns-in-Some-clause-tries : goal.returns-in-Some-clause-tries
returns-in-Some-clause-tries c = λ n s h.
    rw c.outcome_of_halt.ensures.value (halted n s c.args.end c.in-Some.halt (trial_reading n) refl (sym c.in-Some.ensures.value) h)

pub returns-in-None-clause-tries : goal.returns-in-None-clause-tries
returns-in-None-clause-tries c = λ n s h. without_memory refl
