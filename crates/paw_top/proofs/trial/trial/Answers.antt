use Rattle.std.proofs.Common.{refl, subst, sym}
use Rattle.paw_trial.specs.Trial.{trial_reading}
use Rattle.paw_trial.specs.inner.Trial.{IsTextOf}
use Rattle.paw_journal.proofs.Serving.{serves_none}
use Rattle.paw_top.proofs.Trying.{told}
use Rattle.paw_top.proofs.trial.trial.Goals as goal

pub returns-in-Ok-clause-tries : goal.returns-in-Ok-clause-tries
returns-in-Ok-clause-tries g c = λ tells.
    told c.args.n _ _ c.show_text.result c.as_bytes.result.now (trial_reading c.args.n) refl
    (subst (IsTextOf c.args.n (trial_reading c.args.n)) (sym c.as_bytes.ensures.value) c.in-Ok.ensures.line) (c.show_text.ensures.shows tells)

pub returns-in-Err-clause-tries : goal.returns-in-Err-clause-tries
returns-in-Err-clause-tries g c = λ tells. c.stopped_as.ensures.tries c.args.n (g.S.Stage.standing c.args.stage.now) c.in-Err.ensures.stops

pub returns-in-Err-clause-serves : goal.returns-in-Err-clause-serves
returns-in-Err-clause-serves g c = rw c.stopped_as.ensures.fine (serves_none _ _ _)
