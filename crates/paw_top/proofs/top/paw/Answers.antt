use Rattle.paw_play.proofs.Failing.{left_as_read}
use Rattle.paw_top.proofs.Completing.{unhindered}
use Rattle.paw_top.proofs.EndMoments.{ends_at_moment}
use Rattle.paw_top.specs.inner.Commands.{command_meant}
use Rattle.paw_top.proofs.top.paw.Goals as goal

pub returns-in-Some-clause-completes : goal.returns-in-Some-clause-completes
returns-in-Some-clause-completes g c = λ none. unhindered c.run.result _ _ c.run.ensures.serves.counts_failure none

pub returns-in-Some-clause-stands : goal.returns-in-Some-clause-stands
returns-in-Some-clause-stands g c = λ tells. rw c.in-Some.ensures.value
    (λ X answers.
    ends_at_moment g.S.Stage g.met.S.Stage.only_now g.met.S.Stage.counts_now c.args.stage.now c.run.new.stage tells
    (c.run.ensures.serves.tells.0 tells) (command_meant c.in-Some.command) X (c.run.ensures.moments tells X answers))

pub returns-in-Some-clause-left : goal.returns-in-Some-clause-left
returns-in-Some-clause-left g c = λ tells name.
    left_as_read g.S.Stage g.met.S.Stage.only_now g.met.S.Stage.counts_now g.met.S.Stage.may_stay g.met.S.Stage.files_hold
    c.run.new.stage name (c.run.ensures.serves.tells.0 tells)

pub returns-in-None-clause-left : goal.returns-in-None-clause-left
returns-in-None-clause-left g c = λ tells name.
    left_as_read g.S.Stage g.met.S.Stage.only_now g.met.S.Stage.counts_now g.met.S.Stage.may_stay g.met.S.Stage.files_hold
    c.args.stage.now name tells
