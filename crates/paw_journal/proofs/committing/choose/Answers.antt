use Rattle.paw_stage.specs.Stage.{Standing}
use Rattle.paw_journal.proofs.Calls.{writes_weaker}
use Rattle.paw_journal.proofs.Chooses.{slot_small, in_choice}
use Rattle.paw_journal.proofs.committing.choose.Goals as goal

pub returns-clause-call : goal.returns-clause-call
returns-clause-call g c =
    let s : Standing = g.S.Stage.standing c.args.stage.now in
    writes_weaker (rw c.selector.ensures.value at c.write_and_sync.ensures.call) (λ tells holds. holds)
    (λ tells m. in_choice _ s m (slot_small c.args.which) (c.requires.long tells) (c.requires.rests tells).stable)
