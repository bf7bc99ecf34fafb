use Rattle.paw_stage.specs.Stage.{Standing}
use Rattle.paw_journal.proofs.Calls.{writes_weaker}
use Rattle.paw_journal.proofs.Makes.{in_mark}
use Rattle.paw_journal.proofs.making.mark.Goals as goal

pub returns : goal.returns
returns g c =
    let s : Standing = g.S.Stage.standing c.args.stage.now in
    record {
      call = writes_weaker c.write_and_sync.ensures.call (λ tells holds. holds)
          (λ tells m. in_mark s m (c.requires.long tells) (c.requires.rests tells).stable);
    }
