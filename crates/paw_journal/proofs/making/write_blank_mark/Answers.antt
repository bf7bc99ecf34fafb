use Rattle.paw_stage.specs.Stage.{Standing}
use Rattle.paw_journal.proofs.Calls.{writes_weaker}
use Rattle.paw_journal.proofs.Makes.{empty_is_short, in_first_byte, begun_blank}
use Rattle.paw_journal.proofs.making.write_blank_mark.Goals as goal

pub returns : goal.returns
returns g c =
    let s : Standing = g.S.Stage.standing c.args.stage.now in
    record {
      call = writes_weaker c.write_and_sync.ensures.call (λ tells. begun_blank s (g.S.Stage.standing c.write_and_sync.new.stage) (c.requires.empty tells))
          (λ tells m. in_first_byte 0 s m (empty_is_short s.disk (c.requires.rests tells).stable (c.requires.empty tells)));
    }
