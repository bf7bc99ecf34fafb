use Rattle.std.proofs.Common.{arith, length, ap, subst}
use Rattle.paw_journal.specs.inner.Session.{digests_of}
use Rattle.paw_journal.specs.inner.Writes.{IsBlank}
use Rattle.paw_journal.proofs.Calls.{writes_weaker}
use Rattle.paw_journal.proofs.Moved.{beside_none}
use Rattle.paw_journal.proofs.Makes.{in_blank_write, blank_now, blank_wrote, header_written}
use Rattle.paw_journal.proofs.making.write_header.Goals as goal

pub returns : goal.returns
returns g c =
    let old = g.S.Stage.standing c.args.stage.now in
    let new = g.S.Stage.standing c.write.new.stage in
    record {
      call = writes_weaker c.write.ensures.call
          (λ tells w.
          let b = c.requires.blank tells in
          subst (λ l. IsBlank l new.disk)
          (header_written (digests_of c.args.game.now c.args.rules.now) c.header_of-header.result _ (c.told-game, c.told-rules)
          c.header_of-header.ensures.value b.bytes)
          (blank_wrote 1 _ old new _ _ (blank_now _ _ b) (omega arith) (omega (arith, ap length b.bytes)) w))
          (λ tells m.
          let b = c.requires.blank tells in
          in_blank_write 1 _ old old m (beside_none _) (blank_now _ _ b) (omega arith) (omega (arith, ap length b.bytes)));
    }
