use Rattle.std.proofs.Common.{arith}
use Rattle.paw_stage.proofs.LineParts.{copied_more, plain_more}
use Rattle.paw_stage.proofs.input.copy_line.Goals as goal

pub loop-at-preserved : goal.loop-at-preserved
loop-at-preserved c =
    let bytes = c.args.bytes.now in
    let at = c.loop-at.at in
    record {
      copied = copied_more c.args.into.now c.loop-at.into bytes c.args.to at (omega arith) (omega arith) c.loop-at.invariant.copied;
      plain = plain_more bytes at (omega arith) c.loop-at.invariant.plain (omega arith);
    }
