use Rattle.std.proofs.Common.{arith}
use Rattle.paw_author.proofs.Quoted.{quote_more, byte_more}
use Rattle.paw_author.proofs.parts.quoted_len.Goals as goal
use Rattle.paw_author.proofs.parts.quoted_len.Goals.{then-byte-eq34, else-byte-eq34+else-not-inside}

pub loop-byte-preserved : goal.loop-byte-preserved
loop-byte-preserved c =
    let inside = c.loop-byte.inside in
    let next = c.if-byte-eq34.inside in
    let text = c.args.text.now in
    let i = c.loop-byte.byte-index in
    let same = c.loop-byte.invariant.same in
    elim c.if-byte-eq34.branch [
      | then-byte-eq34 w ↦ record {
        same = quote_more c.loop-byte.len inside next text i _ c.loop-byte-test.true w.if-byte-eq34.true w.inside-is same;
        counted = omega arith;
      }
      | else-byte-eq34+else-not-inside w ↦ record {
        same = byte_more c.loop-byte.len inside next text i _ c.loop-byte-test.true w.if-byte-eq34.false w.if-not-inside.false w.inside-is same;
        counted = omega arith;
      }
    ]
