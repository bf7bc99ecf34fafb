use Rattle.std.proofs.Common.{[], ◌∷◌, arith}
use Rattle.paw_print.specs.Lines.{text_lines}
use Rattle.paw_print.proofs.Growing.{numbered_more}
use Rattle.paw_print.proofs.texts.write_texts.Goals as goal

pub loop-number-preserved : goal.loop-number-preserved
loop-number-preserved c =
    numbered_more text_lines (c.args.header.now ∷ []) c.args.texts.now c.loop-number.number
    c.index-texts-number.result c.args.out.now.items c.loop-number.out.items _
    (omega arith) c.index-texts-number.is c.loop-number.invariant c.in_ok-write_text.ensures.writes
