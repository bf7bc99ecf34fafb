use Rattle.std.proofs.Common.{length, take, ◌+◌, ◌≡◌, sym, ◌∙◌, arith}
use Rattle.std.proofs.lemmas.Bool.{eqb-true}
use Rattle.paw_author.specs.Parts.{line_parts}
use Rattle.paw_author.proofs.WholeLines.{one_more, none_left}
use Rattle.paw_author.proofs.lines.file_lines.Goals as goal

pub loop-left-preserved : goal.loop-left-preserved
loop-left-preserved c =
    let whole : c.in_ok-line_parts.field-0 ≡ line_parts c.args.file (c.loop-left.number + 1) (take c.first_line_len.result c.loop-left.left.now) =
    rw (← c.split_at.ensures.front) c.in_ok-line_parts.ensures.value in
    record {
      lines = rw (c.in_ok-push.ensures.items, c.split_at.ensures.back)
          (one_more c.loop-left.lines.items c.in_ok-line_parts.field-0 c.args.file c.loop-left.number c.first_line_len.result
          c.loop-left.left.now c.first_line_len.ensures.lines whole ∙ c.loop-left.invariant.lines);
      few = omega arith;
    }

pub returns : goal.returns
returns c =
    let empty : length c.loop-left.left.now ≡ 0 = eqb-true (length c.loop-left.left.now) 0 (sym c.is_empty.ensures ∙ c.loop-left-test.false) in
    record { value = none_left c.loop-left.lines.items c.args.file c.loop-left.number c.loop-left.left.now _ empty c.loop-left.invariant.lines }
