use Rattle.std.proofs.Common.{length, sym, ◌∙◌, inl, arith}
use Rattle.std.proofs.lemmas.Bool.{eqb-false}
use Rattle.std.proofs.lemmas.List.{length-take-le}
use Rattle.paw_lex.proofs.LineCuts.{last_line, line_before_lf, line_end_at}
use Rattle.paw_lex.proofs.lines.first_line.Goals as goal

pub returns-then-end-text-clause-lines : goal.returns-then-end-text-clause-lines
returns-then-end-text-clause-lines c =
    last_line c.args.text.now c.offset_of_first-end.result
    (omega (arith, eqb-false (length c.args.text.now) 0 (sym c.is_empty.ensures ∙ c.if-is_empty.false)))
    c.offset_of_first-end.ensures.value c.if-end-text.true

pub returns-clause-lines : goal.returns-clause-lines
returns-clause-lines c =
    let len = length-take-le c.offset_of_first-end.result c.args.text.now c.offset_of_first-end.ensures.within in
    let cut = rw len at c.len_without_return.ensures.cut in
    line_before_lf c.args.text.now c.offset_of_first-end.result c.len_without_return.result c.offset_of_first-end.ensures.value (omega arith)
    (omega arith) c.len_without_return.ensures.value

pub returns-clause-line_end : goal.returns-clause-line_end
returns-clause-line_end c =
    let len = length-take-le c.offset_of_first-end.result c.args.text.now c.offset_of_first-end.ensures.within in
    inl (line_end_at c.args.text.now c.offset_of_first-end.result c.len_without_return.result c.offset_of_first-end.ensures.value
    (omega arith) (rw len at c.len_without_return.ensures.cut))
