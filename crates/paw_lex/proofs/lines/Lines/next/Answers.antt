use Rattle.std.proofs.Common.{◌-◌, drop, ◌∙◌, arith}
use Rattle.std.proofs.lemmas.List.{length-take}
use Rattle.paw_lex.proofs.LineCuts.{lines_of-drop, next_line, next_line_end}
use Rattle.paw_lex.proofs.lines.Lines.next.Goals as goal

pub returns-in-None-clause-lines : goal.returns-in-None-clause-lines
returns-in-None-clause-lines c =
    rw (← c.self.view_is)
    (lines_of-drop c.self.inside.source.now c.self.inside.end c.self.inside.at c.self.invariant.ends_at_mark c.self.invariant.is_inside
    ∙ c.in-None.ensures.lines)

pub returns-in-Some-clause-lines : goal.returns-in-Some-clause-lines
returns-in-Some-clause-lines c =
    let len = length-take (c.self.inside.end - c.self.inside.at) (drop c.self.inside.at c.self.inside.source.now) in
    rw (← c.self.view_is)
    (next_line c.self.inside.source.now c.self.inside.end c.self.inside.at c.in-Some.cut.line c.in-Some.cut.whole
    c.self.invariant.ends_at_mark (omega (arith, c.in-Some.ensures.offsets, len)) (omega (arith, c.in-Some.ensures.offsets))
    c.in-Some.ensures.lines)

pub returns-in-Some-clause-line_end : goal.returns-in-Some-clause-line_end
returns-in-Some-clause-line_end c =
    let len = length-take (c.self.inside.end - c.self.inside.at) (drop c.self.inside.at c.self.inside.source.now) in
    rw (← c.self.view_is)
    (next_line_end c.self.inside.source.now c.self.inside.end c.self.inside.at c.in-Some.cut.line c.in-Some.cut.whole
    c.self.invariant.ends_at_mark (omega (arith, c.in-Some.ensures.offsets, len)) (omega (arith, c.in-Some.ensures.offsets))
    c.in-Some.ensures.line_end)
