use Rattle.std.proofs.Common.{◌≡◌, ◌∙◌, sym}
use Rattle.paw_print.specs.Lines.{lines_of_text}
use Rattle.paw_print.specs.Canonical.{with_line_end, with_line_ends}
use Rattle.paw_print.proofs.TextLines.{written-lines_of_text}
use Rattle.paw_print.proofs.texts.write_lines.Goals as goal

pub returns : goal.returns
returns c =
    let text = c.args.text.now in
    let whole : with_line_ends (lines_of_text text) ≡ with_line_end text = written-lines_of_text text (sym c.is_empty.ensures ∙ c.if-is_empty.false) in
    record { writes = rw whole c.write_header.ensures.writes }
