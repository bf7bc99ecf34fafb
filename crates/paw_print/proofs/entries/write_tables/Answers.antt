use Rattle.std.proofs.Common.{List, [], ◌++◌, ◌∙◌, ap, arith}
use Rattle.paw_game.specs.declared.parts.Entry.{Entry}
use Rattle.paw_print.specs.Canonical.{table_lines, with_line_ends}
use Rattle.paw_print.proofs.Growing.{numbered_more}
use Rattle.paw_print.proofs.entries.write_tables.Goals as goal

pub loop-number-preserved : goal.loop-number-preserved
loop-number-preserved c =
    let ws = c.args.vocabulary.now in
    let entries = c.deref.ensures.value ∙ c.table.view_is in
    numbered_more (table_lines ws) [] c.args.tables.now c.loop-number.number c.index-tables-number.result c.args.out.now.items c.loop-number.out.items _
    (omega arith) c.index-tables-number.is c.loop-number.invariant
    (c.in_ok-write_table.ensures.writes
    ∙ ap (λ (es : List Entry). c.loop-number.out.items ++ with_line_ends (table_lines ws c.loop-number.number es)) entries)
