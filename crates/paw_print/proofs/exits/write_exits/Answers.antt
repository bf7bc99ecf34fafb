use Rattle.std.proofs.Common.{List, [], ◌∷◌, ◌++◌, ◌∙◌, ap, arith}
use Rattle.std.specs.Prelude.{codes}
use Rattle.paw_game.specs.declared.parts.Exit.{Exit}
use Rattle.paw_print.specs.Canonical.{location_lines, with_line_ends}
use Rattle.paw_print.proofs.Growing.{numbered_more}
use Rattle.paw_print.proofs.exits.write_exits.Goals as goal

pub loop-number-preserved : goal.loop-number-preserved
loop-number-preserved c =
    let ws = c.args.vocabulary.now in
    let row = c.deref.ensures.value ∙ c.row.view_is in
    numbered_more (location_lines ws) (codes "/CON" ∷ []) c.args.exits.now c.loop-number.number
    c.index-exits-number.result c.args.out.now.items c.loop-number.out.items _
    (omega arith) c.index-exits-number.is c.loop-number.invariant
    (c.in_ok-write_location.ensures.writes
    ∙ ap (λ (xs : List Exit). c.loop-number.out.items ++ with_line_ends (location_lines ws c.loop-number.number xs)) row)
