use Rattle.std.proofs.Common.{sym, arith}
use Rattle.paw_effects.proofs.Facts.{taken_more}
use Rattle.paw_effects.proofs.opening.take_facts.Goals as goal

pub loop-o-preserved : goal.loop-o-preserved
loop-o-preserved g c =
    taken_more (g.T.Tables.game c.args.tables.now).objects c.loop-o.facts c.loop-o.o c.in-Some.found (omega arith)
    (sym c.in-Some.ensures.value) c.loop-o.invariant
