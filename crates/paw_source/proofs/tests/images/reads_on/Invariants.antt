use Rattle.paw_source.proofs.tests.images.reads_on.Given as goal

abbrev pub invariant-loop-at : goal.invariant-loop-at
invariant-loop-at g l = g.T.Tables.stands l.tables l.cursor
