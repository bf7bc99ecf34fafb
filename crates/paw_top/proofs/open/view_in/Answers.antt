use Rattle.paw_top.proofs.open.view_in.Goals as goal

pub returns-in-Err-clause-none : goal.returns-in-Err-clause-none
returns-in-Err-clause-none c = c.refused_as.ensures.none c.args.bytes.now c.in-Err.ensures.damaged c.in-Err.ensures.at
