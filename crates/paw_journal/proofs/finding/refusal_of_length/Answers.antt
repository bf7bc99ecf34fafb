use Rattle.paw_journal.proofs.Headers.{no_bytes, other_length}
use Rattle.paw_journal.proofs.finding.refusal_of_length.Goals as goal

pub returns-then-size-eq0-clause-refused : goal.returns-then-size-eq0-clause-refused
returns-then-size-eq0-clause-refused g c tells game rules = no_bytes _ c.args.size (c.requires.size tells) c.if-size-eq0.true

pub returns-in-Ok-clause-refused : goal.returns-in-Ok-clause-refused
returns-in-Ok-clause-refused g c tells game rules =
    other_length c.args.size c.read.new.into _ (c.requires.size tells) c.requires.other (c.in-Ok.ensures.read tells)
