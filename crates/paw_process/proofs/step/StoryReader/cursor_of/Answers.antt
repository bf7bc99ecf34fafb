use Rattle.std.proofs.Common.{refl}
use Rattle.paw_process.proofs.step.StoryReader.cursor_of.Goals as goal

pub returns-clause-at : goal.returns-clause-at
returns-clause-at g c = let at = c.cursor.ensures in rw (at.table, at.entry, at.at) refl
