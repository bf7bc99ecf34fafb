use Rattle.paw_page.proofs.Heads.{no_entry}
use Rattle.paw_page.proofs.reading.file.Goals as goal

pub returns-in-Err-line-clause-none : goal.returns-in-Err-line-clause-none
returns-in-Err-line-clause-none c err = no_entry _ _ _ c.in-Ok.ensures.some (c.in-Err-line.ensures.none err)
