use Rattle.paw_page.proofs.Heads.{no_files, no_lines, more_left}
use Rattle.paw_page.proofs.reading.read_request.Goals as goal

pub returns-in-Err-read_files-clause-none : goal.returns-in-Err-read_files-clause-none
returns-in-Err-read_files-clause-none c err r =
    no_files _ _ _ r c.in-Ok.ensures.some (c.in-Err-read_files.ensures.none err)

pub returns-in-Err-read_lines-clause-none : goal.returns-in-Err-read_lines-clause-none
returns-in-Err-read_lines-clause-none c err r =
    no_lines _ _ _ _ _ r c.in-Ok.ensures.some c.in-Ok-read_files.ensures.some (c.in-Err-read_lines.ensures.none err)

pub returns-then-after_lines-gt0-clause-none : goal.returns-then-after_lines-gt0-clause-none
returns-then-after_lines-gt0-clause-none c err r =
    more_left _ _ _ _ _ _ _ r c.in-Ok.ensures.some c.in-Ok-read_files.ensures.some c.in-Ok-read_lines.ensures.some
    c.if-after_lines-gt0.true
