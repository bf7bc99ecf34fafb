use Rattle.paw_author.proofs.PlainLaws.{plain_stays, lines_are_the_file}
use Rattle.paw_author.proofs.laws.plain_sources_stay.Goals as goal

pub returns : goal.returns
returns c = record { plain = plain_stays; bytes = lines_are_the_file }
