use Rattle.paw_host.proofs.Alone.{each_plays_alone}
use Rattle.paw_host.proofs.laws.each_plays_alone.Goals as goal

pub returns : goal.returns
returns c = record { alone = each_plays_alone }
