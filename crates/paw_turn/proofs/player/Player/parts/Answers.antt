use Rattle.paw_turn.proofs.Seating.{frames_accepted}
use Rattle.paw_turn.proofs.player.Player.parts.Goals as goal

pub returns-clause-accepted : goal.returns-clause-accepted
returns-clause-accepted g c = frames_accepted c.args.self.now
