use Rattle.std.proofs.Common.{ap, refl}
use Rattle.paw_turn.specs.inner.Player.{PlayerView}
use Rattle.paw_turn.proofs.Seating.{renewed}
use Rattle.paw_turn.proofs.player.Player.renew.Goals as goal

pub returns-clause-seated : goal.returns-clause-seated
returns-clause-seated g c =
    renewed c.args.self.now _ c.args.seed _ c.requires.seated (ap (λ (s : PlayerView g.row.F.Denot). s.game) c.self.view_is)
    c.renew.ensures.world c.renew.ensures.pending c.renew.ensures.machine refl
