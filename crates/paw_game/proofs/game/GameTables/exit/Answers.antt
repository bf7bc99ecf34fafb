use Rattle.std.proofs.Common.{◌<◌, length}
use Rattle.paw_game.proofs.ValidGames.{IfSome-from, exit-leads}
use Rattle.paw_game.proofs.game.GameTables.exit.Goals as goal

pub returns-clause-leads : goal.returns-clause-leads
returns-clause-leads c =
    let is = rw c.self.view_is at c.exit_at.ensures.value in
    let valid = rw c.self.view_is at c.self.invariant in
    IfSome-from (λ to. to < length c.args.self.now.locations) c.exit_at.result _ is (exit-leads c.args.self.now valid c.args.location c.args.verb)
