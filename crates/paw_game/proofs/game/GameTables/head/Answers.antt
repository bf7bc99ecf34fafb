use Rattle.std.proofs.Common.{◌<◌}
use Rattle.paw_base.specs.declared.limits.TheConstants.{ENTRY_LIMIT}
use Rattle.paw_game.proofs.ValidGames.{IfSome-from, head-small}
use Rattle.paw_game.proofs.game.GameTables.head.Goals as goal

pub returns-clause-small : goal.returns-clause-small
returns-clause-small c =
    let is = rw c.self.view_is at c.head_at.ensures.value in
    let valid = rw c.self.view_is at c.self.invariant in
    IfSome-from (λ _. c.args.entry < ENTRY_LIMIT) c.head_at.result _ is (head-small c.args.self.now valid c.args.table c.args.entry)
