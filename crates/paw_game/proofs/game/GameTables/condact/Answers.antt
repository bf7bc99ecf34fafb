use Rattle.std.proofs.Common.{◌<◌, IsTrue}
use Rattle.paw_base.specs.declared.limits.TheConstants.{ENTRY_LIMIT, CONDACT_LIMIT}
use Rattle.paw_game.specs.Valid.{is_condact}
use Rattle.paw_game.proofs.ValidGames.{IfSome-from, condact-early, condact-small, condact_follows}
use Rattle.paw_game.proofs.game.GameTables.condact.Goals as goal

pub returns-clause-small : goal.returns-clause-small
returns-clause-small c =
    let is = rw c.self.view_is at c.condact_at.ensures.value in
    let valid = rw c.self.view_is at c.self.invariant in
    IfSome-from (λ _. c.args.entry < ENTRY_LIMIT) c.condact_at.result _ is (condact-small c.args.self.now valid c.args.table c.args.entry c.args.at)

pub returns-clause-early : goal.returns-clause-early
returns-clause-early c =
    let is = rw c.self.view_is at c.condact_at.ensures.value in
    let valid = rw c.self.view_is at c.self.invariant in
    IfSome-from (λ _. c.args.at < CONDACT_LIMIT) c.condact_at.result _ is (condact-early c.args.self.now valid c.args.table c.args.entry c.args.at)

pub returns-clause-right : goal.returns-clause-right
returns-clause-right c =
    let is = rw c.self.view_is at c.condact_at.ensures.value in
    let valid = rw c.self.view_is at c.self.invariant in
    IfSome-from (λ x. IsTrue (is_condact c.args.self.now x)) c.condact_at.result _ is (condact_follows c.args.self.now valid c.args.table c.args.entry c.args.at)
