use Rattle.std.proofs.Common.{◌≤◌, IsTrue, length}
use Rattle.paw_base.specs.declared.limits.TheConstants.{WEIGHT_LIMIT}
use Rattle.paw_game.specs.Valid.{is_place}
use Rattle.paw_game.proofs.ValidGames.{IfSome-from, facts-start, facts-weight}
use Rattle.paw_game.proofs.game.GameTables.facts.Goals as goal

pub returns-clause-weight : goal.returns-clause-weight
returns-clause-weight c =
    let is = rw c.self.view_is at c.facts_at.ensures.value in
    let valid = rw c.self.view_is at c.self.invariant in
    IfSome-from (λ f. f.weight ≤ WEIGHT_LIMIT) c.facts_at.result _ is (facts-weight c.args.self.now valid c.args.object)

pub returns-clause-start : goal.returns-clause-start
returns-clause-start c =
    let is = rw c.self.view_is at c.facts_at.ensures.value in
    let valid = rw c.self.view_is at c.self.invariant in
    IfSome-from (λ f. IsTrue (is_place (length c.args.self.now.locations) f.start)) c.facts_at.result _ is
    (facts-start c.args.self.now valid c.args.object)
