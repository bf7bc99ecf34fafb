use Rattle.std.proofs.Common.{◌≤◌, length}
use Rattle.paw_base.specs.declared.limits.TheConstants.{TEXT_LIMIT}
use Rattle.paw_game.proofs.ValidGames.{IfSome-copied, text-short, text_follows}
use Rattle.paw_game.proofs.game.GameTables.text.Goals as goal

pub returns-clause-short : goal.returns-clause-short
returns-clause-short c =
    let is = rw c.self.view_is at c.text_at.ensures.value in
    let valid = rw c.self.view_is at c.self.invariant in
    IfSome-copied (λ text. length text ≤ TEXT_LIMIT) c.text_at.result _ is
    (λ text e. text-short text (text_follows c.args.self.now valid c.args.part c.args.number text e))
