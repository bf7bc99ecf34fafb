use Rattle.std.proofs.Common.{sym, arith}
use Rattle.paw_game.proofs.ValidGames.{condact-early, condact-small, condact_follows}
use Rattle.paw_game.proofs.game.GameTables.next_condact.Goals as goal

pub overflow_add-cursor : goal.overflow_add-cursor
overflow_add-cursor c =
    let is = rw c.self.view_is at c.in_ok-condact.ensures.value in
    let cursor = c.args.cursor.now in
    omega (arith, condact-early c.args.self.now (rw c.self.view_is at c.self.invariant) cursor.table cursor.entry cursor.at c.in_ok-condact.condact (sym is))

pub returns-clause-small : goal.returns-clause-small
returns-clause-small c =
    let is = rw c.self.view_is at c.in_ok-condact.ensures.value in
    let cursor = c.args.cursor.now in
    condact-small c.args.self.now (rw c.self.view_is at c.self.invariant) cursor.table cursor.entry cursor.at c.in_ok-condact.condact (sym is)

pub returns-clause-early : goal.returns-clause-early
returns-clause-early c =
    let is = rw c.self.view_is at c.in_ok-condact.ensures.value in
    let cursor = c.args.cursor.now in
    condact-early c.args.self.now (rw c.self.view_is at c.self.invariant) cursor.table cursor.entry cursor.at c.in_ok-condact.condact (sym is)

pub returns-clause-right : goal.returns-clause-right
returns-clause-right c =
    let is = rw c.self.view_is at c.in_ok-condact.ensures.value in
    let cursor = c.args.cursor.now in
    condact_follows c.args.self.now (rw c.self.view_is at c.self.invariant) cursor.table cursor.entry cursor.at c.in_ok-condact.condact (sym is)
