use Rattle.std.proofs.Common.{arith, sym}
use Rattle.paw_game.proofs.Matches.{match-is, match-matches, match-small}
use Rattle.paw_game.proofs.game.GameTables.next_match.Goals as goal

pub overflow_cast-result : goal.overflow_cast-result
overflow_cast-result c =
    omega (
      arith,
      match-small c.self.inside.parts c.self.invariant c.args.table c.args.from c.args.verb c.args.noun c.in_ok-entry.entry
          (sym c.in_ok-entry.ensures.value),
    )

pub returns-clause-reached : goal.returns-clause-reached
returns-clause-reached c =
    (match-is c.self.inside.parts c.args.table c.args.from c.args.verb c.args.noun c.in_ok-entry.entry (sym c.in_ok-entry.ensures.value)).0

pub returns-clause-small : goal.returns-clause-small
returns-clause-small c =
    match-small c.self.inside.parts c.self.invariant c.args.table c.args.from c.args.verb c.args.noun c.in_ok-entry.entry (sym c.in_ok-entry.ensures.value)

pub returns-clause-matching : goal.returns-clause-matching
returns-clause-matching c =
    let is = rw c.self.view_is at c.in_ok-entry.ensures.value in
    match-matches c.args.self.now c.args.table c.args.from c.args.verb c.args.noun c.in_ok-entry.entry (sym is)
