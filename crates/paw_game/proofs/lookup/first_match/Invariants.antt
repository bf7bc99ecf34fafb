use Rattle.std.proofs.Common.{◌≡◌, drop}
use Rattle.paw_game.specs.inner.Tables.{first_match}
use Rattle.paw_game.proofs.lookup.first_match.Given as goal

abbrev pub invariant-loop-entry : goal.invariant-loop-entry
invariant-loop-entry l =
    first_match l.verb l.noun l.entry (drop l.entry l.entries) ≡ first_match l.verb l.noun l.from (drop l.from l.entries)
