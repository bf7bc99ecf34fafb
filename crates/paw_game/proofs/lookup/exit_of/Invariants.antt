use Rattle.std.proofs.Common.{◌≡◌, drop}
use Rattle.paw_game.specs.Tables.{exit_of}
use Rattle.paw_game.proofs.lookup.exit_of.Given as goal

abbrev pub invariant-loop-exit : goal.invariant-loop-exit
invariant-loop-exit l = exit_of (drop l.exit-index l.exits) l.verb ≡ exit_of l.exits l.verb
