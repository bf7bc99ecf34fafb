use Rattle.std.proofs.Common.{◌≡◌, drop, length}
use Rattle.paw_game.specs.Valid.{are_exits}
use Rattle.paw_game.proofs.inspector.Inspector.are_exits.Given as goal

abbrev pub invariant-loop-row : goal.invariant-loop-row
invariant-loop-row l =
    are_exits l.self.words (length l.self.locations) (drop l.row l.exits)
    ≡ are_exits l.self.words (length l.self.locations) l.exits
