use Rattle.std.proofs.Common.{◌≡◌, drop}
use Rattle.paw_reading.specs.Run.{begins_with}
use Rattle.paw_turn.proofs.lines.begins_with.Given as goal

abbrev pub invariant-loop-byte : goal.invariant-loop-byte
invariant-loop-byte l = begins_with l.capital (drop l.byte-index l.line) ≡ begins_with l.capital l.line
