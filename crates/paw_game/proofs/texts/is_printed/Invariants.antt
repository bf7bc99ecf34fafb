use Rattle.std.proofs.Common.{◌≡◌, ◌&&◌, true, drop}
use Rattle.paw_game.specs.Valid.{is_printed}
use Rattle.paw_game.proofs.texts.is_printed.Given as goal

abbrev pub invariant-loop-byte : goal.invariant-loop-byte
invariant-loop-byte l = (l.printed && is_printed l.line_begins (drop l.byte-index l.bytes)) ≡ is_printed true l.bytes
