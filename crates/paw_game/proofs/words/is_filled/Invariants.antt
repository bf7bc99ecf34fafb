use Rattle.std.proofs.Common.{◌≡◌, ◌==◌, drop, if◌then◌else◌}
use Rattle.std.specs.List.{list_all}
use Rattle.paw_game.specs.Valid.{is_filled}
use Rattle.paw_game.proofs.words.is_filled.Given as goal

abbrev pub invariant-loop-byte : goal.invariant-loop-byte
invariant-loop-byte l =
    (if l.filled_up then list_all (λ d. d == 32) (drop l.byte-index l.letters) else is_filled (drop l.byte-index l.letters))
    ≡ is_filled l.letters
