-- Texts that are put into a piece.
use Rattle.std.specs.Prelude.{◌≡◌, ◌+◌, ◌<◌, ◌≤◌, Bool, true, false, ◌++◌, length}
use Rattle.paw_base.specs.Bytes.{Text}
use Rattle.paw_base.specs.declared.limits.TheConstants.{PIECE_LIMIT}

-- Where it is true the text stands at the end; where it is false it doesn't fit, and the piece may hold anything.
abbrev pub Puts : Text → Text → Bool → Text → Type 0
Puts old new true text = (new ≡ old ++ text) × (length old + length text ≤ PIECE_LIMIT)
Puts old new false text = PIECE_LIMIT < length old + length text
