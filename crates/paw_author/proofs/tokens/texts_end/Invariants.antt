use Rattle.std.proofs.Common.{◌≡◌, length}
use Rattle.paw_author.specs.Tokens.{texts_end}
use Rattle.paw_author.proofs.tokens.texts_end.Given as goal

abbrev pub invariant-loop-part : goal.invariant-loop-part
invariant-loop-part l = texts_end l.left ≡ texts_end l.line

abbrev pub decreases-loop-part : goal.decreases-loop-part
decreases-loop-part l = length l.left
