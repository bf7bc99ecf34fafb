use Rattle.std.proofs.Common.{◌≡◌, drop}
use Rattle.paw_phrase.specs.Phrase.{lexemes}
use Rattle.paw_phrase.proofs.tokens.first_lexeme.Given as goal

-- The bytes so far are blanks.
abbrev pub invariant-loop-i : goal.invariant-loop-i
invariant-loop-i l = lexemes l.bytes ≡ lexemes (drop l.i l.bytes)
