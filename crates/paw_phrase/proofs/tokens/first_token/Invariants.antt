use Rattle.paw_phrase.proofs.Lexemes.{IsToken}
use Rattle.paw_phrase.proofs.tokens.first_token.Given as goal

-- The bytes so far are the token's.
abbrev pub invariant-loop-i : goal.invariant-loop-i
invariant-loop-i l = IsToken l.bytes l.i l.letters
