use Rattle.std.proofs.Common.{◌≡◌, ◌≤◌, ◌-◌, ℕ, length, drop}
use Rattle.paw_phrase.specs.Phrase.{lexemes}
use Rattle.paw_phrase.specs.Sentence.{phrase_parsed}
use Rattle.paw_phrase.proofs.Drafts.{along}
use Rattle.paw_phrase.proofs.next.read_phrase.Given as goal

-- The draft, read on from here, gives the phrase.
abbrev pub invariant-loop-lexeme : goal.invariant-loop-lexeme
invariant-loop-lexeme g l =
    (l.end ≤ length l.bytes)
    × ((e : ℕ) → phrase_parsed (g.T.Tables.game l.tables) l.bytes e l.noun l.adjective
    ≡ along (g.T.Tables.game l.tables) e (lexemes (drop l.end l.bytes)) l.draft)

abbrev pub decreases-loop-lexeme : goal.decreases-loop-lexeme
decreases-loop-lexeme g l = length l.bytes - l.end
