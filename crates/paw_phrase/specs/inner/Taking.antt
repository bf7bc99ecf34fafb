-- What taking the next phrase answers and leaves.
use Rattle.std.specs.Prelude.{◌≡◌}
use Rattle.paw_phrase.specs.declared.Found.{Found}
use Rattle.paw_phrase.specs.declared.Found.TheVariants as found
use Rattle.paw_phrase.specs.declared.Sentence.{Sentence}
use Rattle.paw_phrase.specs.Pending.{PendingLine}
use Rattle.paw_phrase.specs.Sentence.{Parsed, IsSentence, IsUnknown, IsNoPhrase}

-- The next phrase is p. A sentence is given, the bytes after it stay pending, and its verb becomes the earlier one; a
-- phrase with no known word changes only the pending bytes; where there is no phrase nothing changes.
abbrev pub TakesPhrase : Parsed → Found → PendingLine → PendingLine → Sentence → Sentence → Type 0
TakesPhrase p found.Sentence old new before after = (p ≡ IsSentence after new.bytes) × (new.earlier ≡ after.verb)
TakesPhrase p found.Nothing old new before after =
    (p ≡ IsUnknown new.bytes) × (new.earlier ≡ old.earlier) × (after ≡ before)
TakesPhrase p found.Empty old new before after = (p ≡ IsNoPhrase) × (new ≡ old) × (after ≡ before)
