-- A phrase as it is read, lexeme by lexeme. Only the contracts of private functions use this.
use Rattle.std.specs.Prelude.{ℕ, ◌==◌, Option, Some, None, if◌then◌else◌}
use Rattle.paw_base.specs.Bytes.{Bytes, Letters}
use Rattle.paw_base.specs.declared.words.TheConstants.{CONJUNCTION_CLASS}
use Rattle.paw_game.specs.Game.{GameLists}
use Rattle.paw_game.specs.Tables.{word_at}
use Rattle.paw_phrase.specs.declared.Found.{Found}
use Rattle.paw_phrase.specs.declared.Found.TheVariants as found
use Rattle.paw_phrase.specs.declared.next.Part.{Part}
use Rattle.paw_phrase.specs.declared.next.Part.TheVariants as part
use Rattle.paw_phrase.specs.declared.next.PhraseDraft.{PhraseDraft}
use Rattle.paw_phrase.specs.Sentence.{blank, with_word, sentence_finished, Parsed, IsSentence, IsUnknown, IsNoPhrase}

-- What a word of the game is in a phrase, by its value and class; where the game lacks it, it is unknown.
abbrev pub part_of_word : Option (ℕ × ℕ) → Part
part_of_word None = part.Unknown
part_of_word (Some word) = if word.1 == CONJUNCTION_CLASS then part.Break else part.Word word.0 word.1

-- What a token or a separator is in a phrase.
abbrev pub phrase_part_of : GameLists → Option Letters → Part
phrase_part_of g None = part.Break
phrase_part_of g (Some letters) = part_of_word (word_at g letters)

-- A phrase that has begun ends at a break.
abbrev pub past_break : Found → PhraseDraft → Option PhraseDraft
past_break found.Empty d = Some d
past_break found.Nothing d = None
past_break found.Sentence d = None

-- An unknown token begins a phrase.
abbrev pub or_nothing : Found → Found
or_nothing found.Empty = found.Nothing
or_nothing found.Nothing = found.Nothing
or_nothing found.Sentence = found.Sentence

-- The draft with one more part; None where the phrase ends.
abbrev pub with_part : Part → PhraseDraft → Option PhraseDraft
with_part part.Break d = past_break d.found d
with_part part.Unknown d = Some (record d { found = or_nothing d.found })
with_part (part.Word value class) d = Some (record { found = found.Sentence; words = with_word value class d.words })

-- A draft of which nothing is read yet.
abbrev pub blank_draft : ℕ → ℕ → PhraseDraft
blank_draft noun adjective = record { found = found.Empty; words = blank noun adjective }

-- What a draft is where its phrase ends, with the bytes after it.
abbrev pub found_outcome : ℕ → Found → PhraseDraft → Bytes → Parsed
found_outcome earlier found.Sentence d rest = IsSentence (sentence_finished earlier d.words) rest
found_outcome earlier found.Nothing d rest = IsUnknown rest
found_outcome earlier found.Empty d rest = IsNoPhrase

-- The phrase that a draft makes, with the bytes after it.
abbrev pub draft_outcome : ℕ → PhraseDraft → Bytes → Parsed
draft_outcome earlier d rest = found_outcome earlier d.found d rest
