-- How a phrase becomes a sentence.
use Rattle.std.specs.Prelude.{ℕ, ◌==◌, ◌&&◌, List, [], ◌∷◌, nat_lt, nat_le, fold, if◌then◌else◌}
use Rattle.std.specs.List.{list_any}
use Rattle.std.specs.Option.{is_some, option_map_or}
use Rattle.paw_base.specs.Bytes.{Bytes, Letters}
use Rattle.paw_base.specs.declared.words.TheConstants.{VERB_CLASS, ADVERB_CLASS, NOUN_CLASS, ADJECTIVE_CLASS}
use Rattle.paw_base.specs.declared.words.TheConstants.{PREPOSITION_CLASS, PRONOUN_CLASS, NO_WORD, GREATEST_WORD}
use Rattle.paw_base.specs.declared.words.TheConstants.{FIRST_PLAIN_NOUN, FIRST_NAMED_NOUN}
use Rattle.paw_game.specs.Game.{GameLists}
use Rattle.paw_game.specs.Tables.{word_at}
use Rattle.paw_phrase.specs.Phrase.{Lexeme, lexemes, from_phrase, phrase_tokens, bytes_after}
use Rattle.paw_phrase.specs.declared.Sentence.{Sentence}

-- A sentence with no word yet, in which a pronoun stands for this noun and this adjective.
abbrev pub blank : ℕ → ℕ → Sentence
blank noun adjective = record {
  verb = NO_WORD;
  noun = NO_WORD;
  adjective = NO_WORD;
  adverb = NO_WORD;
  preposition = NO_WORD;
  second_noun = NO_WORD;
  second_adjective = NO_WORD;
  pronoun_noun = noun;
  pronoun_adjective = adjective;
}

-- The old value; or the new one where there is none yet.
abbrev pub or_value : ℕ → ℕ → ℕ
or_value old value = if old == NO_WORD then value else old

-- A noun becomes the first noun, or the second where there is a first; a third is ignored.
abbrev pub with_noun : ℕ → Sentence → Sentence
with_noun value s =
    if s.noun == NO_WORD then record s { noun = value } else record s { second_noun = or_value s.second_noun value }

-- An adjective belongs to the first noun while no noun is there yet, and then to the second; a further one is ignored.
abbrev pub with_adjective : ℕ → Sentence → Sentence
with_adjective value s =
    if s.noun == NO_WORD then record s { adjective = or_value s.adjective value }
    else record s { second_adjective = or_value s.second_adjective value }

-- A pronoun gives the noun and adjective that it stands for. It is ignored where it stands for no noun, or both nouns
-- are there.
abbrev pub with_pronoun : Sentence → Sentence
with_pronoun s =
    if s.pronoun_noun == NO_WORD then s else
    if s.noun == NO_WORD then record s { noun = s.pronoun_noun; adjective = s.pronoun_adjective } else
    if s.second_noun == NO_WORD
    then record s { second_noun = s.pronoun_noun; second_adjective = s.pronoun_adjective } else s

-- The sentence with a word of this value and class. A verb, an adverb or a preposition counts only where there is none
-- yet; a noun, an adjective or a pronoun has its rule above. A conjunction is in no phrase.
abbrev pub with_word : ℕ → ℕ → Sentence → Sentence
with_word value class s =
    if class == VERB_CLASS then record s { verb = or_value s.verb value } else
    if class == ADVERB_CLASS then record s { adverb = or_value s.adverb value } else
    if class == NOUN_CLASS then with_noun value s else
    if class == ADJECTIVE_CLASS then with_adjective value s else
    if class == PREPOSITION_CLASS then record s { preposition = or_value s.preposition value } else
    if class == PRONOUN_CLASS then with_pronoun s else s

-- The sentence with the words of the tokens added, from left to right; an unknown token is skipped.
abbrev pub with_tokens : GameLists → List Letters → Sentence → Sentence
with_tokens g tokens s =
    fold (λ filled token. option_map_or (λ word. with_word word.0 word.1 filled) (word_at g token) filled) s tokens

-- The sentence with a verb: its own, or else a first noun that serves as one, or else the verb of the sentence before.
abbrev pub with_verb : ℕ → Sentence → Sentence
with_verb earlier s = record s { verb = or_value s.verb (if nat_lt s.noun FIRST_PLAIN_NOUN then s.noun else earlier) }

-- A first noun that a pronoun may stand for becomes, with its adjective, the meaning of pronouns from now on.
abbrev pub with_new_pronoun : Sentence → Sentence
with_new_pronoun s =
    if nat_le FIRST_NAMED_NOUN s.noun && nat_le s.noun GREATEST_WORD
    then record s { pronoun_noun = s.noun; pronoun_adjective = s.adjective } else s

-- The sentence that the words of a phrase make, where the sentence before has this verb.
abbrev pub sentence_finished : ℕ → Sentence → Sentence
sentence_finished earlier s = with_new_pronoun (with_verb earlier s)

-- What the next phrase of the pending bytes is: a sentence, or a phrase with no known word, each with the bytes that
-- stay pending; or no phrase.
pub data Parsed : Type 0 where
  IsSentence : (s : Sentence) (rest : Bytes) → Parsed
  IsUnknown : (rest : Bytes) → Parsed
  IsNoPhrase : Parsed

-- The phrase that begins these lexemes: its tokens are a sentence where one of them is a word of the game, and the
-- bytes after it stay pending. Where there is no lexeme there is no phrase.
abbrev pub parsed_lexemes : GameLists → ℕ → ℕ → ℕ → List Lexeme → Parsed
parsed_lexemes g earlier noun adjective [] = IsNoPhrase
parsed_lexemes g earlier noun adjective (m ∷ ms) =
    let tokens = phrase_tokens g (m ∷ ms) in
    if list_any (λ token. is_some (word_at g token)) tokens
    then IsSentence (sentence_finished earlier (with_tokens g tokens (blank noun adjective))) (bytes_after g (m ∷ ms))
    else IsUnknown (bytes_after g (m ∷ ms))

-- The next phrase of the pending bytes, after this verb, where a pronoun stands for this noun and adjective.
unfoldable pub phrase_parsed : GameLists → Bytes → ℕ → ℕ → ℕ → Parsed
phrase_parsed g pending earlier noun adjective =
    parsed_lexemes g earlier noun adjective (from_phrase g (lexemes pending))
