-- The rows of a source as the canonical source has them: tokens, with one space between each two.
use Rattle.std.specs.Prelude.{ℕ, ◌==◌, ◌&&◌, Bool, List, [], ◌∷◌, ◌++◌, codes, decimal}
use Rattle.std.specs.Prelude.{flat_map, Option, if◌then◌else◌}
use Rattle.std.specs.List.{before_first, find, slice_index_or, slice_split}
use Rattle.std.specs.Option.{option_or, option_map_or}
use Rattle.paw_base.specs.Bytes.{Line, Lines, Name, Text, Token, Tokens}
use Rattle.paw_base.specs.declared.words.TheConstants.{VERB_CLASS, ADVERB_CLASS, NOUN_CLASS, ADJECTIVE_CLASS}
use Rattle.paw_base.specs.declared.words.TheConstants.{PREPOSITION_CLASS, ANY_WORD, NO_WORD}
use Rattle.paw_base.specs.declared.parts.Condact.{Condact}
use Rattle.paw_base.specs.declared.parts.ObjectFacts.{ObjectFacts}
use Rattle.paw_base.specs.declared.rows.ParamKind.{ParamKind}
use Rattle.paw_base.specs.declared.rows.ParamKind.TheVariants as kind
use Rattle.paw_base.specs.Condacts.{name_of, first_kind, second_kind, is_indirect}
use Rattle.paw_game.specs.declared.parts.Word.{Word}

-- Tokens, each after one space.
abbrev pub after_spaces : Tokens → Line
after_spaces tokens = flat_map (λ t. 32 ∷ t) tokens

-- Tokens, one after another: the first, and then the others, each after one space.
abbrev pub tokens_spaced : Tokens → Line
tokens_spaced [] = []
tokens_spaced (t ∷ ts) = t ++ after_spaces ts

-- ---- words ----

-- The letters of a word, without the spaces that fill them up.
abbrev pub spelled_letters : Word → Token
spelled_letters w = before_first (λ b. b == 32) w.letters

-- The first word of this class with this value, in the order of the words, if there is one.
abbrev pub first_word : List Word → ℕ → ℕ → Option Word
first_word ws class value = find (λ w. (w.class == class) && (w.value == value)) ws

-- The token of a value: `*`, `_`, or the letters of its word. A game has a word for each of its other values.
abbrev pub word_token : ℕ → Option Word → Token
word_token value word =
    if value == ANY_WORD then codes "*"
    else (if value == NO_WORD then codes "_" else option_map_or spelled_letters word [])

-- The token of a value of this class.
abbrev pub value_token : List Word → ℕ → ℕ → Token
value_token ws class value = word_token value (first_word ws class value)

-- The token of a verb value: the first verb that has it, or else the first noun.
abbrev pub verb_token : List Word → ℕ → Token
verb_token ws value = word_token value (option_or (first_word ws VERB_CLASS value) (first_word ws NOUN_CLASS value))

-- The name of a class, by its number.
abbrev pub class_name : ℕ → Name
class_name class =
    slice_index_or
    (codes "verb" ∷ codes "adverb" ∷ codes "noun" ∷ codes "adjective" ∷ codes "preposition" ∷ codes "conjunction" ∷ [])
    class (codes "pronoun")

-- ---- texts ----

-- The token of an item: a slash and its number.
abbrev pub item_token : ℕ → Token
item_token n = 47 ∷ decimal n

-- The lines of a text: none where it is empty, and otherwise the pieces between its line ends.
abbrev pub lines_of_text : Text → Lines
lines_of_text [] = []
lines_of_text (b ∷ bs) = slice_split (λ c. c == 10) (b ∷ bs)

-- An item, and the lines of its text.
abbrev pub text_lines : ℕ → Text → Lines
text_lines n text = item_token n ∷ lines_of_text text

-- ---- objects ----

-- The kind of an object: C for a container, W for what may be worn, CW for both, `-` for neither.
abbrev pub kind_token : Bool → Bool → Token
kind_token container wearable =
    if container then (if wearable then codes "CW" else codes "C") else (if wearable then codes "W" else codes "-")

-- The tokens of an object: its number, place, weight, kind, noun and adjective.
abbrev pub object_tokens : List Word → ℕ → ObjectFacts → Tokens
object_tokens ws n f =
    decimal n ∷ decimal f.start ∷ decimal f.weight ∷ kind_token f.container f.wearable
    ∷ value_token ws NOUN_CLASS f.noun ∷ value_token ws ADJECTIVE_CLASS f.adjective ∷ []

-- ---- tables ----

-- The token of a parameter, a word or a number; none where the condact doesn't have it.
abbrev pub parameter_tokens : List Word → ParamKind → ℕ → Tokens
parameter_tokens ws kind.Absent x = []
parameter_tokens ws kind.Adverb x = value_token ws ADVERB_CLASS x ∷ []
parameter_tokens ws kind.Noun x = value_token ws NOUN_CLASS x ∷ []
parameter_tokens ws kind.Adjective x = value_token ws ADJECTIVE_CLASS x ∷ []
parameter_tokens ws kind.Preposition x = value_token ws PREPOSITION_CLASS x ∷ []
parameter_tokens ws _ x = decimal x ∷ []

-- The number of a flag after `@`.
abbrev pub flag_token : ℕ → Token
flag_token flag = codes "@" ++ decimal flag

-- The token of the first parameter: a flag after `@` where the condact is indirect.
abbrev pub first_tokens : List Word → Condact → Tokens
first_tokens ws c =
    if is_indirect c.code then flag_token c.a ∷ [] else parameter_tokens ws (first_kind c.code) c.a

-- The line of a condact: its name and its parameters, each after one space.
abbrev pub condact_line : List Word → Condact → Line
condact_line ws c =
    after_spaces (name_of c.code ∷ (first_tokens ws c ++ parameter_tokens ws (second_kind c.code) c.b))
