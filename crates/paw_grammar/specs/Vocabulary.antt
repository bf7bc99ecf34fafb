-- Words: how they are spelled, declared and looked up.
use Rattle.std.specs.Prelude.{ℕ, ◌-◌, ◌==◌, ◌&&◌, ◌||◌, Bool, true, false, List, [], ◌∷◌}
use Rattle.std.specs.Prelude.{◌++◌, length, take, replicate, nat_lt, is_some, if◌then◌else◌}
use Rattle.std.specs.Prelude.{Option, Some, None, Result, Ok, Err, codes, bytes_eq}
use Rattle.std.specs.Char.{is_ascii_alphanumeric}
use Rattle.std.specs.List.{list_all, position}
use Rattle.std.specs.Map.{lookup}
use Rattle.std.specs.Option.{option_and_then}
use Rattle.std.specs.Ordering.{is_lt, nat_cmp}
use Rattle.std.specs.Cmp.Lexicographic.{slice_cmp}
use Rattle.paw_base.specs.Bytes.{Letters, Names, Token}
use Rattle.paw_base.specs.declared.words.TheConstants.{VERB_CLASS, NOUN_CLASS, ANY_WORD, NO_WORD, FIRST_PLAIN_NOUN}
use Rattle.paw_base.specs.declared.limits.TheConstants.{WORD_LENGTH, WORD_LIMIT}
use Rattle.paw_base.specs.declared.fault.SourceKind.{SourceKind}
use Rattle.paw_base.specs.declared.fault.SourceKind.TheVariants as kind
use Rattle.paw_base.specs.Condacts.{capitals}
use Rattle.paw_game.specs.declared.parts.Word.{Word}
use Rattle.paw_game.specs.Tables.{word_of}
use Rattle.paw_grammar.specs.Tokens.{Reads, read_by, is_named}

-- ---- spelling ----

-- Whether a token has only letters and digits, and at least one.
abbrev pub is_word_token : Token → Bool
is_word_token t = nat_lt 0 (length t) && list_all is_ascii_alphanumeric t

-- The letters of a word: capitals, cut to five, filled up with spaces.
abbrev pub letters_of : Token → Letters
letters_of t = take WORD_LENGTH (capitals t) ++ replicate (WORD_LENGTH - length t) 32

-- The five letters of a token that spells a word.
abbrev pub letters_in : Token → Option Letters
letters_in t = if is_word_token t then Some (letters_of t) else None

-- The letters of a word, declared or not.
abbrev pub word : Reads Letters
word ts = read_by kind.Word letters_in ts

-- The names of the classes, in the order of their numbers.
abbrev pub class_names : Names
class_names =
    codes "VERB" ∷ codes "ADVERB" ∷ codes "NOUN" ∷ codes "ADJECTIVE" ∷ codes "PREPOSITION" ∷ codes "CONJUNCTION"
    ∷ codes "PRONOUN" ∷ []

-- The index of the name that a token is, in any case of letters, if it is one of them.
abbrev pub index_among : Names → Token → Option ℕ
index_among names t = position (is_named t) names

-- The class of words that a token names, by its number.
abbrev pub class : Reads ℕ
class ts = read_by kind.Word (index_among class_names) ts

-- The two facts that a kind gives of an object: whether it is a container, and whether it may be worn.
abbrev pub kind_named : Token → Option (Bool × Bool)
kind_named t =
    lookup (is_named t)
    ((codes "-", (false, false)) ∷ (codes "C", (true, false)) ∷ (codes "W", (false, true)) ∷ (codes "CW", (true, true))
    ∷ [])

-- The kind of an object.
abbrev pub object_kind : Reads (Bool × Bool)
object_kind ts = read_by kind.Word kind_named ts

-- ---- declaring ----

-- The words in the order of their letters, with one more in its place.
unfoldable pub words_with : Word → List Word → List Word
words_with w [] = w ∷ []
words_with w (v ∷ vs) = if is_lt (slice_cmp nat_cmp w.letters v.letters) then w ∷ v ∷ vs else v ∷ words_with w vs

-- The words with one more: the fault Duplicate where a word of any class has its letters, TooBig where there are as
-- many as allowed.
abbrev pub with_word_declared : Word → List Word → Result (List Word) SourceKind
with_word_declared w ws =
    if is_some (word_of w.letters ws) then Err kind.Duplicate
    else if length ws == WORD_LIMIT then Err kind.TooBig
    else Ok (words_with w ws)

-- ---- looking up ----

-- The value of a word, where there is one and it has this class.
abbrev pub in_class : ℕ → Option Word → Option ℕ
in_class class word = option_and_then (λ (w : Word). if w.class == class then Some w.value else None) word

-- The verb value of a word: that of a verb, or of a noun that serves as one.
abbrev pub as_verb : Option Word → Option ℕ
as_verb word = option_and_then (λ (w : Word).
    if (w.class == VERB_CLASS) || ((w.class == NOUN_CLASS) && nat_lt w.value FIRST_PLAIN_NOUN) then Some w.value
    else None) word

-- The declared word that a token spells.
abbrev pub declared_word : List Word → Token → Option Word
declared_word ws t = if is_word_token t then word_of (letters_of t) ws else None

-- What a token means where `_` is no word.
abbrev pub or_none : (Token → Option ℕ) → Token → Option ℕ
or_none meaning t = if bytes_eq t (codes "_") then Some NO_WORD else meaning t

-- What a token means where `*` is any word, and `_` is no word.
abbrev pub or_any : (Token → Option ℕ) → Token → Option ℕ
or_any meaning t = if bytes_eq t (codes "*") then Some ANY_WORD else or_none meaning t

-- The word of an object, or one that is a parameter; `_` is no word.
abbrev pub word_or_none : List Word → ℕ → Reads ℕ
word_or_none ws class ts = read_by kind.Word (or_none (λ t. in_class class (declared_word ws t))) ts

-- The verb of an exit.
abbrev pub verb_word : List Word → Reads ℕ
verb_word ws ts = read_by kind.Word (λ t. as_verb (declared_word ws t)) ts

-- The verb of an entry.
abbrev pub entry_verb : List Word → Reads ℕ
entry_verb ws ts = read_by kind.Word (or_any (λ t. as_verb (declared_word ws t))) ts

-- The noun of an entry.
abbrev pub entry_noun : List Word → Reads ℕ
entry_noun ws ts = read_by kind.Word (or_any (λ t. in_class NOUN_CLASS (declared_word ws t))) ts
