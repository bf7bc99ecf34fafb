-- The rules that a game's lists follow.
use Rattle.std.specs.Prelude.{ℕ, ◌==◌, ◌&&◌, ◌||◌, Bool, true, false, not, List, []}
use Rattle.std.specs.Prelude.{◌∷◌, length, nat_lt, nat_le, IsTrue, if◌then◌else◌}
use Rattle.std.specs.List.{list_all, list_any}
use Rattle.std.specs.Ordering.{is_lt, nat_cmp}
use Rattle.std.specs.Cmp.Lexicographic.{slice_cmp}
use Rattle.paw_base.specs.Bytes.{Bytes}
use Rattle.paw_base.specs.declared.places.TheConstants.{NOT_CREATED_PLACE, CARRIED_PLACE, HERE_PLACE}
use Rattle.paw_base.specs.declared.words.TheConstants.{VERB_CLASS, ADVERB_CLASS, NOUN_CLASS, ADJECTIVE_CLASS}
use Rattle.paw_base.specs.declared.words.TheConstants.{PREPOSITION_CLASS, PRONOUN_CLASS, ANY_WORD, NO_WORD, LEAST_WORD}
use Rattle.paw_base.specs.declared.words.TheConstants.{GREATEST_WORD, FIRST_PLAIN_NOUN}
use Rattle.paw_base.specs.declared.limits.TheConstants.{WORD_LENGTH, WORD_LIMIT, SYSTEM_LIMIT, MESSAGE_LIMIT}
use Rattle.paw_base.specs.declared.limits.TheConstants.{OBJECT_LIMIT, LOCATION_LEAST, LOCATION_LIMIT, TABLE_LEAST}
use Rattle.paw_base.specs.declared.limits.TheConstants.{TABLE_LIMIT, TEXT_LIMIT, EXIT_LIMIT, ENTRY_LIMIT, CONDACT_LIMIT}
use Rattle.paw_base.specs.declared.limits.TheConstants.{WEIGHT_LIMIT}
use Rattle.paw_base.specs.declared.parts.Condact.{Condact}
use Rattle.paw_base.specs.declared.parts.Counts.{Counts}
use Rattle.paw_base.specs.declared.parts.ObjectFacts.{ObjectFacts}
use Rattle.paw_base.specs.declared.rows.ParamKind.{ParamKind}
use Rattle.paw_base.specs.declared.rows.ParamKind.TheVariants as kind
use Rattle.paw_base.specs.Condacts.{is_code, first_kind, second_kind}
use Rattle.paw_game.specs.declared.parts.Word.{Word}
use Rattle.paw_game.specs.declared.parts.ObjectRow.{ObjectRow}
use Rattle.paw_game.specs.declared.parts.Exit.{Exit}
use Rattle.paw_game.specs.declared.parts.Entry.{Entry}
use Rattle.paw_game.specs.Game.{GameLists, counts_of}

-- Whether a number is between two others, which are included.
abbrev pub is_within : ℕ → ℕ → ℕ → Bool
is_within low high n = nat_le low n && nat_le n high

-- Whether a list has at most this many rows, and each of them follows a rule.
abbrev pub rows_are_valid : {A : Type 0} → ℕ → (A → Bool) → List A → Bool
rows_are_valid most rule rows = nat_le (length rows) most && list_all rule rows

-- ---- words ----

-- Whether a byte is a capital or a digit.
abbrev pub is_letter : ℕ → Bool
is_letter c = is_within 65 90 c || is_within 48 57 c

-- Whether bytes are capitals and digits, with nothing but spaces after them.
abbrev pub is_filled : Bytes → Bool
is_filled [] = true
is_filled (c ∷ cs) = if is_letter c then is_filled cs else list_all (λ d. d == 32) (c ∷ cs)

-- Whether bytes are the letters of a word: five, of which the first is a capital or a digit, filled up with spaces.
abbrev pub are_letters : Bytes → Bool
are_letters [] = false
are_letters (c ∷ cs) = (length (c ∷ cs) == WORD_LENGTH) && (is_letter c && is_filled cs)

-- Whether a word by itself follows its rules: those of its letters, of its value, and of its class, at most that of
-- pronouns.
abbrev pub is_word : Word → Bool
is_word w = are_letters w.letters && (is_within LEAST_WORD GREATEST_WORD w.value && nat_le w.class PRONOUN_CLASS)

-- Whether words rise by their letters, byte by byte, so that no two have the same letters.
abbrev pub words_rise : List Word → Bool
words_rise [] = true
words_rise (w ∷ []) = true
words_rise (w ∷ v ∷ ws) = is_lt (slice_cmp nat_cmp w.letters v.letters) && words_rise (v ∷ ws)

-- Whether words follow their rules: they aren't too many, each is a word, and they are in order.
abbrev pub words_are_valid : List Word → Bool
words_are_valid ws = nat_le (length ws) WORD_LIMIT && (list_all is_word ws && words_rise ws)

-- Whether a word of this class has this value.
abbrev pub has_word : List Word → ℕ → ℕ → Bool
has_word ws class value = list_any (λ w. (w.class == class) && (w.value == value)) ws

-- Whether a value is that of a verb, or of a noun that serves as one.
abbrev pub is_verb_value : List Word → ℕ → Bool
is_verb_value ws value = has_word ws VERB_CLASS value || (nat_lt value FIRST_PLAIN_NOUN && has_word ws NOUN_CLASS value)

-- ---- texts ----

-- Whether a byte prints, or is a line end.
abbrev pub is_text_byte : ℕ → Bool
is_text_byte b = is_within 32 126 b || (b == 10)

-- Whether a byte may not begin a line of a text: '/' and ';' may not.
abbrev pub begins_no_line : ℕ → Bool
begins_no_line b = (b == 47) || (b == 59)

-- Whether bytes may stand in a text, where `first` says whether a line begins with them.
abbrev pub is_printed : Bool → Bytes → Bool
is_printed first [] = true
is_printed first (b ∷ bs) = (is_text_byte b && not (first && begins_no_line b)) && is_printed (b == 10) bs

-- Whether a text isn't too long, and each of its bytes may stand in it.
abbrev pub is_text : Bytes → Bool
is_text bytes = nat_le (length bytes) TEXT_LIMIT && is_printed true bytes

-- ---- places, objects, exits ----

-- Whether an object may begin at a place: a location, or not created, worn or carried.
abbrev pub is_place : ℕ → ℕ → Bool
is_place locations p = nat_lt p locations || is_within NOT_CREATED_PLACE CARRIED_PLACE p

-- Whether a value is no word, or that of a word of this class.
abbrev pub is_word_or_none : List Word → ℕ → ℕ → Bool
is_word_or_none ws class value = (value == NO_WORD) || has_word ws class value

-- Whether the facts of an object follow their rules: its noun, its adjective, where it begins, and its weight.
abbrev pub facts_are_valid : List Word → ℕ → ObjectFacts → Bool
facts_are_valid ws locations f =
    is_word_or_none ws NOUN_CLASS f.noun && (is_word_or_none ws ADJECTIVE_CLASS f.adjective
    && (is_place locations f.start && nat_le f.weight WEIGHT_LIMIT))

-- Whether an object follows its rules, which are those of its text and of its facts.
abbrev pub is_object : List Word → ℕ → ObjectRow → Bool
is_object ws locations o = is_text o.text && facts_are_valid ws locations o.facts

-- Whether each exit has a verb value that no exit after it has, and leads to a location.
abbrev pub are_exits : List Word → ℕ → List Exit → Bool
are_exits ws locations [] = true
are_exits ws locations (x ∷ xs) =
    (is_verb_value ws x.verb && (nat_lt x.to locations && not (list_any (λ y. y.verb == x.verb) xs)))
    && are_exits ws locations xs

-- Whether the exits of one location follow their rules and aren't too many. They never are too many, since no two have
-- the same verb value.
abbrev pub exits_are_valid : List Word → ℕ → List Exit → Bool
exits_are_valid ws locations xs = nat_le (length xs) EXIT_LIMIT && are_exits ws locations xs

-- ---- tables ----

-- Whether a parameter follows the rule of its kind: it is the number of a row that there is by these counts, or the
-- value of one of these words. A flag or a number is any byte.
abbrev pub is_parameter : Counts → List Word → ParamKind → ℕ → Bool
is_parameter counts ws kind.Absent x = x == 0
is_parameter counts ws kind.Location x = nat_lt x counts.locations
is_parameter counts ws kind.Place x = nat_lt x counts.locations || is_within NOT_CREATED_PLACE HERE_PLACE x
is_parameter counts ws kind.Object x = nat_lt x counts.objects
is_parameter counts ws kind.Message x = nat_lt x counts.messages
is_parameter counts ws kind.System x = nat_lt x counts.system
is_parameter counts ws kind.Table x = nat_lt x counts.tables
is_parameter counts ws kind.Adverb x = is_word_or_none ws ADVERB_CLASS x
is_parameter counts ws kind.Noun x = is_word_or_none ws NOUN_CLASS x
is_parameter counts ws kind.Adjective x = is_word_or_none ws ADJECTIVE_CLASS x
is_parameter counts ws kind.Preposition x = is_word_or_none ws PREPOSITION_CLASS x
is_parameter counts ws _ x = nat_lt x 256

-- Whether a value that arises in play follows the rule of a kind. Here any byte will do for a word: a value that no
-- word of the game has is one that no sentence has.
abbrev pub is_argument : GameLists → ParamKind → ℕ → Bool
is_argument g kind.Adverb x = nat_lt x 256
is_argument g kind.Noun x = nat_lt x 256
is_argument g kind.Adjective x = nat_lt x 256
is_argument g kind.Preposition x = nat_lt x 256
is_argument g k x = is_parameter (counts_of g) g.words k x

-- Whether a condact has a code, and parameters that follow the rules of their kinds.
abbrev pub fits_kinds : (ParamKind → ℕ → Bool) → Condact → Bool
fits_kinds rule c = is_code c.code && (rule (first_kind c.code) c.a && rule (second_kind c.code) c.b)

-- Whether a condact follows its rules: its code is that of a condact, its parameters name what the game has, and a
-- parameter that this code doesn't have is 0.
abbrev pub is_condact : GameLists → Condact → Bool
is_condact g c = fits_kinds (is_parameter (counts_of g) g.words) c

-- Whether the word of an entry matches any word.
abbrev pub is_wildcard : ℕ → Bool
is_wildcard value = (value == ANY_WORD) || (value == NO_WORD)

-- Whether an entry follows its rules: those of its verb, its noun and its condacts, which aren't too many.
abbrev pub is_entry : GameLists → Entry → Bool
is_entry g e =
    (is_wildcard e.verb || is_verb_value g.words e.verb) && ((is_wildcard e.noun || has_word g.words NOUN_CLASS e.noun)
    && rows_are_valid CONDACT_LIMIT (is_condact g) e.condacts)

-- Whether a table follows its rules: its entries aren't too many, and each follows its own.
abbrev pub is_table : GameLists → List Entry → Bool
is_table g es = rows_are_valid ENTRY_LIMIT (is_entry g) es

-- ---- the whole game ----

-- A valid game: each list has a length that it may have, each row follows its rules, and each location has its exits.
pub record Valid (g : GameLists) : Type 0 where
  pub words : IsTrue (words_are_valid g.words)
  pub system : IsTrue (rows_are_valid SYSTEM_LIMIT is_text g.system)
  pub messages : IsTrue (rows_are_valid MESSAGE_LIMIT is_text g.messages)
  pub objects : IsTrue (rows_are_valid OBJECT_LIMIT (is_object g.words (length g.locations)) g.objects)
  pub locations : IsTrue
      (nat_le LOCATION_LEAST (length g.locations) && rows_are_valid LOCATION_LIMIT is_text g.locations)
  pub exits : IsTrue ((length g.exits == length g.locations)
      && list_all (exits_are_valid g.words (length g.locations)) g.exits)
  pub tables : IsTrue (is_within TABLE_LEAST TABLE_LIMIT (length g.tables) && list_all (is_table g) g.tables)
