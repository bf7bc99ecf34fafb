-- The games of trials, and their lines: each is made from a number.
use Rattle.std.specs.Prelude.{ℕ, ◌+◌, ◌-◌, ◌*◌, ◌/◌, ◌%◌, ◌==◌, false, List, []}
use Rattle.std.specs.Prelude.{◌∷◌, ◌++◌, map, codes, decimal, if◌then◌else◌}
use Rattle.std.specs.List.{range_with_len}
use Rattle.paw_base.specs.Bytes.{Letters, Line, Lines, Text}
use Rattle.paw_base.specs.declared.codes.TheConstants.{INVEN, DESC, DONE, AUTOG, AUTOD, LISTOBJ, DOALL}
use Rattle.paw_base.specs.declared.places.TheConstants.{CARRIED_PLACE, HERE_PLACE}
use Rattle.paw_base.specs.declared.words.TheConstants.{VERB_CLASS, NOUN_CLASS, CONJUNCTION_CLASS, NO_WORD}
use Rattle.paw_base.specs.declared.words.TheConstants.{FIRST_NAMED_NOUN}
use Rattle.paw_base.specs.declared.parts.Condact.{Condact}
use Rattle.paw_base.specs.declared.parts.ObjectFacts.{ObjectFacts}
use Rattle.paw_game.specs.declared.parts.Word.{Word}
use Rattle.paw_game.specs.declared.parts.ObjectRow.{ObjectRow}
use Rattle.paw_game.specs.declared.parts.Exit.{Exit}
use Rattle.paw_game.specs.declared.parts.Entry.{Entry}
use Rattle.paw_game.specs.Game.{GameLists}
use Rattle.paw_gen.specs.declared.vocabulary.TheConstants.{ALL_WORD, AND_WORD, DROP_WORD, GET_WORD, INVEN_WORD}
use Rattle.paw_gen.specs.declared.vocabulary.TheConstants.{LOOK_WORD, NORTH_WORD, SOUTH_WORD}

-- ---- how many ----

-- How many locations the game with this number has.
abbrev pub location_count : ℕ → ℕ
location_count n = 20 + n % 200

-- How many objects the game with this number has.
abbrev pub object_count : ℕ → ℕ
object_count n = 10 + n % 100

-- How many lines the session with this number has.
abbrev pub line_count : ℕ → ℕ
line_count n = 10 + n % 90

-- A row for each number from 0 on, `count` rows in all.
abbrev pub rows : {A : Type 0} → ℕ → (ℕ → A) → List A
rows count row = map row (range_with_len 0 count)

-- ---- texts ----

-- A number between two texts.
abbrev pub number_between : Text → Text → ℕ → Text
number_between before after k = before ++ (decimal k ++ after)

-- The text of a system message: `s` and its number.
abbrev pub system_text : ℕ → Text
system_text k = number_between (codes "s") [] k

-- The text of a location, such as `Place 7.`.
abbrev pub trial_location_text : ℕ → Text
trial_location_text k = number_between (codes "Place ") (codes ".") k

-- The text of an object, such as `thing 7`.
abbrev pub trial_object_text : ℕ → Text
trial_object_text k = number_between (codes "thing ") [] k

-- ---- words ----

-- A word with these letters, this value and this class.
abbrev pub word_with : Letters → ℕ → ℕ → Word
word_with letters value class = record { letters = letters; value = value; class = class }

-- The words that all these games have.
abbrev pub named_words : List Word
named_words =
    word_with (codes "ALL  ") ALL_WORD NOUN_CLASS ∷ word_with (codes "AND  ") AND_WORD CONJUNCTION_CLASS
    ∷ word_with (codes "DROP ") DROP_WORD VERB_CLASS ∷ word_with (codes "GET  ") GET_WORD VERB_CLASS
    ∷ word_with (codes "INVEN") INVEN_WORD VERB_CLASS ∷ word_with (codes "LOOK ") LOOK_WORD VERB_CLASS
    ∷ word_with (codes "NORTH") NORTH_WORD NOUN_CLASS ∷ word_with (codes "SOUTH") SOUTH_WORD NOUN_CLASS ∷ []

-- The letters of the noun of an object: T and the object's number in three digits, such as `T007 `.
abbrev pub object_letters : ℕ → Letters
object_letters k = 84 ∷ (48 + k / 100) ∷ (48 + k / 10 % 10) ∷ (48 + k % 10) ∷ 32 ∷ []

-- The noun of an object.
abbrev pub object_word : ℕ → Word
object_word k = word_with (object_letters k) (FIRST_NAMED_NOUN + k) NOUN_CLASS

-- ---- objects and exits ----

-- The facts of object k in a game with this number of locations.
abbrev pub object_facts : ℕ → ℕ → ObjectFacts
object_facts locations k = record {
  noun = FIRST_NAMED_NOUN + k;
  adjective = NO_WORD;
  start = 7 * k % locations;
  weight = k % 4;
  container = false;
  wearable = false;
}

-- Object k in a game with this number of locations.
abbrev pub trial_object : ℕ → ℕ → ObjectRow
trial_object locations k = record { text = trial_object_text k; facts = object_facts locations k }

-- The exits of location k. The locations are a ring: NORTH leads to the next, SOUTH to the one before.
abbrev pub ring_exits : ℕ → ℕ → List Exit
ring_exits locations k =
    record { verb = NORTH_WORD; to = (k + 1) % locations }
    ∷ record { verb = SOUTH_WORD; to = (k + locations - 1) % locations } ∷ []

-- ---- tables ----

-- A condact with this code and this first parameter, which is 0 where it has none.
abbrev pub condact_with : ℕ → ℕ → Condact
condact_with code a = record { code = code; a = a; b = 0 }

-- An entry with this verb, this noun and these condacts.
abbrev pub entry : ℕ → ℕ → List Condact → Entry
entry verb noun condacts = record { verb = verb; noun = noun; condacts = condacts }

-- The entries that answer lines: `GET ALL` goes over the objects here, and `DROP ALL` over those that are carried.
abbrev pub answer_entries : List Entry
answer_entries =
    entry GET_WORD ALL_WORD (condact_with DOALL HERE_PLACE ∷ []) ∷
    entry GET_WORD NO_WORD (condact_with AUTOG 0 ∷ condact_with DONE 0 ∷ []) ∷
    entry DROP_WORD ALL_WORD (condact_with DOALL CARRIED_PLACE ∷ []) ∷
    entry DROP_WORD NO_WORD (condact_with AUTOD 0 ∷ condact_with DONE 0 ∷ []) ∷
    entry LOOK_WORD NO_WORD (condact_with DESC 0 ∷ []) ∷
    entry INVEN_WORD NO_WORD (condact_with INVEN 0 ∷ condact_with DONE 0 ∷ []) ∷
    []

-- The entry that lists the objects at a location after its text.
abbrev pub listing : List Entry
listing = entry NO_WORD NO_WORD (condact_with LISTOBJ 0 ∷ []) ∷ []

-- ---- the game and its lines ----

-- The game of a trial, by its number.
unfoldable pub trial_game : ℕ → GameLists
trial_game n = record {
  words = named_words ++ rows (object_count n) object_word;
  system = rows 54 system_text;
  messages = [];
  objects = rows (object_count n) (trial_object (location_count n));
  locations = rows (location_count n) trial_location_text;
  exits = rows (location_count n) (ring_exits (location_count n));
  tables = answer_entries ∷ listing ∷ [] ∷ [];
}

-- Line j of a trial; six lines come one after another, again and again.
abbrev pub trial_line : ℕ → Line
trial_line j =
    if j % 6 == 0 then codes "NORTH"
    else if j % 6 == 1 then codes "GET ALL"
    else if j % 6 == 2 then codes "INVEN"
    else if j % 6 == 3 then codes "LOOK"
    else if j % 6 == 4 then codes "DROP ALL"
    else codes "SOUTH AND GET ALL"

-- The lines of a trial, by its number.
unfoldable pub trial_lines : ℕ → Lines
trial_lines n = rows (line_count n) trial_line
