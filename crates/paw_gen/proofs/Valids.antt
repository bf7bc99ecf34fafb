-- The game of every trial is valid.
use Rattle.std.proofs.Common.{◌≡◌, ℕ, ◌+◌, ◌*◌, ◌-◌, ◌%◌, ◌<◌, Bool, true, List, [], ◌∷◌, ◌++◌, length, drop, refl, sym}
use Rattle.std.proofs.Common.{ap, ◌∙◌, subst, arith, append_assoc}
use Rattle.std.specs.Prelude.{◌&&◌, ◌||◌, ◌==◌, nat_lt, nat_le}
use Rattle.std.specs.List.{list_all, list_any}
use Rattle.std.specs.Ordering.{is_lt, nat_cmp}
use Rattle.std.specs.Cmp.Lexicographic.{slice_cmp}
use Rattle.std.proofs.lemmas.Bool.{and_parts}
use Rattle.std.proofs.lemmas.List.Folds.{list_any-append, list_all-append}
use Rattle.paw_base.specs.declared.codes.TheConstants.{DOALL}
use Rattle.paw_base.specs.declared.limits.TheConstants.{WORD_LIMIT, OBJECT_LIMIT, LOCATION_LEAST, LOCATION_LIMIT}
use Rattle.paw_base.specs.declared.limits.TheConstants.{TABLE_LEAST, TABLE_LIMIT, WEIGHT_LIMIT}
use Rattle.paw_base.specs.declared.places.TheConstants.{NOT_CREATED_PLACE, CARRIED_PLACE, HERE_PLACE}
use Rattle.paw_base.specs.declared.words.TheConstants.{VERB_CLASS, NOUN_CLASS, NO_WORD, FIRST_NAMED_NOUN}
use Rattle.paw_base.specs.Condacts.{condact_lines, plain_line, line_of, is_plain_code, is_indirect}
use Rattle.paw_game.specs.declared.parts.Word.{Word}
use Rattle.paw_game.specs.Game.{GameLists}
use Rattle.paw_game.specs.Valid.{Valid, is_within, is_word, is_text, words_rise, words_are_valid, has_word}
use Rattle.paw_game.specs.Valid.{is_word_or_none, is_verb_value, is_object}
use Rattle.paw_game.specs.Valid.{exits_are_valid, is_condact, is_table, rows_are_valid}
use Rattle.paw_gen.specs.Trial.{rows, named_words, object_word, object_count, location_count, trial_object}
use Rattle.paw_gen.specs.Trial.{trial_object_text, trial_location_text}
use Rattle.paw_gen.specs.Trial.{ring_exits, condact_with, trial_game}
use Rattle.paw_gen.specs.declared.vocabulary.TheConstants.{NORTH_WORD, SOUTH_WORD}
use Rattle.paw_gen.proofs.Truths.{and_both, or_true, or_right, le_true, lt_true, eq_true}
use Rattle.paw_gen.proofs.Rows.{length_rows, rows_fewer, all_rows, all_at, any_row}
use Rattle.paw_gen.proofs.Computed.{all_words, all_rise, system_texts, location_texts, object_texts}

-- ---- words ----

abbrev pub words_of : ℕ → List Word
words_of n = named_words ++ rows (object_count n) object_word

all_of_them : (n : ℕ) → words_of n ++ drop (object_count n) (rows 109 object_word) ≡ named_words ++ rows 109 object_word
all_of_them n =
    append_assoc named_words (rows (object_count n) object_word) (drop (object_count n) (rows 109 object_word))
    ∙ ap (λ xs. named_words ++ xs) (rows_fewer object_word (object_count n) 109 (omega arith))

rise_before : (xs ys : List Word) → words_rise (xs ++ ys) ≡ true → words_rise xs ≡ true
rise_before [] ys h = refl
rise_before (w ∷ []) ys h = refl
rise_before (w ∷ v ∷ ws) ys h =
    let h2 = and_parts (is_lt (slice_cmp nat_cmp w.letters v.letters)) (words_rise (v ∷ (ws ++ ys))) h in
    and_both h2.0 (rise_before (v ∷ ws) ys h2.1)

all_before : (xs ys : List Word) → list_all is_word (xs ++ ys) ≡ true → list_all is_word xs ≡ true
all_before xs ys h = (and_parts (list_all is_word xs) (list_all is_word ys) (sym (list_all-append is_word xs ys) ∙ h)).0

pub each_word : (n : ℕ) → list_all is_word (words_of n) ≡ true
each_word n = all_before (words_of n) (drop (object_count n) (rows 109 object_word)) (ap (list_all is_word) (all_of_them n) ∙ all_words)

words_fine : (n : ℕ) → words_are_valid (words_of n) ≡ true
words_fine n =
    let few : length (rows (object_count n) object_word) ≡ object_count n = length_rows object_word (object_count n) in
    and_both (le_true (length (words_of n)) WORD_LIMIT (omega (arith, few)))
    (and_both (each_word n)
    (rise_before (words_of n) (drop (object_count n) (rows 109 object_word)) (ap words_rise (all_of_them n) ∙ all_rise)))

-- ---- objects ----

noun_known : (n k : ℕ) → k < object_count n → is_word_or_none (words_of n) NOUN_CLASS (FIRST_NAMED_NOUN + k) ≡ true
noun_known n k low =
    let rule = λ (w : Word). (w.class == NOUN_CLASS) && (w.value == FIRST_NAMED_NOUN + k) in
    or_right (FIRST_NAMED_NOUN + k == NO_WORD) (list_any-append rule named_words (rows (object_count n) object_word)
    ∙ or_right (list_any rule named_words) (any_row rule object_word (object_count n) k low (eq_true (FIRST_NAMED_NOUN + k) (FIRST_NAMED_NOUN + k) refl)))

object_fine : (n k : ℕ) → k < object_count n → is_object (words_of n) (location_count n) (trial_object (location_count n) k) ≡ true
object_fine n k low =
    and_both (all_at is_text trial_object_text 109 k object_texts (omega (arith, low)))
    (and_both (noun_known n k low) (and_both {b = nat_le (k % 4) WEIGHT_LIMIT}
    (ap (λ b. b || is_within NOT_CREATED_PLACE CARRIED_PLACE (7 * k % location_count n)) (lt_true (7 * k % location_count n) (location_count n) (omega arith)))
    (le_true (k % 4) WEIGHT_LIMIT (omega arith))))

objects_fine : (n : ℕ) → rows_are_valid OBJECT_LIMIT (is_object (words_of n) (location_count n)) (rows (object_count n) (trial_object (location_count n)))
    ≡ true
objects_fine n =
    and_both (le_true (length (rows (object_count n) (trial_object (location_count n)))) OBJECT_LIMIT
    (omega (arith, length_rows (trial_object (location_count n)) (object_count n))))
    (all_rows (is_object (words_of n) (location_count n)) (trial_object (location_count n)) (object_count n) (λ k low. object_fine n k low))

-- ---- locations and exits ----

locations_fine : (n : ℕ) → (nat_le LOCATION_LEAST (length (rows (location_count n) trial_location_text))
    && rows_are_valid LOCATION_LIMIT is_text (rows (location_count n) trial_location_text)) ≡ true
locations_fine n =
    let size : length (rows (location_count n) trial_location_text) ≡ location_count n = length_rows trial_location_text (location_count n) in
    and_both (le_true LOCATION_LEAST (length (rows (location_count n) trial_location_text)) (omega (arith, size)))
    (and_both (le_true (length (rows (location_count n) trial_location_text)) LOCATION_LIMIT (omega (arith, size)))
    (all_rows is_text trial_location_text (location_count n) (λ k low. all_at is_text trial_location_text 219 k location_texts (omega (arith, low)))))

north_known : (n : ℕ) → is_verb_value (words_of n) NORTH_WORD ≡ true
north_known n = or_true (has_word (words_of n) VERB_CLASS NORTH_WORD)

south_known : (n : ℕ) → is_verb_value (words_of n) SOUTH_WORD ≡ true
south_known n = or_true (has_word (words_of n) VERB_CLASS SOUTH_WORD)

exits_of_one : (n k : ℕ) → exits_are_valid (words_of n) (location_count n) (ring_exits (location_count n) k) ≡ true
exits_of_one n k =
    let north : nat_lt ((k + 1) % location_count n) (location_count n) ≡ true = lt_true ((k + 1) % location_count n) (location_count n) (omega arith) in
    let south : nat_lt ((k + location_count n - 1) % location_count n) (location_count n) ≡ true =
    lt_true ((k + location_count n - 1) % location_count n) (location_count n) (omega arith) in
    and_both (and_both (north_known n) (and_both north refl)) (and_both (and_both (south_known n) (and_both south refl)) refl)

-- One list of exits for each location.
abbrev AreExits : ℕ → ℕ → Type 0
AreExits n locations =
    ((length (rows (location_count n) (ring_exits (location_count n))) == locations)
    && list_all (exits_are_valid (words_of n) locations) (rows (location_count n) (ring_exits (location_count n)))) ≡ true

exits_fine : (n : ℕ) → AreExits n (location_count n)
exits_fine n =
    and_both (eq_true (length (rows (location_count n) (ring_exits (location_count n)))) (location_count n)
    (length_rows (ring_exits (location_count n)) (location_count n)))
    (all_rows (exits_are_valid (words_of n) (location_count n)) (ring_exits (location_count n)) (location_count n) (λ k low. exits_of_one n k))

-- ---- tables ----

-- DOALL at HERE or CARRIED.
doall_fine : (g : GameLists) (p : ℕ) → is_within NOT_CREATED_PLACE HERE_PLACE p ≡ true
    → is_condact g (condact_with DOALL p) ≡ true
unfolding condact_lines plain_line line_of is_plain_code is_indirect
doall_fine g p h = and_both (or_right (nat_lt p (length g.locations)) h) refl

-- Enough tables and not too many, each by its rule.
abbrev tables_follow : GameLists → Bool
tables_follow g = is_within TABLE_LEAST TABLE_LIMIT (length g.tables) && list_all (is_table g) g.tables

tables_fine : (n : ℕ) → tables_follow (trial_game n) ≡ true
unfolding condact_lines plain_line line_of is_plain_code is_indirect trial_game
tables_fine n =
    and_both (and_both (and_both (doall_fine (trial_game n) HERE_PLACE refl) refl)
    (and_both (and_both (doall_fine (trial_game n) CARRIED_PLACE refl) refl) refl)) refl

-- ---- the whole game ----

pub trial_valid : (n : ℕ) → Valid (trial_game n)
unfolding trial_game
trial_valid n =
    let size : length (rows (location_count n) trial_location_text) ≡ location_count n = length_rows trial_location_text (location_count n) in
    record {
      words = words_fine n;
      system = system_texts;
      messages = refl;
      objects = subst (λ m. rows_are_valid OBJECT_LIMIT (is_object (words_of n) m) (rows (object_count n) (trial_object (location_count n))) ≡ true)
          (sym size) (objects_fine n);
      locations = locations_fine n;
      exits = subst (AreExits n) (sym size) (exits_fine n);
      tables = tables_fine n;
    }
