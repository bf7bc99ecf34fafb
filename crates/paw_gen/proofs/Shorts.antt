-- The image of the game of a trial is short.
use Rattle.std.proofs.Common.{◌≡◌, ℕ, ◌+◌, ◌*◌, ◌≤◌, ◌<◌, true, List, [], ◌∷◌, ◌++◌, length, refl, subst, arith}
use Rattle.std.proofs.Common.{length-append}
use Rattle.std.specs.Prelude.{◌==◌, ◌&&◌, nat_le}
use Rattle.std.specs.List.{list_all, flat_map}
use Rattle.std.proofs.lemmas.Bool.{and_parts}
use Rattle.paw_base.specs.Bytes.{Bytes, Letters}
use Rattle.paw_base.specs.Condacts.{condact_lines, plain_line, line_of, is_indirect}
use Rattle.paw_base.specs.declared.limits.TheConstants.{IMAGE_LIMIT, WORD_LENGTH, TEXT_LIMIT}
use Rattle.paw_base.specs.declared.words.TheConstants.{PRONOUN_CLASS, LEAST_WORD, GREATEST_WORD}
use Rattle.paw_game.specs.declared.parts.Word.{Word}
use Rattle.paw_game.specs.declared.parts.ObjectRow.{ObjectRow}
use Rattle.paw_game.specs.Game.{GameLists}
use Rattle.paw_game.specs.Valid.{is_letter, is_filled, are_letters, is_within, is_word, is_text, is_printed}
use Rattle.paw_game.specs.Image.{image, head_image, two_bytes, word_image, text_image, object_image, weight_byte}
use Rattle.paw_game.specs.Image.{exits_image, table_image}
use Rattle.paw_gen.specs.Trial.{rows, object_word, object_count, location_count, trial_object, trial_object_text}
use Rattle.paw_gen.specs.Trial.{trial_location_text, system_text}
use Rattle.paw_gen.specs.Trial.{ring_exits, answer_entries, listing, trial_game}
use Rattle.paw_gen.proofs.Truths.{and_both, le_true, le_from, eq_from}
use Rattle.paw_gen.proofs.Rows.{length_rows, all_rows, all_at}
use Rattle.paw_gen.proofs.Computed.{system_texts, location_texts, object_texts}
use Rattle.paw_gen.proofs.Valids.{words_of, each_word}

-- Rows of at most this many bytes.
flat_short : {A : Type 0} (bytes : A → Bytes) (most : ℕ) (xs : List A) → list_all (λ x. nat_le (length (bytes x)) most) xs ≡ true
    → length (flat_map bytes xs) ≤ most * length xs
flat_short bytes most [] h = omega arith
flat_short bytes most (x ∷ xs) h =
    let p = and_parts (nat_le (length (bytes x)) most) (list_all (λ y. nat_le (length (bytes y)) most) xs) h in
    let here : length (bytes x) ≤ most = le_from (length (bytes x)) most p.0 in
    let rest : length (flat_map bytes xs) ≤ most * length xs = flat_short bytes most xs p.1 in
    let joined : length (bytes x ++ flat_map bytes xs) ≡ length (bytes x) + length (flat_map bytes xs) = length-append (bytes x) (flat_map bytes xs) in
    grind arith

letters_five : (letters : Letters) → are_letters letters ≡ true → length letters ≡ WORD_LENGTH
letters_five [] h = absurd cc
letters_five (c ∷ cs) h =
    eq_from (length (c ∷ cs)) WORD_LENGTH (and_parts (length (c ∷ cs) == WORD_LENGTH) (is_letter c && is_filled cs) h).0

word_short : (w : Word) → is_word w ≡ true → nat_le (length (word_image w)) 7 ≡ true
word_short w h =
    let kept = and_parts (are_letters w.letters) (is_within LEAST_WORD GREATEST_WORD w.value && nat_le w.class PRONOUN_CLASS) h in
    let five : length w.letters ≡ WORD_LENGTH = letters_five w.letters kept.0 in
    le_true (length (word_image w)) 7 (omega (arith, five, length-append w.letters (w.value ∷ w.class ∷ [])))

text_short : (bytes : Bytes) → is_text bytes ≡ true → length (text_image bytes) ≤ TEXT_LIMIT + 2
text_short bytes h =
    let few : length bytes ≤ TEXT_LIMIT = le_from (length bytes) TEXT_LIMIT (and_parts (nat_le (length bytes) TEXT_LIMIT) (is_printed true bytes) h).0 in
    omega (arith, few, length-append (two_bytes (length bytes)) bytes)

object_short : (o : ObjectRow) → is_text o.text ≡ true → length (object_image o) ≤ TEXT_LIMIT + 6
object_short o h =
    omega (
      arith,
      text_short o.text h,
      length-append (text_image o.text)
          (o.facts.noun ∷ o.facts.adjective ∷ o.facts.start ∷ weight_byte o.facts.weight o.facts.container o.facts.wearable ∷ []),
    )

head_size : (g : GameLists) → length (head_image g) ≡ 17
head_size g = refl

tables_size : length (flat_map table_image (answer_entries ∷ listing ∷ [] ∷ [])) ≡ 39
unfolding condact_lines plain_line line_of is_indirect
tables_size = refl

total : (a b c d e f g h : Bytes)
    → length (a ++ b ++ c ++ d ++ e ++ f ++ g ++ h) ≡ length a + length b + length c + length d + length e + length f + length g + length h
total a b c d e f g h = simp length-append

all_words_short : (ws : List Word) → list_all is_word ws ≡ true → list_all (λ w. nat_le (length (word_image w)) 7) ws ≡ true
all_words_short [] h = refl
all_words_short (w ∷ ws) h =
    let p = and_parts (is_word w) (list_all is_word ws) h in and_both (word_short w p.0) (all_words_short ws p.1)

-- The parts together, for at most 109 objects and 219 locations.
limited : (all head words system none objects locations exits tables things places : ℕ)
    → all ≡ head + words + system + none + objects + locations + exits + tables → head ≡ 17 → words ≤ 7 * (8 + things)
    → system ≤ (TEXT_LIMIT + 2) * 54 → none ≡ 0
    → objects ≤ (TEXT_LIMIT + 6) * things → locations ≤ (TEXT_LIMIT + 2) * places → exits ≤ 5 * places → tables ≡ 39
    → things ≤ 109 → places ≤ 219 → all ≤ IMAGE_LIMIT
limited all head words system none objects locations exits tables things places a b c d e f g h i j k = omega arith

-- Rows of which each is that short.
rows_short : {A : Type 0} (bytes : A → Bytes) (row : ℕ → A) (most n : ℕ) → ((k : ℕ) → k < n → length (bytes (row k)) ≤ most)
    → length (flat_map bytes (rows n row)) ≤ most * n
rows_short bytes row most n h =
    let short : length (flat_map bytes (rows n row)) ≤ most * length (rows n row) =
    flat_short bytes most (rows n row) (all_rows (λ x. nat_le (length (bytes x)) most) row n
    (λ k low. le_true (length (bytes (row k))) most (h k low))) in
    subst (λ m. length (flat_map bytes (rows n row)) ≤ most * m) (length_rows row n) short

words_short : (n : ℕ) → length (flat_map word_image (words_of n)) ≤ 7 * (8 + object_count n)
words_short n =
    let size : length (words_of n) ≡ 8 + object_count n = omega (arith, length_rows object_word (object_count n)) in
    let short : length (flat_map word_image (words_of n)) ≤ 7 * length (words_of n) =
    flat_short word_image 7 (words_of n) (all_words_short (words_of n) (each_word n)) in
    subst (λ m. length (flat_map word_image (words_of n)) ≤ 7 * m) size short

-- The parts of a game's image.
parts_size : (g : GameLists) → length (image g) ≡ length (head_image g) + length (flat_map word_image g.words)
    + length (flat_map text_image g.system) + length (flat_map text_image g.messages)
    + length (flat_map object_image g.objects) + length (flat_map text_image g.locations) + length (flat_map exits_image g.exits)
    + length (flat_map table_image g.tables)
parts_size g =
    total (head_image g) (flat_map word_image g.words) (flat_map text_image g.system) (flat_map text_image g.messages)
    (flat_map object_image g.objects) (flat_map text_image g.locations) (flat_map exits_image g.exits) (flat_map table_image g.tables)

-- A game whose parts have at most these numbers of bytes.
limited_game : (g : GameLists) (things places : ℕ) → length (flat_map word_image g.words) ≤ 7 * (8 + things)
    → length (flat_map text_image g.system) ≤ (TEXT_LIMIT + 2) * 54 → length (flat_map text_image g.messages) ≡ 0
    → length (flat_map object_image g.objects) ≤ (TEXT_LIMIT + 6) * things → length (flat_map text_image g.locations) ≤ (TEXT_LIMIT + 2) * places
    → length (flat_map exits_image g.exits) ≤ 5 * places → length (flat_map table_image g.tables) ≡ 39
    → things ≤ 109 → places ≤ 219 → length (image g) ≤ IMAGE_LIMIT
limited_game g things places words system none objects locations exits tables few fewer =
    limited (length (image g)) (length (head_image g)) (length (flat_map word_image g.words)) (length (flat_map text_image g.system))
    (length (flat_map text_image g.messages)) (length (flat_map object_image g.objects))
    (length (flat_map text_image g.locations)) (length (flat_map exits_image g.exits))
    (length (flat_map table_image g.tables)) things places (parts_size g) (head_size g) words system none objects locations exits tables few fewer

pub trial_short : (n : ℕ) → length (image (trial_game n)) ≤ IMAGE_LIMIT
unfolding trial_game
trial_short n =
    let words : length (flat_map word_image (words_of n)) ≤ 7 * (8 + object_count n) = words_short n in
    let system : length (flat_map text_image (rows 54 system_text)) ≤ (TEXT_LIMIT + 2) * 54 =
    rows_short text_image system_text (TEXT_LIMIT + 2) 54 (λ k low. text_short (system_text k) (all_at is_text system_text 54 k system_texts low)) in
    let objects : length (flat_map object_image (rows (object_count n) (trial_object (location_count n)))) ≤ (TEXT_LIMIT + 6) * object_count n =
    rows_short object_image (trial_object (location_count n)) (TEXT_LIMIT + 6) (object_count n)
    (λ k low. object_short (trial_object (location_count n) k) (all_at is_text trial_object_text 109 k object_texts (omega (arith, low)))) in
    let locations : length (flat_map text_image (rows (location_count n) trial_location_text)) ≤ (TEXT_LIMIT + 2) * location_count n =
    rows_short text_image trial_location_text (TEXT_LIMIT + 2) (location_count n)
    (λ k low. text_short (trial_location_text k) (all_at is_text trial_location_text 219 k location_texts (omega (arith, low)))) in
    let exits : length (flat_map exits_image (rows (location_count n) (ring_exits (location_count n)))) ≤ 5 * location_count n =
    rows_short exits_image (ring_exits (location_count n)) 5 (location_count n) (λ k low. omega arith) in
    limited_game (trial_game n) (object_count n) (location_count n) words system refl objects locations exits tables_size (omega arith) (omega arith)
