-- Words that rise by their letters are found by halving.
use Rattle.std.proofs.Common.{◌≡◌, ℕ, zero, suc, ◌+◌, ◌<◌, false, List, [], ◌∷◌, length, get_or, Some, None, Result, Ok}
use Rattle.std.proofs.Common.{Err, Ordering, IsTrue, refl}
use Rattle.std.proofs.Common.{sym, ap, ◌∙◌, inl, inr, arith}
use Rattle.std.specs.declared.cmp.Ordering.TheVariants.{Less, Equal, Greater}
use Rattle.std.specs.Ordering.{is_eq, is_lt, nat_cmp, ordering_reverse}
use Rattle.std.specs.Cmp.Lexicographic.{slice_cmp}
use Rattle.std.specs.Str.{bytes_eq}
use Rattle.std.specs.List.{HoldsAt}
use Rattle.std.specs.Result.{result_ok}
use Rattle.std.proofs.lemmas.Option.{none-some, same_Some}
use Rattle.std.specs.List.Sorted.{IsBinarySearchResult, IsSearchInRange, IsSortedBy}
use Rattle.std.proofs.lemmas.Bool.{and_parts, cases_lt, false≢true}
use Rattle.std.proofs.lemmas.Cmp.{alike_right, nat_list_cmp_total}
use Rattle.std.proofs.lemmas.List.Recursion.{found_at, found_nowhere}
use Rattle.std.proofs.lemmas.List.Sorted.{searchable_from_sorted}
use Rattle.std.proofs.lemmas.Map.Text.{is_eq-slice_cmp}
use Rattle.paw_base.specs.Bytes.{Letters}
use Rattle.paw_game.specs.declared.parts.Word.{Word}
use Rattle.paw_game.specs.Valid.{words_rise}
use Rattle.paw_game.specs.Tables.{word_of}

abbrev pub compared : Letters → Word → Ordering
compared letters w = slice_cmp nat_cmp w.letters letters

Less-from_is_lt : (o : Ordering) → IsTrue (is_lt o) → o ≡ Less
Less-from_is_lt Less h = refl
Less-from_is_lt Equal h = absurd (false≢true h)
Less-from_is_lt Greater h = absurd (false≢true h)

is_lt-reverse : (o : Ordering) → o ≡ Less → is_lt (ordering_reverse o) ≡ false
is_lt-reverse o h = rw h refl

-- The first word stands below each later one.
rises_from : (w : Word) (ws : List Word) (k : ℕ) (d : Word) → IsTrue (words_rise (w ∷ ws)) → k < length ws
    → slice_cmp nat_cmp w.letters (get_or ws k d).letters ≡ Less
rises_from w [] k d h l = absurd (omega arith)
rises_from w (v ∷ vs) zero d h l = Less-from_is_lt _ (and_parts _ (words_rise (v ∷ vs)) h).0
rises_from w (v ∷ vs) (suc k) d h l =
    nat_list_cmp_total.trans w.letters v.letters (get_or vs k d).letters
    (Less-from_is_lt _ (and_parts _ (words_rise (v ∷ vs)) h).0)
    (rises_from v vs k d (and_parts _ (words_rise (v ∷ vs)) h).1 (omega arith))

rest_rises : (w : Word) (ws : List Word) → IsTrue (words_rise (w ∷ ws)) → IsTrue (words_rise ws)
rest_rises w [] h = refl
rest_rises w (v ∷ vs) h = (and_parts _ (words_rise (v ∷ vs)) h).1

-- Each word stands below each later one.
pub rises : (ws : List Word) (i j : ℕ) (d : Word) → IsTrue (words_rise ws) → i < j → j < length ws
    → slice_cmp nat_cmp (get_or ws i d).letters (get_or ws j d).letters ≡ Less
rises [] i j d h l m = absurd (omega arith)
rises (w ∷ ws) i zero d h l m = absurd (omega arith)
rises (w ∷ ws) zero (suc j) d h l m = rises_from w ws j d h (omega arith)
rises (w ∷ ws) (suc i) (suc j) d h l m = rises ws i j d (rest_rises w ws h) (omega arith) (omega arith)

sorted : (ws : List Word) → IsTrue (words_rise ws) → IsSortedBy (λ a b. is_lt (slice_cmp nat_cmp a.letters b.letters)) ws
sorted ws h = λ k d low high.
    rw (nat_list_cmp_total.antisymm (get_or ws (k + 1) d).letters (get_or ws k d).letters)
    (is_lt-reverse _ (rises ws k (k + 1) d h (omega arith) high))

word_found : (letters : Letters) (ws : List Word) (i : ℕ) (d : Word) → IsTrue (words_rise ws) → i < length ws
    → HoldsAt (λ w. compared letters w ≡ Equal) ws i → Some (get_or ws i d) ≡ word_of letters ws
word_found letters ws i d h l e =
    sym (found_at (word_of letters) (λ w. bytes_eq w.letters letters) Some None refl (λ _ _. refl) ws i d l
    (λ k below. sym (is_eq-slice_cmp (get_or ws k d).letters letters)
    ∙ ap is_eq (sym (alike_right nat_list_cmp_total (get_or ws i d).letters letters (get_or ws k d).letters (e d)) ∙ rises ws k i d h below l))
    (sym (is_eq-slice_cmp (get_or ws i d).letters letters) ∙ ap is_eq (e d)))

word_missing : (letters : Letters) (ws : List Word) (i : ℕ) → IsTrue (words_rise ws) → IsBinarySearchResult (compared letters) ws (Err i)
    → word_of letters ws ≡ None
word_missing letters ws i h e =
    let cut = e (searchable_from_sorted nat_list_cmp_total (λ w. w.letters) ws letters (sorted ws h)) in
    let d : Word = record { letters = []; value = 0; class = 0 } in
    found_nowhere (word_of letters) (λ w. bytes_eq w.letters letters) Some None refl (λ _ _. refl) ws d
    (λ k l. sym (is_eq-slice_cmp (get_or ws k d).letters letters)
    ∙ elim (cases_lt k i) [ inl below ↦ ap is_eq (cut.0 k d (omega arith) below) | inr from ↦ ap is_eq (cut.1 k d from l) ])

-- What a search by halving found is the word with these letters.
pub found_is : (letters : Letters) (ws : List Word) (r : Result ℕ ℕ) (i : ℕ) (d : Word) → IsTrue (words_rise ws) → IsSearchInRange r (length ws)
    → IsBinarySearchResult (compared letters) ws r → Some i ≡ result_ok r → Some (get_or ws i d) ≡ word_of letters ws
found_is letters ws (Ok j) i d h l e is = rw (same_Some i j is) (word_found letters ws j d h l e)
found_is letters ws (Err j) i d h l e is = absurd (none-some i (sym is))

-- Where it found nothing there is no such word.
pub missing_is : (letters : Letters) (ws : List Word) (r : Result ℕ ℕ) → IsTrue (words_rise ws) → IsBinarySearchResult (compared letters) ws r
    → None ≡ result_ok r → word_of letters ws ≡ None
missing_is letters ws (Ok j) h e is = absurd (none-some j is)
missing_is letters ws (Err j) h e is = word_missing letters ws j h e
