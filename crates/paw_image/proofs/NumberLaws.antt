-- Letters stand in the order of their numbers, so that a search among numbers finds what a search among letters finds.
use Rattle.std.proofs.Common.{◌≡◌, ℕ, suc, ◌+◌, ◌*◌, ◌<◌, ◌≤◌, List, [], ◌∷◌, ◌++◌, length, get_or, take, drop, map, Result, Ok, Err}
use Rattle.std.proofs.Common.{Ordering, refl, sym, ap, subst, ◌∙◌, arith, add-one}
use Rattle.std.proofs.Math.Seq.{take-suc}
use Rattle.std.specs.declared.cmp.Ordering.TheVariants.{Less, Equal, Greater}
use Rattle.std.specs.Int.{from_be_bytes, w64}
use Rattle.std.specs.List.{All}
use Rattle.std.specs.List.Sorted.{IsBinarySearchResult, IsSearchInRange}
use Rattle.std.specs.Ordering.{nat_cmp, ordering_index, ordering_then}
use Rattle.std.specs.Cmp.{nat_cmp_is, ranked}
use Rattle.std.specs.Cmp.Lexicographic.{slice_cmp}
use Rattle.std.proofs.lemmas.List.{drop-map, take-map, get_or-map, length-map, map_more, take_all}
use Rattle.std.proofs.lemmas.List.Elements.{All-drop, All-push, All-take}
use Rattle.paw_base.specs.Bytes.{Letters, Bytes}
use Rattle.paw_base.specs.declared.limits.TheConstants.{WORD_LENGTH}
use Rattle.paw_game.specs.declared.parts.Word.{Word}
use Rattle.paw_game.proofs.Search.{compared}
use Rattle.paw_image.specs.inner.Images.{EachIsByte}
use Rattle.paw_image.specs.inner.Numbers.{number_followed_by, letters_as_number, AreFiveBytes, AreNumbers}

-- What bytes follow makes no difference to the order of two numbers.
below : (xs ys : Bytes) (m n : ℕ) → length xs ≡ length ys → EachIsByte xs → EachIsByte ys → m < n → number_followed_by m xs < number_followed_by n ys
below [] [] m n long small others h = h
below [] (y ∷ ys) m n long small others h = absurd (omega arith)
below (x ∷ xs) [] m n long small others h = absurd (omega arith)
below (x ∷ xs) (y ∷ ys) m n long small others h =
    below xs ys (m * 256 + x) (n * 256 + y) (omega arith) (λ i. small (suc i)) (λ i. others (suc i)) (omega (arith, small 0, others 0, h))

-- Two first bytes, and the order of what follows where they are the same.
first : (x y n : ℕ) (xs ys : Bytes) (o : Ordering) → o ≡ nat_cmp x y → length xs ≡ length ys → EachIsByte (x ∷ xs) → EachIsByte (y ∷ ys)
    → slice_cmp nat_cmp xs ys ≡ nat_cmp (number_followed_by (n * 256 + x) xs) (number_followed_by (n * 256 + x) ys)
    → ordering_then o (slice_cmp nat_cmp xs ys) ≡ nat_cmp (number_followed_by (n * 256 + x) xs) (number_followed_by (n * 256 + y) ys)
first x y n xs ys Less e long small others rest =
    let lt : x < y = ranked x y Less e in
    nat_cmp_is _ _ Less (below xs ys (n * 256 + x) (n * 256 + y) long (λ i. small (suc i)) (λ i. others (suc i)) (omega (arith, lt)))
first x y n xs ys Equal e long small others rest =
    let same : x ≡ y = ranked x y Equal e in
    rest ∙ ap (λ z. nat_cmp (number_followed_by (n * 256 + x) xs) (number_followed_by (n * 256 + z) ys)) same
first x y n xs ys Greater e long small others rest =
    let lt : y < x = ranked x y Greater e in
    nat_cmp_is _ _ Greater (below ys xs (n * 256 + y) (n * 256 + x) (sym long) (λ i. others (suc i)) (λ i. small (suc i)) (omega (arith, lt)))

in_order : (xs ys : Bytes) (n : ℕ) → length xs ≡ length ys → EachIsByte xs → EachIsByte ys
    → slice_cmp nat_cmp xs ys ≡ nat_cmp (number_followed_by n xs) (number_followed_by n ys)
in_order [] [] n long small others = nat_cmp_is n n Equal refl
in_order [] (y ∷ ys) n long small others = absurd (omega arith)
in_order (x ∷ xs) [] n long small others = absurd (omega arith)
in_order (x ∷ xs) (y ∷ ys) n long small others =
    let tails : length xs ≡ length ys = omega arith in
    first x y n xs ys (nat_cmp x y) refl tails small others (in_order xs ys (n * 256 + x) tails (λ i. small (suc i)) (λ i. others (suc i)))

-- Letters stand in the order of their numbers.
letters_in_order : (a b : Letters) → AreFiveBytes a → AreFiveBytes b → slice_cmp nat_cmp a b ≡ nat_cmp (letters_as_number a) (letters_as_number b)
letters_in_order a b h k = in_order a b 0 (h.five ∙ sym k.five) h.bytes k.bytes

-- The number of five letters, as the code writes it.
pub five_written : (letters : Letters) → length letters ≡ WORD_LENGTH
    → from_be_bytes w64 (0 ∷ 0 ∷ 0 ∷ get_or letters 0 0 ∷ get_or letters 1 0 ∷ get_or letters 2 0 ∷ get_or letters 3 0 ∷ get_or letters 4 0 ∷ [])
    ≡ letters_as_number letters
five_written [] long = absurd (omega arith)
five_written (a ∷ []) long = absurd (omega arith)
five_written (a ∷ b ∷ []) long = absurd (omega arith)
five_written (a ∷ b ∷ c ∷ []) long = absurd (omega arith)
five_written (a ∷ b ∷ c ∷ d ∷ []) long = absurd (omega arith)
five_written (a ∷ b ∷ c ∷ d ∷ e ∷ []) long = omega arith
five_written (a ∷ b ∷ c ∷ d ∷ e ∷ x ∷ xs) long = absurd (omega arith)

-- Some of the words from an index on have their numbers.
pub some_numbers : (n start : ℕ) (words : List Word) (numbers : List ℕ) → AreNumbers words numbers
    → AreNumbers (take n (drop start words)) (take n (drop start numbers))
some_numbers n start words numbers are =
    let number : Word → ℕ = λ w. letters_as_number w.letters in
    record {
      numbered = ap (λ xs. take n (drop start xs)) are.numbered ∙ ap (take n) (drop-map number start words) ∙ take-map number n (drop start words);
      bytes = All-take (λ w. AreFiveBytes w.letters) n (drop start words) (All-drop (λ w. AreFiveBytes w.letters) start words are.bytes);
    }

pub as_many : (words : List Word) (numbers : List ℕ) → AreNumbers words numbers → length numbers ≡ length words
as_many words numbers are = ap length are.numbered ∙ length-map words (λ (w : Word). letters_as_number w.letters)

module _ (letters : Letters) (words : List Word) (numbers : List ℕ) (five : AreFiveBytes letters) (are : AreNumbers words numbers) where
  -- A word stands to the letters as its number stands to theirs.
  stands : (k d : ℕ) (w : Word) → k < length words → nat_cmp (get_or numbers k d) (letters_as_number letters) ≡ compared letters (get_or words k w)
  stands k d w lt =
      let here = ap (λ xs. get_or xs k d) are.numbered ∙ get_or-map (λ (v : Word). letters_as_number v.letters) words k w d lt in
      ap (λ n. nat_cmp n (letters_as_number letters)) here ∙ sym (letters_in_order (get_or words k w).letters letters (are.bytes k w lt) five)

  -- What a search by halving finds among the numbers it finds among the words.
  pub found_by_number : (r : Result ℕ ℕ) → IsSearchInRange r (length numbers) → IsBinarySearchResult (λ n. nat_cmp n (letters_as_number letters)) numbers r
      → IsBinarySearchResult (compared letters) words r
  found_by_number (Ok i) within h = λ w. sym (stands i 0 w (omega (arith, within, as_many words numbers are))) ∙ h 0
  found_by_number (Err i) within h = λ rise.
      let no_word : Word = record { letters = []; value = 0; class = 0 } in
      let as_long = as_many words numbers are in
      let cut = h (λ a b d le lt.
      let lower = ap ordering_index (stands a d no_word (omega (arith, as_long, le, lt))) in
      let upper = ap ordering_index (stands b d no_word (omega (arith, as_long, lt))) in
      omega (arith, rise a b no_word le (omega (arith, as_long, lt)), lower, upper)) in (
        λ k w low high. sym (stands k 0 w (omega (arith, within, as_long, high))) ∙ cut.0 k 0 low high,
        λ k w from high. sym (stands k 0 w high) ∙ cut.1 k 0 from (omega (arith, as_long, high)),
      )

-- One more word, with its number.
pub more_numbers : (words : List Word) (i : ℕ) (d : Word) (numbers : List ℕ) (n : ℕ) → i < length words → AreNumbers (take i words) numbers
    → n ≡ letters_as_number (get_or words i d).letters → AreFiveBytes (get_or words i d).letters → AreNumbers (take (i + 1) words) (numbers ++ n ∷ [])
more_numbers words i d numbers n lt are is five =
    let number : Word → ℕ = λ w. letters_as_number w.letters in
    let more : take (i + 1) words ≡ take i words ++ get_or words i d ∷ [] = rw add-one (take-suc words i d lt) in
    record {
      numbered = ap (λ xs. xs ++ n ∷ []) are.numbered ∙ ap (λ m. map number (take i words) ++ m ∷ []) is ∙ sym (map_more number words i d lt);
      bytes = subst (All (λ w. AreFiveBytes w.letters)) (sym more) (All-push (λ w. AreFiveBytes w.letters) (take i words) (get_or words i d) are.bytes five);
    }

-- All words with their numbers.
pub all_numbers : (words : List Word) (i : ℕ) (numbers : List ℕ) → length words ≤ i → AreNumbers (take i words) numbers → AreNumbers words numbers
all_numbers words i numbers le are = subst (λ ws. AreNumbers ws numbers) (take_all i words le) are
