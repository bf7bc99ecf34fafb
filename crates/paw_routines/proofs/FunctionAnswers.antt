-- The answers of routines that compute a function of their number and a value.
use Rattle.std.proofs.Common.{◌≡◌, ℕ, ◌<◌, length, map, Option, None, Some, sym, ap, ◌∙◌, arith, slice_get, subst}
use Rattle.std.proofs.Common.{refl}
use Rattle.std.specs.Prelude.{All}
use Rattle.std.specs.List.{range_with_len}
use Rattle.std.specs.Fn.{Shared}
use Rattle.std.proofs.lemmas.List.FromFn.{length-map-range_with_len, get_or-map-range_with_len}
use Rattle.std.proofs.lemmas.Option.{none-some, same_Some, get_or_from_slice_get, slice_get-get_or, slice_get_within}
use Rattle.std.proofs.Math.ListN.{get_or}
use Rattle.paw_base.specs.Bytes.{RoutineAnswers, Bytes}
use Rattle.paw_routines.specs.Answers.{StandFor, value_in, value_at}

-- The values of a function from 0 to 255.
abbrev pub values_of : (ℕ → ℕ) → Bytes
values_of h = map h (range_with_len 0 256)

-- The answers of each of the first `count` routines.
abbrev pub answers_of : (ℕ → ℕ → ℕ) → ℕ → RoutineAnswers
answers_of g count = map (λ n. values_of (g n)) (range_with_len 0 count)

length-answers_of : (g : ℕ → ℕ → ℕ) (count : ℕ) → length (answers_of g count) ≡ count
length-answers_of g count = length-map-range_with_len (λ n. values_of (g n)) 0 count

whole_answers : (g : ℕ → ℕ → ℕ) (count : ℕ) → All (λ own. length own ≡ 256) (answers_of g count)
whole_answers g count = λ k d below.
    ap length (get_or-map-range_with_len (λ n. values_of (g n)) 0 count k k d (omega (arith, length-answers_of g count)) (omega arith))
    ∙ length-map-range_with_len (g k) 0 256

value_at-answers_of : (g : ℕ → ℕ → ℕ) (count n x : ℕ) → n < count → x < 256 → value_at (answers_of g count) n x ≡ Some (g n x)
value_at-answers_of g count n x below small =
    let answers = answers_of g count in
    let own : slice_get answers n ≡ Some (values_of (g n)) =
    slice_get-get_or answers n (values_of (g n)) (omega (arith, length-answers_of g count))
    ∙ ap (λ (l : Bytes). Some l) (get_or-map-range_with_len (λ k. values_of (g k)) 0 count n n (values_of (g n)) below (omega arith)) in
    ap (λ (found : Option Bytes). value_in found x) own
    ∙ ap (λ (y : ℕ). Some y) (get_or-map-range_with_len (g n) 0 256 x x 0 small (omega arith))

small_answers : (g : ℕ → ℕ → ℕ) (count : ℕ) → ((n x : ℕ) → n < count → x < 256 → g n x < 256) → All (λ own. All (λ y. y < 256) own) (answers_of g count)
small_answers g count small = λ k d below.
    let low : k < count = omega (arith, below, length-answers_of g count) in
    let at = get_or-map-range_with_len (λ n. values_of (g n)) 0 count k k d low (omega arith) in
    subst (λ own. All (λ y. y < 256) own) (sym at) (λ i e less.
    let few : i < 256 = omega (arith, less, length-map-range_with_len (g k) 0 256) in
    subst (λ y. y < 256) (sym (get_or-map-range_with_len (g k) 0 256 i i e few (omega arith))) (small k i low few))

-- These answers stand for routines that may be called everywhere and answer with the function's value, which is a byte.
pub stand_for : {F : Type 0} (calls : Shared F (ℕ × (ℕ × Unit {0})) ℕ) (f : F) (g : ℕ → ℕ → ℕ) (count : ℕ)
    → ((n x : ℕ) → n < count → x < 256 → g n x < 256)
    → ((n x : ℕ) → n < count → x < 256 → calls.pre f (n, (x, tt)))
    → ((n x y : ℕ) → n < count → x < 256 → y < 256 → calls.post f (n, (x, tt)) y → y ≡ g n x)
    → StandFor calls f count (answers_of g count)
stand_for {F} calls f g count small callable gives = record {
  one_each = length-answers_of g count;
  whole = whole_answers g count;
  bytes = small_answers g count small;
  may_call = callable;
  agree = λ n x y below low byte called. value_at-answers_of g count n x below low ∙ ap (λ (z : ℕ). Some z) (sym (gives n x y below low byte called));
}

in_answers : (answers : RoutineAnswers) (n : ℕ) (found : Option Bytes) → slice_get answers n ≡ found
    → All (λ own. length own ≡ 256) answers → All (λ own. All (λ y. y < 256) own) answers
    → (x y : ℕ) → x < 256 → value_in found x ≡ Some y → y < 256
in_answers answers n None e whole bytes x y small at = absurd (none-some y at)
in_answers answers n (Some own) e whole bytes x y small at =
    let is : get_or answers n own ≡ own = get_or_from_slice_get answers n own own e in
    let low : n < length answers = slice_get_within answers n own e in
    let size : length own ≡ 256 = subst (λ r. length r ≡ 256) is (whole n own low) in
    let all : All (λ z. z < 256) own = subst (λ r. All (λ z. z < 256) r) is (bytes n own low) in
    subst (λ z. z < 256) (same_Some _ y at) (all x 0 (omega (arith, size, small)))

-- Each of the answers is a byte.
pub value-byte : {F : Type 0} (calls : Shared F (ℕ × (ℕ × Unit {0})) ℕ) (f : F) (count : ℕ) (answers : RoutineAnswers) → StandFor calls f count answers
    → (n x y : ℕ) → x < 256 → value_at answers n x ≡ Some y → y < 256
value-byte calls f count answers stand n x y small at =
    in_answers answers n (slice_get answers n) refl stand.whole stand.bytes x y small at
