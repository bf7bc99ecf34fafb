-- One bit set, cleared or found in a set of four words.
use Rattle.std.proofs.Common.{◌≡◌, ◌≢◌, ℕ, ◌+◌, ◌-◌, ◌*◌, ◌/◌, ◌%◌, ◌^◌, ◌<◌, ◌≤◌, List, length, refl, sym, ap, ◌∙◌}
use Rattle.std.proofs.Common.{arith, inl, inr, bit_and, bit_or}
use Rattle.std.proofs.Common.{slice_index, slice_set, set, get_or, Some, None, w64}
use Rattle.std.specs.Int.{bit_at, trailing_zeros}
use Rattle.std.proofs.lemmas.Nat.Bits.{bit_at_set_same, bit_at_set_other, bit_at_clear_same, bit_at_clear_other}
use Rattle.std.proofs.lemmas.Nat.Bits.{bit_at-trailing_zeros, bit_at_above}
use Rattle.std.proofs.lemmas.Nat.Bits.{bit_at-zero}
use Rattle.std.proofs.lemmas.List.{get_or-set_same, get_or-set_other}
use Rattle.std.proofs.lemmas.Bool.{cases_eq, cases_lt}
use Rattle.std.proofs.lemmas.Nat.{pow-add}
use Rattle.std.proofs.Math.Nat.{div-div-eq-div-mul, div-le_self}
use Rattle.paw_world.specs.inner.ObjectSet.{member, Inserts, Removes, IsLeastFrom, found, IsLowestFrom, lowest, no_bit}

-- A word of a set is written: the members of other words stay.
member-set_other : (words : List ℕ) (i v k : ℕ) → k / 64 ≢ i → member (set words i v) k ≡ member words k
member-set_other words i v k other = ap (λ (n : ℕ). bit_at n (k % 64)) (get_or-set_other words i (k / 64) v 0 other)

member-set_same : (words : List ℕ) (i v k : ℕ) → i < length words → k / 64 ≡ i → member (set words i v) k ≡ bit_at v (k % 64)
member-set_same words i v k within same =
    ap (λ (n : ℕ). bit_at n (k % 64)) (ap (λ (j : ℕ). get_or (set words i v) j 0) same ∙ get_or-set_same words i v 0 within)

member-same_word : (words : List ℕ) (i k : ℕ) → k / 64 ≡ i → bit_at (get_or words i 0) (k % 64) ≡ member words k
member-same_word words i k same = ap (λ (j : ℕ). bit_at (get_or words j 0) (k % 64)) (sym same)

other_bit : (o k : ℕ) → k ≢ o → k / 64 ≡ o / 64 → k % 64 ≢ o % 64
other_bit o k differ same equal = differ (omega arith)

pub inserts : (words : List ℕ) (o : ℕ) → length words ≡ 4 → o < 256
    → Inserts o words (slice_set words (o / 64) (bit_or (slice_index words (o / 64)) (1 * 2 ^ (o % 64) % 2 ^ 64)))
inserts words o four small =
    let bit : o % 64 < 64 = omega arith in
    let within : o / 64 < length words = omega arith in
    let w = bit_or (get_or words (o / 64) 0) (1 * 2 ^ (o % 64) % 2 ^ 64) in
    record {
      inside = member-set_same words (o / 64) w o within refl ∙ bit_at_set_same w64 (get_or words (o / 64) 0) (o % 64) bit;
      others = λ k below differ. elim (cases_eq (k / 64) (o / 64)) [
        | inl same ↦ member-set_same words (o / 64) w k within same
            ∙ (bit_at_set_other w64 (get_or words (o / 64) 0) (o % 64) bit (k % 64) (other_bit o k differ same)
            ∙ member-same_word words (o / 64) k same)
        | inr apart ↦ member-set_other words (o / 64) w k apart
      ];
    }

pub removes : (words : List ℕ) (o : ℕ) → length words ≡ 4 → o < 256
    → Removes o words (slice_set words (o / 64) (bit_and (slice_index words (o / 64)) (2 ^ 64 - 1 - 1 * 2 ^ (o % 64) % 2 ^ 64)))
removes words o four small =
    let bit : o % 64 < 64 = omega arith in
    let within : o / 64 < length words = omega arith in
    let w = bit_and (get_or words (o / 64) 0) (2 ^ 64 - 1 - 1 * 2 ^ (o % 64) % 2 ^ 64) in
    record {
      outside = member-set_same words (o / 64) w o within refl ∙ bit_at_clear_same w64 (get_or words (o / 64) 0) (o % 64) bit;
      others = λ k below differ. elim (cases_eq (k / 64) (o / 64)) [
        | inl same ↦ let other : k % 64 < 64 = omega arith in
            member-set_same words (o / 64) w k within same
            ∙ (bit_at_clear_other w64 (get_or words (o / 64) 0) (o % 64) bit (k % 64) other (other_bit o k differ same)
            ∙ member-same_word words (o / 64) k same)
        | inr apart ↦ member-set_other words (o / 64) w k apart
      ];
    }

bit_at-shr : (n j i : ℕ) → bit_at (n / 2 ^ j) i ≡ bit_at n (j + i)
bit_at-shr n j i =
    ap (λ (m : ℕ). m % 2) (div-div-eq-div-mul n (2 ^ j) (2 ^ i) ∙ ap (λ (m : ℕ). n / m) (sym (pow-add 2 j i)))

-- A number of word w is in the set exactly where the word has its bit.
member_at : (words : List ℕ) (w k : ℕ) → 64 * w ≤ k → k < 64 * w + 64 → member words k ≡ bit_at (get_or words w 0) (k - 64 * w)
member_at words w k low high =
    let same : k / 64 ≡ w = omega arith in
    let rest : k % 64 ≡ k - 64 * w = omega arith in
    sym (member-same_word words w k same) ∙ ap (bit_at (get_or words w 0)) rest

bit_above : (word from t : ℕ) → word < 2 ^ 64 → bit_at (word / 2 ^ from) t ≡ 1 → from + t < 64
bit_above word from t small one = elim (cases_lt (from + t) 64) [
  | inl less ↦ less
  | inr past ↦ absurd (omega (arith, sym one ∙ (bit_at-shr word from t ∙ bit_at_above word 64 (from + t) small past)))
]

lowest_at : (word from t : ℕ) → word < 2 ^ 64 → bit_at (word / 2 ^ from) t ≡ 1
    → ((i : ℕ) → i < t → bit_at (word / 2 ^ from) i ≡ 0) → IsLowestFrom word from (Some (from + t))
lowest_at word from t small one before =
    lowest (from + t) (omega arith) (bit_above word from t small one) (sym (bit_at-shr word from t) ∙ one)
    (λ k low high. let same : from + (k - from) ≡ k = omega arith in
    ap (bit_at word) (sym same) ∙ (sym (bit_at-shr word from (k - from)) ∙ before (k - from) (omega arith)))

-- The trailing zeros of what is left of a word after a move to the right.
pub lowest_by_zeros : (word from : ℕ) → word < 2 ^ 64 → ¬ (word / 2 ^ from ≡ 0)
    → IsLowestFrom word from (Some (from + trailing_zeros w64 (word / 2 ^ from)))
lowest_by_zeros word from small some =
    let fits : word / 2 ^ from < 2 ^ 64 = omega (arith, div-le_self word (2 ^ from)) in
    let above : 0 < word / 2 ^ from = omega arith in
    let least = bit_at-trailing_zeros w64 (word / 2 ^ from) above fits in
    lowest_at word from _ small least.1 least.2

pub below_word : (word from : ℕ) → word < 2 ^ 64 → ¬ (word / 2 ^ from ≡ 0) → from + trailing_zeros w64 (word / 2 ^ from) < 64
below_word word from small some =
    let fits : word / 2 ^ from < 2 ^ 64 = omega (arith, div-le_self word (2 ^ from)) in
    let above : 0 < word / 2 ^ from = omega arith in
    bit_above word from _ small (bit_at-trailing_zeros w64 (word / 2 ^ from) above fits).1

pub no_bit_left : (word from : ℕ) → word / 2 ^ from ≡ 0 → IsLowestFrom word from None
no_bit_left word from empty = no_bit (λ k low high. let same : from + (k - from) ≡ k = omega arith in
    ap (bit_at word) (sym same) ∙ (sym (bit_at-shr word from (k - from)) ∙ (ap (λ (n : ℕ). bit_at n (k - from)) empty ∙ bit_at-zero (k - from))))

-- What a search in word w from bit b found is the least of the set, where none was passed.
pub least_in_word : (words : List ℕ) (from end w b one : ℕ) → w < 4 → from ≤ 64 * w + b
    → ((k : ℕ) → from ≤ k → k < 64 * w + b → member words k ≡ 0)
    → IsLowestFrom (get_or words w 0) b (Some one) → IsLeastFrom words from end (Some (64 * w + one))
least_in_word words from end w b one within below passed (lowest _ low high here before) =
    let place : 64 * w + one - 64 * w ≡ one = omega arith in
    found (64 * w + one) (omega arith) (omega arith)
    (member_at words w (64 * w + one) (omega arith) (omega arith) ∙ (ap (bit_at (get_or words w 0)) place ∙ here))
    (λ k above less. elim (cases_lt k (64 * w + b)) [
      | inl old ↦ passed k above old
      | inr new ↦ member_at words w k (omega arith) (omega arith) ∙ before (k - 64 * w) (omega arith) (omega arith)
    ])

pub below_set : (word b one : ℕ) → IsLowestFrom word b (Some one) → one < 64
below_set word b one (lowest _ low high here before) = high

-- A search that found nothing passes the rest of word w.
pub passed_word : (words : List ℕ) (from w b : ℕ) → ((k : ℕ) → from ≤ k → k < 64 * w + b → member words k ≡ 0)
    → IsLowestFrom (get_or words w 0) b None → (k : ℕ) → from ≤ k → k < 64 * (w + 1) + 0 → member words k ≡ 0
passed_word words from w b passed (no_bit empty) k above less = elim (cases_lt k (64 * w + b)) [
  | inl old ↦ passed k above old
  | inr new ↦ member_at words w k (omega arith) (omega arith) ∙ empty (k - 64 * w) (omega arith) (omega arith)
]
