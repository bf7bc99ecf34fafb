-- A word of decimal digits, and the number that it is parsed as.
use Rattle.paw_play.proofs.Names.{◌≡◌, ℕ, ◌<◌, ◌^◌, true, false, ltb, leb, cond, length, Option, Some, None, Result, Ok, Err, refl, ◌&&◌, list_all, option_and_then, and_from, and_parts, le-leb, leb-true, lt-ltb, ltb-true, Bytes, is_ascii_digit, OkIff, result_ok, digits_value, ParsesUnsigned, and-true, IsNumeralModel, numerals_by_value, parse_digits, number_of, seed_of}

-- What decimal digits alone make, and what they are worth.
pub decimal_digits : IsNumeralModel (λ ds. list_all is_ascii_digit ds ≡ true) (digits_value 10)
decimal_digits = numerals_by_value (λ ds. list_all is_ascii_digit ds ≡ true) (record {
  empty = refl;
  parts = λ c cs h. let both = and_parts (is_ascii_digit c) _ h in
      let range = and_parts (leb 48 c) (leb c 57) both.0 in ((leb-true 48 c range.0, leb-true c 57 range.1), both.1);
  more = λ c cs k h. and_from (is_ascii_digit c) _ (and_from (leb 48 c) (leb c 57) (le-leb 48 c k.0) (le-leb c 57 k.1)) h;
})

-- What a parse of this many digits gives, where a number below the limit is taken.
parsed_below : {E : Type 0} (limit n count : ℕ) (r : Result ℕ E) → OkIff r ((0 < count) × (n < limit)) n
    → result_ok r ≡ option_and_then (λ m. cond (ltb m limit) (Some m) None) (cond (ltb 0 count) (Some n) None)
parsed_below limit n count (Ok x) h = rw (h.1, lt-ltb 0 count h.0.0, lt-ltb n limit h.0.1) refl
parsed_below limit n count (Err e) h =
    elim (ltb 0 count) as (λ a. ltb 0 count ≡ a →
    ◌≡◌ {A = Option ℕ} None (option_and_then (λ m. cond (ltb m limit) (Some m) None) (cond a (Some n) None))) [
      | true ↦ λ s. elim (ltb n limit) as (λ b. ltb n limit ≡ b → ◌≡◌ {A = Option ℕ} None (cond b (Some n) None)) [
        | true ↦ λ t. absurd (h (ltb-true 0 count s, ltb-true n limit t))
        | false ↦ λ t. refl
      ] refl
      | false ↦ λ s. refl
    ] refl

-- A word of at most this many digits is parsed as its number, where that is below two to the power of the bits.
pub number_is : {E : Type 0} (bits most : ℕ) (word : Bytes) (r : Result ℕ E)
    → (leb (length word) most && list_all is_ascii_digit word) ≡ true → ParsesUnsigned bits 10 word r
    → result_ok r ≡ option_and_then (λ n. cond (ltb n (2 ^ bits)) (Some n) None) (number_of most word)
number_is bits most word r t h =
    let both = and_parts (leb (length word) most) _ t in
    rw (both.0, both.1, and-true (ltb 0 (length word)))
    (parsed_below (2 ^ bits) (digits_value 10 word) (length word) r (parse_digits decimal_digits bits word r h both.1))

-- A seed is parsed so.
pub seed_is : {E : Type 0} (word : Bytes) (r : Result ℕ E) → (leb (length word) 20 && list_all is_ascii_digit word) ≡ true
    → ParsesUnsigned 64 10 word r → result_ok r ≡ seed_of word
seed_is word r t h = number_is 64 20 word r t h
