-- A word of digits, and the number that it is parsed as.
use Rattle.std.proofs.Common.{◌≡◌, ℕ, ◌<◌, ◌^◌, true, false, ltb, leb, cond, length, Option, Some, None, Result}
use Rattle.std.proofs.Common.{Ok, Err}
use Rattle.std.proofs.Common.{refl, ◌&&◌, arith}
use Rattle.std.specs.Char.{is_ascii_digit}
use Rattle.std.specs.List.{list_all}
use Rattle.std.specs.Result.{OkIff, result_ok}
use Rattle.std.specs.Str.Parse.{digits_value, ParsesUnsigned}
use Rattle.std.proofs.lemmas.Bool.{and_parts, leb-true, lt-ltb, ltb-true}
use Rattle.std.proofs.Math.Bool.{and-true}
use Rattle.std.proofs.lemmas.Str.Parse.{digits_value_short, parse_digits}
use Rattle.paw_base.specs.Bytes.{Bytes}
use Rattle.paw_play.specs.Numbers.{number_of}
use Rattle.paw_play.proofs.Digits.{decimal_digits, number_is}
use Rattle.paw_top.specs.Commands.{byte_of}

-- What a parse of this many digits gives, where their number is below the limit anyhow.
parsed : {E : Type 0} (limit n count : ℕ) (r : Result ℕ E) → n < limit → OkIff r ((0 < count) × (n < limit)) n
    → result_ok r ≡ cond (ltb 0 count) (Some n) None
parsed limit n count (Ok x) small h = rw (h.1, lt-ltb 0 count h.0.0) refl
parsed limit n count (Err e) small h =
    elim (ltb 0 count) as (λ a. ltb 0 count ≡ a → ◌≡◌ {A = Option ℕ} None (cond a (Some n) None)) [
      | true ↦ λ s. absurd (h (ltb-true 0 count s, small))
      | false ↦ λ s. refl
    ] refl

pub trial_is : {E : Type 0} (word : Bytes) (r : Result ℕ E) → (leb (length word) 4 && list_all is_ascii_digit word) ≡ true
    → ParsesUnsigned 16 10 word r → result_ok r ≡ number_of 4 word
trial_is word r t h =
    let both = and_parts (leb (length word) 4) _ t in
    let small = digits_value_short decimal_digits word 4 both.1 (leb-true (length word) 4 both.0) in
    rw (both.0, both.1, and-true (ltb 0 (length word)))
    (parsed (2 ^ 16) (digits_value 10 word) (length word) r (omega (arith, small)) (parse_digits decimal_digits 16 word r h both.1))

pub byte_is : {E : Type 0} (word : Bytes) (r : Result ℕ E) → (leb (length word) 3 && list_all is_ascii_digit word) ≡ true
    → ParsesUnsigned 8 10 word r → result_ok r ≡ byte_of word
byte_is word r t h = number_is 8 3 word r t h
