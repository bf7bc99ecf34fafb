-- A number that is capped while it is read.
use Rattle.std.proofs.Common.{◌≡◌, ℕ, suc, ◌<◌, ◌+◌, ◌*◌, ◌&&◌, min, true, false, cond, leb, [], ◌∷◌}
use Rattle.std.proofs.Common.{length, get_or, drop, Option, Some, None, refl, sym, ap, add-one, arith}
use Rattle.std.specs.Char.{digit_value, is_ascii_digit}
use Rattle.std.specs.List.{list_all}
use Rattle.std.specs.Str.Parse.{digits_value_after}
use Rattle.std.proofs.Math.Seq.{drop-cons}
use Rattle.std.proofs.lemmas.Bool.{and_parts, leb-true}
use Rattle.std.proofs.lemmas.Str.{digit_value_digit}
use Rattle.paw_base.specs.Bytes.{Bytes, Token}
use Rattle.paw_grammar.specs.inner.Numbers.{capped_value}

-- The number that digits make after the number n.
abbrev pub number_after : ℕ → Bytes → Option ℕ
number_after n ds = cond (list_all is_ascii_digit ds) (Some (digits_value_after 10 n ds)) None

-- Two numbers above the cap look the same once they are capped.
same_number : (a b : ℕ) (ds : Bytes) → min a 4294967295 ≡ min b 4294967295 → capped_value (number_after a ds) ≡ capped_value (number_after b ds)
same_number a b [] h = ap Some h
same_number a b (d ∷ ds) h =
    elim (is_ascii_digit d) as (λ v. capped_value (cond (v && list_all is_ascii_digit ds) (Some (digits_value_after 10 (a * 10 + digit_value d) ds)) None)
    ≡ capped_value (cond (v && list_all is_ascii_digit ds) (Some (digits_value_after 10 (b * 10 + digit_value d) ds)) None)) [
      | true ↦ same_number (a * 10 + digit_value d) (b * 10 + digit_value d) ds (omega arith)
      | false ↦ refl
    ]

-- What a digit is worth.
pub digit_worth : (d : ℕ) → is_ascii_digit d ≡ true → digit_value d + 48 ≡ d
digit_worth d h = let range = and_parts (leb 48 d) (leb d 57) h in digit_value_digit d (leb-true 48 d range.0, leb-true d 57 range.1)

-- One digit more.
pub digit_read : (n more : ℕ) (t : Token) (i : ℕ) → i < length t → is_ascii_digit (get_or t i 0) ≡ true
    → min more 4294967295 ≡ min (n * 10 + digit_value (get_or t i 0)) 4294967295
    → capped_value (number_after n (drop i t)) ≡ capped_value (number_after more (drop (i + 1) t))
digit_read n more t i h digit e =
    rw (drop-cons t i 0, add-one, digit) (same_number (n * 10 + digit_value (get_or t i 0)) more (drop (suc i) t) (sym e))
