-- Sums over a range, one number more.
use Rattle.std.proofs.Common.{◌≡◌, ℕ, ◌+◌, ◌-◌, ◌^◌, min, ap, ◌∙◌, arith}
use Rattle.std.specs.Prelude.{sum_by}
use Rattle.std.specs.List.{range_with_len}
use Rattle.std.proofs.Math.Numerals.{add-one}
use Rattle.paw_check.specs.inner.Capped.{in_32_bits}
use Rattle.paw_check.proofs.Entries.{sum_to_more}

pub range_one_more : (f : ℕ → ℕ) (n s x t : ℕ) → s ≡ in_32_bits (sum_by f (range_with_len 0 n)) → x ≡ in_32_bits (f n)
    → t ≡ min (s + x) (2 ^ 32 - 1) → t ≡ in_32_bits (sum_by f (range_with_len 0 (n + 1)))
range_one_more f n s x t so is sum =
    let more = ap (λ (k : ℕ). sum_by f (range_with_len 0 k)) (add-one n) ∙ sum_to_more f n in
    omega (arith, so, is, sum, more)
