-- Numbers that are free, one after another.
use Rattle.std.proofs.Common.{◌≡◌, ℕ, suc, ◌<◌, ◌+◌, ◌-◌, Bool, false, find, refl, arith}
use Rattle.std.specs.List.{range_with_len}

-- A number that isn't free is passed.
pub passes_on : (p : ℕ → Bool) (number end : ℕ) → number < end → p number ≡ false
    → find p (range_with_len (number + 1) (end - (number + 1))) ≡ find p (range_with_len number (end - number))
passes_on p number end h e =
    let more : end - number ≡ suc (end - (number + 1)) = omega arith in
    rw (more, e) refl
