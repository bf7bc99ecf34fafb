-- Ranges of a list.
use Rattle.std.proofs.Common.{◌≡◌, ◌≤◌, ◌+◌, ◌-◌, ℕ, List, length, drop, take, sym, ap, ◌∙◌, arith}
use Rattle.std.specs.List.{slice_range}
use Rattle.std.proofs.lemmas.List.{length-take, drop-take, drop-drop}

-- A range without its first n elements.
pub slice_range-drop : {X : Type 0} → (xs : List X) (i j n : ℕ) → n ≤ length (slice_range xs i j) → slice_range xs (i + n) j ≡ drop n (slice_range xs i j)
slice_range-drop xs i j n h =
    let within : n ≤ j - i = omega (arith, length-take (j - i) (drop i xs)) in
    let split : j - i ≡ n + (j - (i + n)) = omega arith in
    rw split (sym (drop-take n (j - (i + n)) (drop i xs) ∙ ap (take (j - (i + n))) (drop-drop n i xs)))
