-- The first elements of a longer list.
use Rattle.std.proofs.Common.{◌≡◌, ℕ, ◌≤◌, ◌<◌, List, Some, length, take, sym, ap, ◌∙◌, arith, get_or, slice_get}
use Rattle.std.proofs.lemmas.List.{length-take-le, get_or-take}
use Rattle.std.proofs.lemmas.Option.{slice_get-get_or}
use Rattle.paw_base.specs.Bytes.{ObjectPlaces}

-- There are as many as are taken.
pub count_is : {X : Type 0} (n : ℕ) (all some : List X) → take n all ≡ some → n ≤ length all → length some ≡ n
count_is n all some taken fits = ap length (sym taken) ∙ length-take-le n all fits

-- Each of them is the one of the longer list.
pub place_is : (n o : ℕ) (all places : ObjectPlaces) → take n all ≡ places → o < n → get_or places o 0 ≡ get_or all o 0
place_is n o all places taken less = ap (λ (l : ObjectPlaces). get_or l o 0) (sym taken) ∙ get_or-take n all o 0 less

pub slice_get_is : {X : Type 0} (n o : ℕ) (all some : List X) (d : X) → take n all ≡ some → n ≤ length all → o < n
    → slice_get some o ≡ Some (get_or all o d)
slice_get_is {X} n o all some d taken fits less =
    slice_get-get_or some o d (omega (arith, count_is n all some taken fits))
    ∙ ap (λ (x : X). Some x) (ap (λ (l : List X). get_or l o d) (sym taken) ∙ get_or-take n all o d less)
