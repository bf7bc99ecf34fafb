-- The objects at a place, one after the other, and what they weigh.
use Rattle.std.proofs.Common.{◌≡◌, ◌≢◌, ℕ, zero, suc, ◌+◌, ◌-◌, ◌<◌, ◌≤◌, inl, inr, List, [], ◌∷◌, length, drop, min}
use Rattle.std.proofs.Common.{Some, None, Option, refl, sym}
use Rattle.std.proofs.Common.{ap, ◌∙◌, arith, get_or, zero-add, Bool}
use Rattle.std.specs.Prelude.{if◌then◌else◌, ◌==◌, IfSome, sum_by, filter, slice_index}
use Rattle.std.specs.List.{range_with_len}
use Rattle.std.proofs.Math.Seq.{drop-cons}
use Rattle.std.proofs.lemmas.List.{drop_all}
use Rattle.std.proofs.lemmas.List.FromFn.{length-range_with_len, get_or-range_with_len}
use Rattle.std.proofs.lemmas.List.Sums.{sum_by-cons}
use Rattle.std.proofs.lemmas.Bool.{cases_eq}
use Rattle.std.proofs.lemmas.Bool.Decides.{nat_tests}
use Rattle.paw_base.specs.Bytes.{ObjectPlaces}
use Rattle.paw_world.specs.inner.Places.{least_at, left_above}
use Rattle.paw_world.specs.World.{World}
use Rattle.paw_world.specs.inner.World.{first_at}
use Rattle.paw_world.specs.Weight.{objects_at, weight_down}
use Rattle.paw_world.proofs.Least.{least_at_here, least_at_pass, least_at_end, least_at_is}

-- The objects at a place from one number on.
abbrev pub at_on : ObjectPlaces → ℕ → ℕ → List ℕ
at_on places p from = filter (λ o. slice_index places o == p) (drop from (range_with_len 0 (length places)))

filter-cons : (test : ℕ → Bool) (x : ℕ) (xs : List ℕ) → filter test (x ∷ xs) ≡ (if test x then x ∷ filter test xs else filter test xs)
filter-cons test x xs = refl

at_on_first : (places : ObjectPlaces) (p from : ℕ) → from < length places
    → at_on places p from ≡ (if slice_index places from == p then from ∷ at_on places p (suc from) else at_on places p (suc from))
at_on_first places p from within =
    let stands : ℕ → Bool = λ o. slice_index places o == p in
    let all : List ℕ = range_with_len 0 (length places) in
    let many : length all ≡ length places = length-range_with_len 0 (length places) in
    let number : get_or all from 0 ≡ from = get_or-range_with_len 0 (length places) from 0 within ∙ zero-add from in
    ap (filter stands) (drop-cons all from 0 (omega (arith, many)) ∙ ap (λ (o : ℕ). o ∷ drop (suc from) all) number)
    ∙ filter-cons stands from (drop (suc from) all)

at_on_here : (places : ObjectPlaces) (p from : ℕ) → from < length places → get_or places from 0 ≡ p → at_on places p from ≡ from ∷ at_on places p (suc from)
at_on_here places p from within here = at_on_first places p from within ∙ grind (arith, nat_tests)

at_on_pass : (places : ObjectPlaces) (p from : ℕ) → from < length places → get_or places from 0 ≢ p → at_on places p from ≡ at_on places p (suc from)
at_on_pass places p from within other = at_on_first places p from within ∙ grind (arith, nat_tests)

at_on_past : (places : ObjectPlaces) (p from : ℕ) → length places ≤ from → at_on places p from ≡ []
at_on_past places p from past =
    let all : List ℕ = range_with_len 0 (length places) in
    let many : length all ≡ length places = length-range_with_len 0 (length places) in
    ap (filter (λ o. slice_index places o == p)) (drop_all from all (omega (arith, many)))

later : (places : ObjectPlaces) (p from : ℕ) (found : Option ℕ) → from < length places → get_or places from 0 ≢ p
    → least_at places p (length places - from) ≡ found → least_at places p (length places - suc from) ≡ found
later places p from found within other is =
    let same : length places - (from + 1) ≡ length places - suc from = omega arith in
    sym (least_at_pass places p from within other ∙ ap (least_at places p) same) ∙ is

-- Where no least object is found there are none.
at_on_none : (n : ℕ) (places : ObjectPlaces) (p from : ℕ) → n ≡ length places - from → least_at places p (length places - from) ≡ None
    → at_on places p from ≡ []
at_on_none zero places p from many is = at_on_past places p from (omega arith)
at_on_none (suc n) places p from many is = elim (cases_eq (get_or places from 0) p) [
  | inl here ↦ let found = least_at_here places p from (omega arith) here in cc
  | inr other ↦ at_on_pass places p from (omega arith) other
      ∙ at_on_none n places p (suc from) (omega arith) (later places p from None (omega arith) other is)
]

-- The least object is the first of them, and the others are those above it.
at_on_some : (n : ℕ) (places : ObjectPlaces) (p from o : ℕ) → n ≡ length places - from → least_at places p (length places - from) ≡ Some o
    → at_on places p from ≡ o ∷ at_on places p (suc o)
at_on_some zero places p from o many is =
    let nothing = least_at_end places p from (omega arith) in
    cc
at_on_some (suc n) places p from o many is = elim (cases_eq (get_or places from 0) p) [
  | inl here ↦ let found = least_at_here places p from (omega arith) here in
      let same : from ≡ o = cc in
      at_on_here places p from (omega arith) here ∙ ap (λ (j : ℕ). j ∷ at_on places p (suc j)) same
  | inr other ↦ at_on_pass places p from (omega arith) other
      ∙ at_on_some n places p (suc from) o (omega arith) (later places p from (Some o) (omega arith) other is)
]

-- The first number above this one.
abbrev pub start : Option ℕ → ℕ
start None = 0
start (Some o) = suc o

left_start : (places : ObjectPlaces) (above : Option ℕ) → length places - start above ≡ left_above places above
left_start places None = omega arith
left_start places (Some o) = refl

-- The objects at a place above this one.
abbrev pub above_at : World → ℕ → Option ℕ → List ℕ
above_at w p above = at_on w.places p (start above)

pub above_at_none : (w : World) (p : ℕ) (above : Option ℕ) → first_at w p above ≡ None → above_at w p above ≡ []
above_at_none w p above is =
    at_on_none (length w.places - start above) w.places p (start above) refl (ap (least_at w.places p) (left_start w.places above) ∙ is)

pub above_at_some : (w : World) (p : ℕ) (above : Option ℕ) (o : ℕ) → first_at w p above ≡ Some o → above_at w p above ≡ o ∷ above_at w p (Some o)
above_at_some w p above o is =
    at_on_some (length w.places - start above) w.places p (start above) o refl (ap (least_at w.places p) (left_start w.places above) ∙ is)

pub above_at_all : (w : World) (p : ℕ) → above_at w p None ≡ objects_at w p
above_at_all w p = refl

-- A weight together with that of the objects at a place above this one.
abbrev pub weights_above : World → ℕ → ℕ → Option ℕ → ℕ → ℕ
weights_above w n p above total = min 255 (total + sum_by (weight_down w n) (above_at w p above))

capped_once : (total one others : ℕ) → min 255 (total + (one + others)) ≡ min 255 (min 255 (total + one) + others)
capped_once total one others = omega arith

pub weights_above-some : (w : World) (n p : ℕ) (above : Option ℕ) (total o : ℕ) → first_at w p above ≡ Some o
    → weights_above w n p above total ≡ weights_above w n p (Some o) (min 255 (total + weight_down w n o))
weights_above-some w n p above total o is =
    ap (λ (os : List ℕ). min 255 (total + sum_by (weight_down w n) os)) (above_at_some w p above o is)
    ∙ ap (λ (others : ℕ). min 255 (total + others)) (sum_by-cons (weight_down w n) o (above_at w p (Some o)))
    ∙ capped_once total (weight_down w n o) (sum_by (weight_down w n) (above_at w p (Some o)))

pub weights_above-none : (w : World) (n p : ℕ) (above : Option ℕ) (total : ℕ) → total ≤ 255 → first_at w p above ≡ None
    → weights_above w n p above total ≡ total
weights_above-none w n p above total fits is =
    ap (λ (os : List ℕ). min 255 (total + sum_by (weight_down w n) os)) (above_at_none w p above is) ∙ omega arith

-- Fewer objects are left above one that stands above another.
pub fewer_left : (places : ObjectPlaces) (above : Option ℕ) (o : ℕ) → o < length places → IfSome above (λ a. a < o)
    → left_above places (Some o) < left_above places above
fewer_left places None o within higher = omega arith
fewer_left places (Some a) o within higher = omega arith

-- What is found is an object that stands at the place, above the one that was given.
left_fits : (places : ObjectPlaces) (above : Option ℕ) → left_above places above ≤ length places
left_fits places None = omega arith
left_fits places (Some o) = omega arith

pub found_known : (places : ObjectPlaces) (p : ℕ) (above outcome : Option ℕ) → outcome ≡ least_at places p (left_above places above)
    → IfSome outcome (λ o. o < length places)
found_known places p above None is = tt
found_known places p above (Some o) is = (least_at_is places p (left_above places above) o (left_fits places above) (sym is)).known

pub found_stands : (places : ObjectPlaces) (p : ℕ) (above outcome : Option ℕ) → outcome ≡ least_at places p (left_above places above)
    → IfSome outcome (λ o. get_or places o 0 ≡ p)
found_stands places p above None is = tt
found_stands places p above (Some o) is = (least_at_is places p (left_above places above) o (left_fits places above) (sym is)).stands

pub found_above : (places : ObjectPlaces) (p : ℕ) (above outcome : Option ℕ) → outcome ≡ least_at places p (left_above places above)
    → IfSome outcome (λ o. IfSome above (λ a. a < o))
found_above places p above None is = tt
found_above places p None (Some o) is = tt
found_above places p (Some a) (Some o) is =
    let f = least_at_is places p (left_above places (Some a)) o (left_fits places (Some a)) (sym is) in
    omega (arith, f.known, f.above)
