-- The least object at a place.
use Rattle.std.proofs.Common.{◌≡◌, ◌≢◌, ℕ, zero, suc, ◌+◌, ◌-◌, ◌<◌, ◌≤◌, inl, inr, [], length, take, Some, None}
use Rattle.std.proofs.Common.{Option, refl, sym, ap, ◌∙◌}
use Rattle.std.proofs.Common.{arith, get_or, add-zero}
use Rattle.std.specs.Prelude.{if◌then◌else◌, ◌==◌}
use Rattle.std.proofs.lemmas.Bool.{cases_eq, cases_lt}
use Rattle.std.proofs.lemmas.Bool.Decides.{nat_tests}
use Rattle.paw_base.specs.Bytes.{ObjectPlaces}
use Rattle.paw_world.specs.inner.ObjectSet.{IsLeastFrom, found, none}
use Rattle.paw_world.specs.inner.PlaceSets.{stands_in, AreSetsOf, ObjectSets}
use Rattle.paw_world.specs.inner.Places.{least_at, left_above}
use Rattle.paw_world.proofs.Listed.{count_is, place_is}
use Rattle.paw_world.proofs.Sets.{at_place_same, at_place_other}

pub least_at_none : (places : ObjectPlaces) (p : ℕ) → least_at places p 0 ≡ None
unfolding least_at
least_at_none places p = refl

pub least_at-suc : (places : ObjectPlaces) (p n : ℕ)
    → least_at places p (suc n) ≡ (if get_or places (length places - suc n) 0 == p then Some (length places - suc n) else least_at places p n)
unfolding least_at
least_at-suc places p n = refl

-- At object o: it, or the least of those above it.
pub least_at_step : (places : ObjectPlaces) (p o : ℕ) → o < length places
    → least_at places p (length places - o) ≡ (if get_or places o 0 == p then Some o else least_at places p (length places - (o + 1)))
least_at_step places p o within =
    let one : length places - o ≡ suc (length places - (o + 1)) = omega arith in
    let back : length places - suc (length places - (o + 1)) ≡ o = omega arith in
    ap (least_at places p) one ∙ (least_at-suc places p (length places - (o + 1))
    ∙ ap (λ (j : ℕ). if get_or places j 0 == p then Some j else least_at places p (length places - (o + 1))) back)

pub least_at_here : (places : ObjectPlaces) (p o : ℕ) → o < length places → get_or places o 0 ≡ p → least_at places p (length places - o) ≡ Some o
least_at_here places p o within here = least_at_step places p o within ∙ grind (arith, nat_tests)

pub least_at_pass : (places : ObjectPlaces) (p o : ℕ) → o < length places → get_or places o 0 ≢ p
    → least_at places p (length places - o) ≡ least_at places p (length places - (o + 1))
least_at_pass places p o within other = least_at_step places p o within ∙ grind (arith, nat_tests)

-- Past the last object there is none.
pub least_at_end : (places : ObjectPlaces) (p o : ℕ) → length places ≤ o → least_at places p (length places - o) ≡ None
least_at_end places p o past = let empty : length places - o ≡ 0 = omega arith in ap (least_at places p) empty ∙ least_at_none places p

-- To skip j objects that stand elsewhere leaves the same least one.
least_at_skip : (places : ObjectPlaces) (p from j : ℕ) → from + j ≤ length places
    → ((k : ℕ) → from ≤ k → k < from + j → get_or places k 0 ≢ p)
    → least_at places p (length places - from) ≡ least_at places p (length places - (from + j))
least_at_skip places p from zero within others = ap (λ (o : ℕ). least_at places p (length places - o)) (sym (add-zero from))
least_at_skip places p from (suc j) within others =
    let one : from + suc j ≡ from + j + 1 = omega arith in
    least_at_skip places p from j (omega arith) (λ k low high. others k low (omega arith))
    ∙ (least_at_pass places p (from + j) (omega arith) (others (from + j) (omega arith) (omega arith))
    ∙ ap (λ (o : ℕ). least_at places p (length places - o)) (sym one))

pub least_at_found : (places : ObjectPlaces) (p from o : ℕ) → from ≤ o → o < length places → get_or places o 0 ≡ p
    → ((k : ℕ) → from ≤ k → k < o → get_or places k 0 ≢ p) → least_at places p (length places - from) ≡ Some o
least_at_found places p from o low within here others =
    let reach : from + (o - from) ≡ o = omega arith in
    least_at_skip places p from (o - from) (omega arith) (λ k above less. others k above (omega arith))
    ∙ (ap (λ (j : ℕ). least_at places p (length places - j)) reach ∙ least_at_here places p o within here)

pub least_at_nowhere : (places : ObjectPlaces) (p from : ℕ) → ((k : ℕ) → from ≤ k → k < length places → get_or places k 0 ≢ p)
    → least_at places p (length places - from) ≡ None
least_at_nowhere places p from others = elim (cases_lt from (length places)) [
  | inl less ↦ let reach : from + (length places - from) ≡ length places = omega arith in
      least_at_skip places p from (length places - from) (omega arith) (λ k above below. others k above (omega arith))
      ∙ least_at_end places p (from + (length places - from)) (omega arith)
  | inr past ↦ least_at_end places p from past
]

module _ (sets : ObjectSets) (n : ℕ) (all places : ObjectPlaces) (sound : AreSetsOf sets n all) (taken : take n all ≡ places) (p : ℕ) (small : p < 256) where
  count : length places ≡ n
  count = count_is n all places taken (omega (arith, sound.few, sound.room))

  -- A member of the place's set is an object that stands there.
  member_known : (o : ℕ) → o < 256 → stands_in sets p o ≡ 1 → o < length places
  member_known o fits one = elim (cases_lt o n) [
    | inl less ↦ omega (arith, count)
    | inr past ↦ absurd (omega (arith, sound.beyond p o small past fits))
  ]

  member_stands : (o : ℕ) → o < 256 → stands_in sets p o ≡ 1 → get_or places o 0 ≡ p
  member_stands o fits one = elim (cases_eq (get_or all o 0) p) [
    | inl same ↦ place_is n o all places taken (omega (arith, count, member_known o fits one)) ∙ same
    | inr other ↦ absurd (omega (arith, sound.inside p o small (omega (arith, count, member_known o fits one)), at_place_other (get_or all o 0) p other))
  ]

  others_stand_elsewhere : (o : ℕ) → o < length places → stands_in sets p o ≡ 0 → get_or places o 0 ≢ p
  others_stand_elsewhere o within absent here =
      let less : o < n = omega (arith, count) in
      let same : get_or all o 0 ≡ p = sym (place_is n o all places taken less) ∙ here in
      absurd (omega (arith, sound.inside p o small less, at_place_same (get_or all o 0) p same))

  -- The least of the set is the least object at the place.
  pub least_of_set : (from end : ℕ) (outcome : Option ℕ) → n ≤ end → IsLeastFrom (get_or sets p []) from end outcome → outcome ≡ least_at places p (length places - from)
  least_of_set from end _ whole (found o low fits one before) =
      sym (least_at_found places p from o low (member_known o fits one) (member_stands o fits one)
      (λ k above less. others_stand_elsewhere k (omega (arith, member_known o fits one)) (before k above less)))
  least_of_set from end _ whole (none empty) =
      sym (least_at_nowhere places p from (λ k above within. others_stand_elsewhere k within (empty k above (omega (arith, count, whole)))))

-- What is found among the last n objects is one of them, and stands at the place.
pub record IsFoundAt (places : ObjectPlaces) (p n o : ℕ) : Type 0 where
  pub above : length places - n ≤ o
  pub known : o < length places
  pub stands : get_or places o 0 ≡ p

pub least_at_is : (places : ObjectPlaces) (p n o : ℕ) → n ≤ length places → least_at places p n ≡ Some o → IsFoundAt places p n o
least_at_is places p zero o fits e = let nothing = least_at_none places p in cc
least_at_is places p (suc n) o fits e = elim (cases_eq (get_or places (length places - suc n) 0) p) [
  | inl same ↦ let first : Some (length places - suc n) ≡ Some o = sym (least_at-suc places p n ∙ grind (arith, nat_tests)) ∙ e in
      let here : length places - suc n ≡ o = cc in
      record { above = omega arith; known = omega arith; stands = ap (λ (j : ℕ). get_or places j 0) (sym here) ∙ same }
  | inr other ↦ let later : least_at places p n ≡ Some o = sym (least_at-suc places p n ∙ grind (arith, nat_tests)) ∙ e in
      let rest = least_at_is places p n o (omega arith) later in
      record { above = omega arith; known = rest.known; stands = rest.stands }
]

-- The number of the first object that is looked at, and how many are left from there on.
pub left_of_all : (places : ObjectPlaces) (from : ℕ) (above : Option ℕ) → from ≡ 0 → above ≡ None → length places - from ≡ left_above places above
left_of_all places from above start all =
    let whole : length places - from ≡ length places = omega arith in
    whole ∙ ap (left_above places) (sym all)

pub left_of_some : (places : ObjectPlaces) (from o : ℕ) (above : Option ℕ) → from ≡ o + 1 → above ≡ Some o → length places - from ≡ left_above places above
left_of_some places from o above next given =
    let same : length places - from ≡ length places - suc o = omega arith in
    same ∙ ap (left_above places) (sym given)
