-- The next object of a list.
use Rattle.std.proofs.Common.{◌≡◌, ◌≢◌, ℕ, zero, suc, ◌+◌, ◌-◌, ◌<◌, ◌≤◌, inl, inr, List, [], ◌∷◌, length, drop, min}
use Rattle.std.proofs.Common.{Bool, Option, Some}
use Rattle.std.proofs.Common.{None, refl, sym, ap, subst, ◌∙◌, arith, get_or, zero-add, IfSome, IfNone}
use Rattle.std.specs.Prelude.{if◌then◌else◌, filter}
use Rattle.std.specs.List.{range_with_len}
use Rattle.std.proofs.Math.Seq.{drop-cons}
use Rattle.std.proofs.lemmas.List.{drop_all}
use Rattle.std.proofs.lemmas.List.FromFn.{length-range_with_len, get_or-range_with_len}
use Rattle.std.proofs.lemmas.Bool.{cases_eq}
use Rattle.std.proofs.lemmas.Bool.Decides.{nat_tests}
use Rattle.paw_base.specs.Bytes.{ObjectPlaces}
use Rattle.paw_base.specs.declared.places.TheConstants.{WORN_PLACE, CARRIED_PLACE}
use Rattle.paw_world.specs.inner.Places.{least_at, left_above}
use Rattle.paw_world.specs.World.{World}
use Rattle.paw_world.specs.inner.World.{first_at}
use Rattle.paw_world.proofs.Least.{least_at_here, least_at_pass, least_at_end, least_at_is}
use Rattle.paw_world.proofs.Contents.{above_at_none, above_at_some}
use Rattle.paw_effects.specs.declared.lists.ListKind.TheVariants as listed
use Rattle.paw_effects.specs.inner.Listing.{lesser, first_above, listed_from, listed_above}
use Rattle.paw_effects.specs.Presence.{is_held}

-- The objects at a place above this one, where none is found.
pub at_ends : (w : World) (p : ℕ) (above found : Option ℕ) → found ≡ first_at w p above → IfNone found (listed_above w (listed.At p) above ≡ [])
at_ends w p None None is = above_at_none w p None (sym is)
at_ends w p (Some a) None is = above_at_none w p (Some a) (sym is)
at_ends w p above (Some o) is = tt

-- The same, where one is found.
pub at_goes_on : (w : World) (p : ℕ) (above found : Option ℕ) → found ≡ first_at w p above
    → IfSome found (λ o. listed_above w (listed.At p) above ≡ o ∷ listed_above w (listed.At p) (Some o))
at_goes_on w p above None is = tt
at_goes_on w p None (Some o) is = above_at_some w p None o (sym is)
at_goes_on w p (Some a) (Some o) is = above_at_some w p (Some a) o (sym is)

-- What is worn or carried from one number on.
abbrev held_on : World → ℕ → List ℕ
held_on w from = listed_from w listed.Held from

filter-cons : (test : ℕ → Bool) (x : ℕ) (xs : List ℕ) → filter test (x ∷ xs) ≡ (if test x then x ∷ filter test xs else filter test xs)
filter-cons test x xs = refl

at_first : (w : World) (from : ℕ) → from < length w.places
    → held_on w from ≡ (if is_held w from then from ∷ held_on w (suc from) else held_on w (suc from))
at_first w from within =
    let all : List ℕ = range_with_len 0 (length w.places) in
    let many : length all ≡ length w.places = length-range_with_len 0 (length w.places) in
    let number : get_or all from 0 ≡ from = get_or-range_with_len 0 (length w.places) from 0 within ∙ zero-add from in
    ap (filter (is_held w)) (drop-cons all from 0 (omega (arith, many)) ∙ ap (λ (o : ℕ). o ∷ drop (suc from) all) number)
    ∙ filter-cons (is_held w) from (drop (suc from) all)

worn_here : (w : World) (from : ℕ) → from < length w.places → get_or w.places from 0 ≡ WORN_PLACE → held_on w from ≡ from ∷ held_on w (suc from)
worn_here w from within here = at_first w from within ∙ grind (arith, nat_tests)

carried_here : (w : World) (from : ℕ) → from < length w.places → get_or w.places from 0 ≡ CARRIED_PLACE → held_on w from ≡ from ∷ held_on w (suc from)
carried_here w from within here = at_first w from within ∙ grind (arith, nat_tests)

neither_here : (w : World) (from : ℕ) → from < length w.places → get_or w.places from 0 ≢ WORN_PLACE → get_or w.places from 0 ≢ CARRIED_PLACE
    → held_on w from ≡ held_on w (suc from)
neither_here w from within worn carried = at_first w from within ∙ grind (arith, nat_tests)

held_past : (w : World) (from : ℕ) → length w.places ≤ from → held_on w from ≡ []
held_past w from past =
    let all : List ℕ = range_with_len 0 (length w.places) in
    let many : length all ≡ length w.places = length-range_with_len 0 (length w.places) in
    ap (filter (is_held w)) (drop_all from all (omega (arith, many)))

later : (places : ObjectPlaces) (p from : ℕ) (found : Option ℕ) → from < length places → get_or places from 0 ≢ p
    → found ≡ least_at places p (length places - from) → found ≡ least_at places p (length places - suc from)
later places p from found within other is =
    let same : length places - (from + 1) ≡ length places - suc from = omega arith in
    is ∙ (least_at_pass places p from within other ∙ ap (least_at places p) same)

-- Nothing is found before the number from which one looks.
not_before : (places : ObjectPlaces) (p from : ℕ) (found : Option ℕ) → from ≤ length places → found ≡ least_at places p (length places - from)
    → IfSome found (λ o. from ≤ o)
not_before places p from None low is = tt
not_before places p from (Some o) low is =
    let f = least_at_is places p (length places - from) o (omega arith) (sym is) in
    omega (arith, f.above)

lesser_first : (from : ℕ) (b : Option ℕ) → IfSome b (λ o. from ≤ o) → lesser (Some from) b ≡ Some from
lesser_first from None low = refl
lesser_first from (Some o) low = let least : min from o ≡ from = omega arith in ap (λ (n : ℕ). Some n) least

lesser_second : (from : ℕ) (a : Option ℕ) → IfSome a (λ o. from ≤ o) → lesser a (Some from) ≡ Some from
lesser_second from None low = refl
lesser_second from (Some o) low = let least : min o from ≡ from = omega arith in ap (λ (n : ℕ). Some n) least

-- What there is from a number on, by the lesser of what is found.
data Found (w : World) (from : ℕ) : Option ℕ → Type 0 where
  nothing : held_on w from ≡ [] → Found w from None
  object : (o : ℕ) → held_on w from ≡ o ∷ held_on w (suc o) → Found w from (Some o)

-- An object is passed by.
passed : (w : World) (from : ℕ) (found : Option ℕ) → held_on w from ≡ held_on w (suc from) → Found w (suc from) found → Found w from found
passed w from _ same (nothing e) = nothing (same ∙ e)
passed w from _ same (object o e) = object o (same ∙ e)

-- There are n objects left to look at.
found_on : (n : ℕ) (w : World) (from : ℕ) (a b : Option ℕ) → n ≡ length w.places - from
    → a ≡ least_at w.places WORN_PLACE (length w.places - from) → b ≡ least_at w.places CARRIED_PLACE (length w.places - from) → Found w from (lesser a b)
found_on zero w from a b many worn carried =
    let no_worn : None ≡ a = sym (worn ∙ least_at_end w.places WORN_PLACE from (omega arith)) in
    let no_carried : None ≡ b = sym (carried ∙ least_at_end w.places CARRIED_PLACE from (omega arith)) in
    subst (λ (x : Option ℕ). Found w from (lesser x b)) no_worn
    (subst (λ (x : Option ℕ). Found w from x) no_carried (nothing (held_past w from (omega arith))))
found_on (suc n) w from a b many worn carried = elim (cases_eq (get_or w.places from 0) WORN_PLACE) [
  | inl here ↦
      let is : a ≡ Some from = worn ∙ least_at_here w.places WORN_PLACE from (omega arith) here in
      let least : lesser a b ≡ Some from = ap (λ (x : Option ℕ). lesser x b) is
      ∙ lesser_first from b (not_before w.places CARRIED_PLACE from b (omega arith) carried) in
      subst (λ (x : Option ℕ). Found w from x) (sym least) (object from (worn_here w from (omega arith) here))
  | inr not_worn ↦ elim (cases_eq (get_or w.places from 0) CARRIED_PLACE) [
    | inl here ↦
        let is : b ≡ Some from = carried ∙ least_at_here w.places CARRIED_PLACE from (omega arith) here in
        let least : lesser a b ≡ Some from = ap (lesser a) is ∙ lesser_second from a (not_before w.places WORN_PLACE from a (omega arith) worn) in
        subst (λ (x : Option ℕ). Found w from x) (sym least) (object from (carried_here w from (omega arith) here))
    | inr not_carried ↦
        passed w from (lesser a b) (neither_here w from (omega arith) not_worn not_carried)
        (found_on n w (suc from) a b (omega arith) (later w.places WORN_PLACE from a (omega arith) not_worn worn)
        (later w.places CARRIED_PLACE from b (omega arith) not_carried carried))
  ]
]

found_ends : (w : World) (from : ℕ) (found : Option ℕ) → Found w from found → IfNone found (held_on w from ≡ [])
found_ends w from _ (nothing e) = e
found_ends w from _ (object o e) = tt

found_goes_on : (w : World) (from : ℕ) (found : Option ℕ) → Found w from found → IfSome found (λ o. held_on w from ≡ o ∷ held_on w (suc o))
found_goes_on w from _ (nothing e) = tt
found_goes_on w from _ (object o e) = e

left_on : (places : ObjectPlaces) (above : Option ℕ) → left_above places above ≡ length places - first_above above
left_on places None = omega arith
left_on places (Some o) = refl

found_held : (w : World) (above a b found : Option ℕ) → a ≡ first_at w WORN_PLACE above → b ≡ first_at w CARRIED_PLACE above → found ≡ lesser a b
    → Found w (first_above above) found
found_held w above a b found worn carried is =
    subst (λ (x : Option ℕ). Found w (first_above above) x) (sym is)
    (found_on (length w.places - first_above above) w (first_above above) a b refl
    (worn ∙ ap (least_at w.places WORN_PLACE) (left_on w.places above)) (carried ∙ ap (least_at w.places CARRIED_PLACE) (left_on w.places above)))

-- What is worn or carried above an object, where none is found.
pub held_ends : (w : World) (above a b found : Option ℕ) → a ≡ first_at w WORN_PLACE above → b ≡ first_at w CARRIED_PLACE above → found ≡ lesser a b
    → IfNone found (listed_above w listed.Held above ≡ [])
held_ends w above a b found worn carried is = found_ends w (first_above above) found (found_held w above a b found worn carried is)

-- The same, where one is found.
pub held_goes_on : (w : World) (above a b found : Option ℕ) → a ≡ first_at w WORN_PLACE above → b ≡ first_at w CARRIED_PLACE above → found ≡ lesser a b
    → IfSome found (λ o. listed_above w listed.Held above ≡ o ∷ listed_above w listed.Held (Some o))
held_goes_on w above a b found worn carried is = found_goes_on w (first_above above) found (found_held w above a b found worn carried is)
