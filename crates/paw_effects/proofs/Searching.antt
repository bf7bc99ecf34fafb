-- Looking for an object, one after the other.
use Rattle.std.proofs.Common.{◌≡◌, ℕ, ◌+◌, ◌<◌, Bool, true, false, ◌||◌, List, ◌∷◌, length, take, Some, None, Option}
use Rattle.std.proofs.Common.{refl, sym, ap, ◌∙◌, get_or}
use Rattle.std.specs.Prelude.{find}
use Rattle.std.specs.List.{list_any}
use Rattle.std.specs.Option.{option_map_or}
use Rattle.std.proofs.lemmas.List.Folds.{list_any_at, list_any_more}
use Rattle.std.proofs.lemmas.Option.{slice_get-get_or}
use Rattle.paw_base.specs.declared.parts.ObjectFacts.{ObjectFacts}
use Rattle.paw_world.specs.World.{World}
use Rattle.paw_world.specs.inner.World.{first_at}
use Rattle.paw_world.proofs.Contents.{above_at, above_at_none, above_at_some}
use Rattle.paw_effects.specs.ObjectSearch.{fits_sentence, names, some_fits, least_fitting}

-- ---- the objects at a place ----

find_first : (p : ℕ → Bool) (o : ℕ) (os : List ℕ) → p o ≡ true → find p (o ∷ os) ≡ Some o
find_first p o os passes = rw passes refl

find_later : (p : ℕ → Bool) (o : ℕ) (os : List ℕ) → p o ≡ false → find p (o ∷ os) ≡ find p os
find_later p o os fails = rw fails refl

pub found_here : (w : World) (p : ℕ) (above : Option ℕ) (o : ℕ) → find (fits_sentence w) (above_at w p above) ≡ least_fitting w p
    → Some o ≡ first_at w p above → true ≡ fits_sentence w o → Some o ≡ least_fitting w p
found_here w p above o is first passes =
    sym (ap (find (fits_sentence w)) (above_at_some w p above o (sym first)) ∙ find_first (fits_sentence w) o (above_at w p (Some o)) (sym passes)) ∙ is

pub found_later : (w : World) (p : ℕ) (above : Option ℕ) (o : ℕ) → find (fits_sentence w) (above_at w p above) ≡ least_fitting w p
    → Some o ≡ first_at w p above → false ≡ fits_sentence w o → find (fits_sentence w) (above_at w p (Some o)) ≡ least_fitting w p
found_later w p above o is first fails =
    sym (ap (find (fits_sentence w)) (above_at_some w p above o (sym first)) ∙ find_later (fits_sentence w) o (above_at w p (Some o)) (sym fails)) ∙ is

pub found_nowhere : (w : World) (p : ℕ) (above : Option ℕ) → find (fits_sentence w) (above_at w p above) ≡ least_fitting w p
    → None ≡ first_at w p above → None ≡ least_fitting w p
found_nowhere w p above is none = sym (ap (find (fits_sentence w)) (above_at_none w p above (sym none))) ∙ is

-- ---- all objects ----

nothing : ObjectFacts
nothing = record { noun = 0; adjective = 0; start = 0; weight = 0; container = false; wearable = false }

-- An object's facts.
of_facts : (w : World) (o : ℕ) → o < length w.facts → fits_sentence w o ≡ names w (get_or w.facts o nothing)
of_facts w o known = ap (λ found. option_map_or (names w) found false) (slice_get-get_or w.facts o nothing known)

pub one_fits : (w : World) (o : ℕ) → o < length w.facts → true ≡ fits_sentence w o → true ≡ some_fits w
one_fits w o known passes = sym (list_any_at (names w) w.facts o nothing known (sym (of_facts w o known) ∙ sym passes))

pub none_more : (w : World) (o : ℕ) → o < length w.facts → list_any (names w) (take o w.facts) ≡ false → false ≡ fits_sentence w o
    → list_any (names w) (take (o + 1) w.facts) ≡ false
none_more w o known none fails =
    list_any_more (names w) w.facts o nothing known
    ∙ (ap (λ (b : Bool). b || names w (get_or w.facts o nothing)) none ∙ (sym (of_facts w o known) ∙ sym fails))
