-- The rules of weights, as equations.
use Rattle.std.proofs.Common.{◌≡◌, ◌≢◌, ℕ, zero, suc, ◌-◌, Bool, true, false, Some, refl, ap, ◌∙◌, arith, slice_get}
use Rattle.std.specs.Prelude.{◌==◌, ◌&&◌, not, sum_by, Option}
use Rattle.std.specs.Option.{option_map_or}
use Rattle.std.proofs.lemmas.Bool.Decides.{nat_tests}
use Rattle.paw_base.specs.declared.parts.ObjectFacts.{ObjectFacts}
use Rattle.paw_world.specs.World.{World}
use Rattle.paw_world.specs.Weight.{weight_down, filled_weight, objects_at}
use Rattle.paw_world.specs.inner.Weight.{weight_with}

-- What an object weighs of itself.
abbrev own_weight : Option ObjectFacts → ℕ
own_weight found = option_map_or (λ f. f.weight) found 0

-- A container whose own weight isn't 0 weighs what is in it too.
abbrev pub weighs_contents : ObjectFacts → Bool
weighs_contents f = f.container && not (f.weight == 0)

weight_down-zero : (w : World) (o : ℕ) → weight_down w 0 o ≡ own_weight (slice_get w.facts o)
unfolding weight_down
weight_down-zero w o = refl

weight_down-suc : (w : World) (n o : ℕ) → weight_down w (suc n) o
    ≡ filled_weight (slice_get w.facts o) (sum_by (weight_down w n) (objects_at w o))
unfolding weight_down
weight_down-suc w n o = refl

-- An object weighs its own weight where no levels are left, and where it is no container or weighs nothing itself.
pub weight_own : (w : World) (n o : ℕ) (f : ObjectFacts) → slice_get w.facts o ≡ Some f → weighs_contents f ≡ false → weight_down w n o ≡ f.weight
weight_own w zero o f is own = weight_down-zero w o ∙ ap own_weight is
weight_own w (suc n) o f is own = weight_down-suc w n o ∙ rw (is, own) refl

pub weight_none_left : (w : World) (n o : ℕ) (f : ObjectFacts) → slice_get w.facts o ≡ Some f → n ≡ 0 → weight_down w n o ≡ f.weight
weight_none_left w n o f is none = ap (λ (k : ℕ). weight_down w k o) none ∙ (weight_down-zero w o ∙ ap own_weight is)

-- Another container weighs what is in it too.
pub weight_contents : (w : World) (n o : ℕ) (f : ObjectFacts) → slice_get w.facts o ≡ Some f → n ≢ 0 → weighs_contents f ≡ true
    → weight_down w n o ≡ weight_with w (n - 1) f.weight o
weight_contents w n o f is left contents =
    let one : n ≡ suc (n - 1) = omega arith in
    ap (λ (k : ℕ). weight_down w k o) one ∙ (weight_down-suc w (n - 1) o ∙ rw (is, contents) refl)

-- What the code tests of an object.
pub no_container : (f : ObjectFacts) → not f.container ≡ true → weighs_contents f ≡ false
no_container f closed = other (f.container) (not (f.weight == 0)) closed where
  other : (b d : Bool) → not b ≡ true → (b && d) ≡ false
  other false d closed = refl
  other true d closed = cc

pub weightless : (f : ObjectFacts) → not f.container ≡ false → f.weight ≡ 0 → weighs_contents f ≡ false
weightless f opens none = grind (arith, nat_tests)

pub heavy_container : (f : ObjectFacts) → not f.container ≡ false → f.weight ≢ 0 → weighs_contents f ≡ true
heavy_container f opens some = grind (arith, nat_tests)
