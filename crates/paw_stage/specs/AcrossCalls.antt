-- What happened at a stage across a call, or across several, one after another: `old` is the stage before, `new` the
-- stage after, and `g` has what the stage reports.
use Rattle.std.specs.Prelude.{◌≡◌, ◌↔◌, ◌⊎◌, ◌≤◌, ℕ, List, [], ◌∷◌, Option, IfSome}
use Rattle.paw_stage.specs.declared.StageCall.{StageCall}
use Rattle.paw_stage.specs.Stage.{Standing, CountsFailure}
use Rattle.paw_stage.specs.Moments.{Moments}
use Rattle.paw_stage.specs.declared.Stage.{Ghosts}

-- The value x is one of these.
abbrev pub IsOneOf : {A : Type 0} → List A → A → Type 0
IsOneOf [] x = ⊥
IsOneOf (y ∷ ys) x = (x ≡ y) ⊎ IsOneOf ys x

-- The stage reports what stands at it (`Tells`) after the calls if and only if it did before. A call that failed is one
-- of these, and its count of failures rose, and no other.
pub record FailsOnlyBy {S : Type 0} (g : Ghosts S) (calls : List StageCall) (failed : Option StageCall) (old new : S)
    : Type 0 where
  pub tells : g.Tells old ↔ g.Tells new
  pub counts_failure : CountsFailure failed (g.failures old) (g.failures new)
  pub among : IfSome failed (IsOneOf calls)

-- Where the stage reports what stands at it, this holds between what stood before and what stands after.
abbrev pub IfTelling : {S : Type 0} → Ghosts S → S → S → (Standing → Standing → Type 0) → Type 0
IfTelling g old new Holds = g.Tells old → Holds (g.standing old) (g.standing new)

-- The moments of the calls are those before them, and others for which `Inside` holds.
abbrev pub EachMoment : {S : Type 0} → Ghosts S → S → S → (Standing → Type 0) → Type 0
EachMoment g old new Inside = Moments g.clock g.since old new Inside

-- Calls in two parts, of which the second begins once a store is attached. `After` holds for each moment since the
-- second part began, and `Before` for each other moment of the calls. There may be no second part.
pub data InTwoParts {S : Type 0} (g : Ghosts S) (old new : S) (Before After : Standing → Type 0) : Type 0 where
  first_alone : EachMoment g old new Before → InTwoParts g old new Before After
  both : (mid : ℕ) → g.clock old ≤ mid → mid ≤ g.clock new → ((m : Standing) → g.since new mid m → After m) →
      EachMoment g old new (λ m. Before m ⊎ g.since new mid m) → InTwoParts g old new Before After
