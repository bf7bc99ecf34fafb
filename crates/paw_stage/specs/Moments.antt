-- Which moments a call adds to those that were. A moment is what stands at it.
use Rattle.std.specs.Prelude.{◌⊎◌, ℕ, ◌≤◌}
use Rattle.paw_stage.specs.Stage.{Standing}

-- What a call does to the time and to the moments. The time doesn't fall. For each time up to the call, the moments
-- since it are those of before the call, and others; each of the others lies inside the call, and is one since every
-- such time.
pub record Passes (before now : ℕ) (past since : ℕ → Standing → Type 0) (Inside : Standing → Type 0) : Type 0 where
  pub later : before ≤ now
  pub nothing_else : (t : ℕ) (m : Standing) → t ≤ before → since t m →
      past t m ⊎ (((u : ℕ) → u ≤ before → since u m) × Inside m)
  pub stays : (t : ℕ) (m : Standing) → t ≤ before → past t m → since t m

-- The moments of a call, or of several, are those before, and others for which `Inside` holds. `clock` and `since` give
-- the time and the moments of the stage `old`, and of what the calls make of it.
abbrev pub Moments : {S : Type 0} → (S → ℕ) → (S → ℕ → Standing → Type 0) → S → S → (Standing → Type 0) → Type 0
Moments clock since old new Inside = Passes (clock old) (clock new) (since old) (since new) Inside
