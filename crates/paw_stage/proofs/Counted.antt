-- Counts of faults over several calls.
use Rattle.std.proofs.Common.{ℕ, ◌≤◌, ◌<◌, ◌≢◌, inl, inr, refl, sym, ◌∙◌, subst, arith}
use Rattle.std.proofs.lemmas.Bool.{cases_lt}
use Rattle.std.specs.Prelude.{Option, Some, None}
use Rattle.paw_stage.specs.declared.StageCall.{StageCall}
use Rattle.paw_stage.specs.Stage.{Rose, CountsFailure}

-- A count that rose hasn't fallen.
Rose_grows : (old new : ℕ) → Rose old new → old ≤ new
Rose_grows old new (inl h) = omega (arith, h)
Rose_grows old new (inr h) = omega (arith, h.0, h.1)

-- No count falls.
pub CountsFailure_grows : (failed : Option StageCall) (old new : StageCall → ℕ) → CountsFailure failed old new → (c : StageCall) → old c ≤ new c
CountsFailure_grows None old new f c = let same = f c in omega (arith, same)
CountsFailure_grows (Some failed) old new f c = elim (cases_lt (new c) (old c)) [
  | inr le ↦ le
  | inl lt ↦
      let other : c ≢ failed = λ e. (let own = Rose_grows _ _ f.0 in let less = subst (λ k. new k < old k) e lt in omega (arith, own, less)) in
      let same = f.1 c other in omega (arith, same, lt)
]

-- No call.
pub CountsFailure_same : (old : StageCall → ℕ) → CountsFailure None old old
CountsFailure_same old = λ c. refl

-- Calls none of which failed, and then others.
pub CountsFailure_on : (failed : Option StageCall) (old mid new : StageCall → ℕ) → CountsFailure None old mid → CountsFailure failed mid new →
    CountsFailure failed old new
CountsFailure_on None old mid new f g = λ c. g c ∙ f c
CountsFailure_on (Some failed) old mid new f g = (subst (λ n. Rose n (new failed)) (f failed) g.0, λ c ne. g.1 c ne ∙ f c)

-- Calls, and then others none of which failed.
pub CountsFailure_still : (failed : Option StageCall) (old mid new : StageCall → ℕ) → CountsFailure failed old mid → CountsFailure None mid new →
    CountsFailure failed old new
CountsFailure_still None old mid new f g = λ c. g c ∙ f c
CountsFailure_still (Some failed) old mid new f g = (subst (λ n. Rose (old failed) n) (sym (g failed)) f.0, λ c ne. g c ∙ f.1 c ne)
