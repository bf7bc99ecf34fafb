-- The steps that are kept.
use Rattle.std.proofs.Common.{arith, ℕ, zero, suc, ◌≡◌, List, [], ◌∷◌, ◌++◌, length, take, ap, sym, ◌∙◌, refl}
use Rattle.std.proofs.lemmas.List.{length-append}
use Rattle.paw_base.specs.declared.steps.StepRow.{StepRow}
use Rattle.paw_base.specs.inner.Steps.{KeptSteps}
use Rattle.paw_base.specs.inner.Steps.{no_steps, kept_steps, with_step_noted}

-- Cutting off twice is cutting off once.
take_again : (n : ℕ) (xs ys : List StepRow) → take n (take n xs ++ ys) ≡ take n (xs ++ ys)
take_again zero xs ys = refl
take_again (suc n) [] ys = refl
take_again (suc n) (x ∷ xs) ys = ap (λ zs. x ∷ zs) (take_again n xs ys)

-- A step that is noted stands at the end of the steps.
pub kept_noted : (most : ℕ) (steps : List StepRow) (step : StepRow) → with_step_noted step (kept_steps most steps) ≡ kept_steps most (steps ++ step ∷ [])
kept_noted most steps step =
    let count : suc (length steps) ≡ length (steps ++ step ∷ []) = rw (length-append steps (step ∷ [])) (omega arith) in
    ap (λ rows. record { most = most; rows = rows; count = suc (length steps) }) (take_again most steps (step ∷ []))
    ∙ ap (λ n. record { most = most; rows = take most (steps ++ step ∷ []); count = n }) count

-- What is kept says itself how many at most are.
pub kept_as_said : (most : ℕ) (steps : List StepRow) (kept : KeptSteps) → kept ≡ kept_steps most steps → kept ≡ kept_steps kept.most steps
kept_as_said most steps kept e = e ∙ ap (λ n. kept_steps n steps) (sym (ap (λ (k : KeptSteps). k.most) e))

-- Of no steps none are kept.
pub kept_none : (most : ℕ) → no_steps most ≡ kept_steps most []
kept_none zero = refl
kept_none (suc most) = refl
