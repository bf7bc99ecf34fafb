-- How a trial ends.
use Rattle.std.proofs.Common.{◌≡◌, ◌≢◌, ℕ, [], ◌∷◌, Some, None, refl, sym, ap, ◌∙◌, subst}
use Rattle.paw_base.specs.Bytes.{Text}
use Rattle.paw_stage.specs.Stage.{Standing}
use Rattle.paw_stage.specs.AcrossCalls.{IsOneOf}
use Rattle.paw_stage.specs.declared.StageCall.TheVariants as call
use Rattle.paw_reading.specs.declared.halt.Halt.{Halt}
use Rattle.paw_reading.specs.declared.halt.Halt.TheVariants as halt
use Rattle.paw_reading.specs.Turn.{Ending, WaitsAt, Halted}
use Rattle.paw_trial.specs.declared.TrialEnd.{TrialEnd}
use Rattle.paw_trial.specs.declared.TrialEnd.TheVariants as end
use Rattle.paw_trial.specs.Trial.{trial_reading}
use Rattle.paw_trial.specs.inner.Trial.{IsTextOf, trial_end, trial_halt, TrialStopsAs}
use Rattle.paw_top.specs.declared.outcome.Outcome.{Outcome}
use Rattle.paw_top.specs.declared.outcome.Outcome.TheVariants as outcome
use Rattle.paw_top.specs.declared.outcome.MemoryAt.TheVariants as memory
use Rattle.paw_top.specs.Answers.{IfMemory, failed_call}
use Rattle.paw_top.specs.Shows.{Shows}
use Rattle.paw_top.specs.Ends.{outcome_of_halt}
use Rattle.paw_top.specs.Tries.{Tries, shows, halts, without_memory}
use Rattle.paw_top.specs.Completes.{IsUnhindered}
use Rattle.paw_top.specs.inner.Completes.{Comes, due}
use Rattle.paw_top.proofs.Completing.{hindered}

-- An end that a halt makes is that halt.
halt_read : (h : Halt) → trial_halt (trial_end h) ≡ Some h
halt_read halt.Over = refl
halt_read (halt.Spent kind) = refl
halt_read (halt.TooDeep table) = refl

-- Nothing is changed where the reading has ended for good.
pub halted : (n : ℕ) (s : Standing) (stop : TrialEnd) (h : Halt) (e : Ending) → trial_reading n ≡ e → trial_halt stop ≡ Some h → TrialStopsAs stop e →
    Tries n s s (outcome_of_halt h)
halted n s end.Memory h e is by stops = cc
halted n s stop h (Halted found r) is by stops =
    let k : Some found ≡ Some h = sym (halt_read found) ∙ (ap trial_halt (sym stops) ∙ by) in
    let same : found ≡ h = cc in
    subst (λ x. Tries n s s (outcome_of_halt x)) same (halts found r is refl)
halted n s stop h e is by stops = absurd stops

-- Its answer is a form's, and names no failed call and no lack of memory.
pub halt_answers : (h : Halt) → (outcome_of_halt h ≢ outcome.Usage) × IfMemory (outcome_of_halt h) (IsOneOf (memory.Trial ∷ []))
    × (failed_call (outcome_of_halt h) ≡ None)
halt_answers halt.Over = (λ q. cc, tt, refl)
halt_answers (halt.Spent kind) = (λ q. cc, tt, refl)
halt_answers (halt.TooDeep table) = (λ q. cc, tt, refl)

pub told : (n : ℕ) (old new : Standing) (o : Outcome) (text : Text) (e : Ending) → trial_reading n ≡ e → IsTextOf n e text → Shows text old new o →
    Tries n old new o
told n old new o text (WaitsAt p path r) is t s = shows o p path r is (subst (λ x. Shows x old new o) t s)
told n old new o text _ is t s = absurd t

-- Where no call fails the line is shown.
shown_comes : (text : Text) (old new : Standing) (o : Outcome) → Shows text old new o → IsUnhindered o → Comes outcome.Done o
shown_comes text old new outcome.Done s free = refl
shown_comes text old new (outcome.Outside call.Show) s free = absurd (hindered call.Show (λ q. cc) free)
shown_comes text old new _ s free = absurd s

-- An answer that is due comes.
comes_so : (o : Outcome) → Comes o o
comes_so (outcome.Memory at) = tt
comes_so o = refl

pub completes_trial : (n : ℕ) (old new : Standing) (o : Outcome) → Tries n old new o → IsUnhindered o → Comes (due (trial_reading n)) o
completes_trial n old new _ (shows o p path r is s) free = subst (λ e. Comes (due e) o) (sym is) (shown_comes _ old new o s free)
completes_trial n old new _ (halts halt r is e) free =
    subst (λ x. Comes (due x) (outcome_of_halt halt)) (sym is) (comes_so (outcome_of_halt halt))
completes_trial n old new _ (without_memory e) free = tt
