-- A trial that stops before its last line stops as the reading of all lines does.
use Rattle.std.proofs.Common.{◌≡◌, ℕ, ◌++◌, sym, subst}
use Rattle.paw_base.specs.Bytes.{Lines}
use Rattle.paw_effects.specs.Story.{Story}
use Rattle.paw_reading.specs.Turn.{Ending, WaitsAt, Halted, reading}
use Rattle.paw_reading.specs.inner.Turn.{ending_followed}
use Rattle.paw_reading.proofs.Followed.{going_on_is_reading}
use Rattle.paw_play.specs.Stands.{ending_since}
use Rattle.paw_gen.specs.Trial.{trial_lines}
use Rattle.paw_trial.specs.declared.TrialEnd.{TrialEnd}
use Rattle.paw_trial.specs.declared.TrialEnd.TheVariants as end
use Rattle.paw_trial.specs.Trial.{trial_story, trial_reading}
use Rattle.paw_trial.specs.inner.Trial.{TrialStopsAs}
use Rattle.paw_trial.specs.inner.Session.{Waits}

-- More lines change nothing.
stays : (g : Story) (fs : Lines) (stop : TrialEnd) (e : Ending) → TrialStopsAs stop e → TrialStopsAs stop (ending_followed g fs e)
stays g fs end.Memory e h = tt
stays g fs stop (Halted halt r) h = h
stays g fs stop e h = absurd h

pub stops_later : (n : ℕ) (es fs : Lines) (stop : TrialEnd) → es ++ fs ≡ trial_lines n → TrialStopsAs stop (reading (trial_story n) n es) →
    TrialStopsAs stop (trial_reading n)
stops_later n es fs stop all h =
    subst (λ lines. TrialStopsAs stop (reading (trial_story n) n lines)) all
    (subst (TrialStopsAs stop) (sym (going_on_is_reading (trial_story n) n es fs)) (stays (trial_story n) fs stop (reading (trial_story n) n es) h))

-- A reading ends alike from whichever of its pieces it is shown.
pub stops_since : (n : ℕ) (stop : TrialEnd) (e : Ending) → TrialStopsAs stop (ending_since n e) → TrialStopsAs stop e
stops_since n end.Memory e h = tt
stops_since n stop (Halted halt r) h = h
stops_since n stop e h = absurd h

pub waits_since : (n : ℕ) (e : Ending) → Waits (ending_since n e) → Waits e
waits_since n (WaitsAt p path r) h = tt
waits_since n _ h = absurd h
