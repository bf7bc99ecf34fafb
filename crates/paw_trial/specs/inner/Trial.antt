-- What a trial shows: words that contracts between crates and proofs use besides those of specs/Trial.antt.
use Rattle.std.specs.Prelude.{◌≡◌, ℕ, Option, Some, None}
use Rattle.paw_base.specs.Bytes.{Text}
use Rattle.paw_reading.specs.declared.halt.Halt.{Halt}
use Rattle.paw_reading.specs.declared.halt.Halt.TheVariants as halt
use Rattle.paw_reading.specs.Turn.{Ending, WaitsAt, Halted}
use Rattle.paw_trial.specs.declared.TrialEnd.{TrialEnd}
use Rattle.paw_trial.specs.declared.TrialEnd.TheVariants as end
use Rattle.paw_trial.specs.Trial.{trial_text}

-- The text of a reading that waits for another line.
abbrev pub IsTextOf : ℕ → Ending → Text → Type 0
IsTextOf n (WaitsAt p path r) text = text ≡ trial_text n r.world
IsTextOf n _ text = ⊥

-- The end of a trial that a halt is.
abbrev pub trial_end : Halt → TrialEnd
trial_end halt.Over = end.Ended
trial_end (halt.Spent kind) = end.Spent kind
trial_end (halt.TooDeep table) = end.TooDeep table

-- The halt that an end of a trial is; none where memory was lacking.
abbrev pub trial_halt : TrialEnd → Option Halt
trial_halt end.Ended = Some halt.Over
trial_halt (end.Spent kind) = Some (halt.Spent kind)
trial_halt (end.TooDeep table) = Some (halt.TooDeep table)
trial_halt end.Memory = None

-- A trial has no text where the reading has ended for good, or where memory was lacking.
abbrev pub TrialStopsAs : TrialEnd → Ending → Type 0
TrialStopsAs end.Memory e = Unit {0}
TrialStopsAs stop (Halted halt r) = stop ≡ trial_end halt
TrialStopsAs _ _ = ⊥
