-- A stage in memory of which a rule makes some calls fail.
use Rattle.std.specs.Prelude.{◌≡◌, ◌⊎◌, ℕ, ◌+◌, ◌-◌, ◌^◌, min, Bool, IsTrue, IsFalse, ◌↔◌}
use Rattle.std.specs.Prelude.{Result, Err, OnOk, OnErr, IsErr}
use Rattle.std.specs.declared.vec.Vec.{Vec}
use Rattle.std.specs.declared.alloc.Global.{Global}
use Rattle.paw_base.specs.Bytes.{Name}
use Rattle.paw_stage.specs.declared.StageCall.{StageCall}
use Rattle.paw_stage.specs.declared.StageCall.TheVariants as call
use Rattle.paw_stage.specs.declared.LoadRefusal.{LoadRefusal}
use Rattle.paw_stage.specs.declared.LoadRefusal.TheVariants as refusal
use Rattle.paw_stage.specs.declared.failures.FailureCounts.{FailureCounts}
use Rattle.paw_stage.specs.Stage.{Standing}
use Rattle.paw_stage.specs.inner.Failures.{count_of, failure_counted}
use Rattle.paw_stage.specs.inner.Done.{DoneCall, loaded_file}
use Rattle.paw_stage.specs.inner.Memory as memory
use Rattle.paw_stage.specs.inner.Memory.{Memory, can_note, call_recorded, failure_recorded, found_none}

-- The stage below, the rule, and the counts of the calls that the rule made fail.
pub record Refusing (R : Type 0) : Type 0 where
  pub inner : Memory
  pub rule : R
  pub counts : FailureCounts

-- How often a call has failed here or below, up to the last value of a count.
abbrev pub failures_of : {R : Type 0} → Refusing R → StageCall → ℕ
failures_of s c = min (count_of s.counts c + count_of s.inner.counts c) (2 ^ 64 - 1)

-- What stands at it: what stands at the stage below.
abbrev pub standing_of : {R : Type 0} → Refusing R → Standing
standing_of s = memory.standing_of s.inner

-- The moments of a call: those of the stage below.
abbrev pub AtEachMoment : {R : Type 0} → Refusing R → Refusing R → (Standing → Standing → Type 0) → Type 0
AtEachMoment old new Inside = memory.AtEachMoment old.inner new.inner Inside

-- The stage after a call that was made to fail. It isn't passed on. Then the rule is the later one.
abbrev pub call_refused : {R : Type 0} → (R → R) → StageCall → Refusing R → Refusing R
call_refused later c s = record { inner = s.inner; rule = later s.rule; counts = failure_counted c s.counts }

-- The stage after a call that was passed on and did this below.
abbrev pub passed_on : {R : Type 0} → (R → R) → (Memory → Memory) → Refusing R → Refusing R
passed_on later did s = record { inner = did s.inner; rule = later s.rule; counts = s.counts }

-- What a call leaves that was passed on and failed below.
abbrev pub FailsBelow : {R : Type 0} → (R → Bool) → (R → R) → StageCall → Refusing R → Refusing R → Type 0
FailsBelow refuses later c old new = IsFalse (refuses old.rule) → new ≡ passed_on later (failure_recorded c) old

-- A call isn't done: the rule makes it fail, or there is no room for it below.
abbrev pub CannotPass : {R : Type 0} → (R → Bool) → DoneCall → Refusing R → Type 0
CannotPass refuses d s = IsTrue (refuses s.rule) ⊎ IsFalse (can_note d s.inner)

-- A call that is passed on, unless the rule makes it fail. It fails exactly where it can't be done.
abbrev pub Forwards : {R A E : Type 0} → (R → Bool) → (R → R) → StageCall → DoneCall → Result A E → Refusing R →
    Refusing R → Type 0
Forwards refuses later c d result old new =
    (IsErr result ↔ CannotPass refuses d old) × (IsTrue (refuses old.rule) → new ≡ call_refused later c old)
    × OnErr result (FailsBelow refuses later c old new) × OnOk result (new ≡ passed_on later (call_recorded d) old)

-- A load that is passed on, unless the rule makes it fail. It fails exactly where it can't be done, and it may find no
-- file, or no memory, below.
pub record ForwardsLoad {R : Type 0} (refuses : R → Bool) (later : R → R) (name : Name)
    (result : Result (Vec ℕ Global) LoadRefusal) (old new : Refusing R) : Type 0 where
  pub exact : (result ≡ Err refusal.Failed) ↔ CannotPass refuses (loaded_file name) old
  pub stopped : IsTrue (refuses old.rule) → new ≡ call_refused later call.Load old
  pub below : result ≡ Err refusal.Failed → FailsBelow refuses later call.Load old new
  pub noted : OnOk result (new ≡ passed_on later (call_recorded (loaded_file name)) old)
  pub absent : result ≡ Err refusal.Absent → new ≡ passed_on later (found_none name) old
  pub lacking : result ≡ Err refusal.Memory → new ≡ passed_on later (call_recorded (loaded_file name)) old
