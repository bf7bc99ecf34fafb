-- A stage in memory: its lines, its record of calls, and its counts of failures.
use Rattle.std.specs.Prelude.{◌≡◌, ◌↔◌, ℕ, ◌+◌, ◌-◌, Bool, IsFalse, [], ◌∷◌, ◌++◌, length, take, drop}
use Rattle.std.proofs.Common.{inl, refl, sym, ap, ◌∙◌}
use Rattle.std.proofs.Math.Nat.{add-sub_cancel}
use Rattle.std.proofs.Math.Seq.{drop-append_seam}
use Rattle.std.specs.Prelude.{Result, OnOk, OnErr, IsErr}
use Rattle.paw_base.specs.Bytes.{Bytes, Line, Lines, Name}
use Rattle.paw_stage.specs.declared.StageCall.{StageCall}
use Rattle.paw_stage.specs.declared.StageCall.TheVariants as call
use Rattle.paw_stage.specs.declared.failures.FailureCounts.{FailureCounts}
use Rattle.paw_stage.specs.Stage.{Standing}
use Rattle.paw_stage.specs.Moments.{Moments}
use Rattle.paw_stage.specs.inner.Failures.{failure_counted, no_failures}
use Rattle.paw_stage.specs.inner.Done.{DoneCall, size_of, added_file, loaded_file, taken_line, fresh, after}
use Rattle.paw_stage.specs.inner.Replay.{since_of, only_now}
use Rattle.paw_stage.specs.inner.Log.{Logged, has_room, logged_in_spare_room, call_logged}

-- The stage in memory: the lines that were taken, those that are left, its record of calls, and its counts of failures.
pub record Memory : Type 0 where
  pub taken : Lines
  pub lines : Lines
  pub log : Logged
  pub counts : FailureCounts

-- A stage with nothing in it, and spare room for these numbers of calls and bytes.
abbrev pub empty : ℕ → ℕ → Memory
empty calls bytes = record {
  taken = [];
  lines = [];
  log = record { calls = []; calls_left = calls; bytes_left = bytes };
  counts = no_failures;
}

-- What stands at it: what its calls, played again, make of nothing, and the lines that are left.
abbrev pub standing_of : Memory → Standing
standing_of m = record (after fresh m.log.calls) { lines = m.lines }

-- The time is the number of calls that were recorded.
abbrev pub clock_of : Memory → ℕ
clock_of m = length m.log.calls

-- The lines that were left once n were asked for, of all that it was given.
abbrev pub lines_when : Memory → ℕ → Lines
lines_when m n = drop (length m.taken + n - (after fresh m.log.calls).asked) (m.taken ++ m.lines)

-- This stood at a moment, but for the lines that were left then.
abbrev pub IsWithLines : Memory → (Standing → Type 0) → Standing → Type 0
IsWithLines m Stood x = (s : Standing) × Stood s × (x ≡ record s { lines = lines_when m s.asked })

-- The moments since a time.
abbrev pub moments_of : Memory → ℕ → Standing → Type 0
moments_of m t = IsWithLines m (since_of m.log.calls t)

-- Of the lines those are left now that weren't taken.
pub lines_now : (m : Memory) → lines_when m (after fresh m.log.calls).asked ≡ m.lines
lines_now m =
    ap (λ n. drop n (m.taken ++ m.lines)) (add-sub_cancel (length m.taken) (after fresh m.log.calls).asked)
    ∙ drop-append_seam m.taken m.lines

-- What stands now has the lines that are left now.
pub stands_now : (m : Memory) →
    record (after fresh m.log.calls) { lines = lines_when m (after fresh m.log.calls).asked } ≡ standing_of m
stands_now m = ap (λ l. record (after fresh m.log.calls) { lines = l }) (lines_now m)

-- Since the last call there is no moment but what stands now.
pub only_moment : (m : Memory) (x : Standing) → moments_of m (clock_of m) x → x ≡ standing_of m
only_moment m x h =
    h.2 ∙ ap (λ (s : Standing). record s { lines = lines_when m s.asked }) (only_now m.log.calls h.0 h.1) ∙ stands_now m

-- What stands now is a moment since any time.
pub now_is_moment : (m : Memory) (t : ℕ) → moments_of m t (standing_of m)
now_is_moment m t = (after fresh m.log.calls, inl refl, sym (stands_now m))

-- Whether there is room for a call with its bytes.
abbrev pub can_note : DoneCall → Memory → Bool
can_note d m = has_room m.log (size_of d)

-- The stage with one call more in its record.
abbrev pub call_recorded : DoneCall → Memory → Memory
call_recorded d m = record m { log = logged_in_spare_room d m.log }

-- The stage with a file put there, besides the spare room.
abbrev pub with_file : Name → Bytes → Memory → Memory
with_file name bytes m = record m { log = call_logged (added_file name bytes) m.log }

-- The stage with one line more, after those that are left.
abbrev pub with_line_left : Line → Memory → Memory
with_line_left line m = record m { lines = m.lines ++ line ∷ [] }

-- The stage with one failure more of a call, and all else as it was.
abbrev pub failure_recorded : StageCall → Memory → Memory
failure_recorded c m = record m { counts = failure_counted c m.counts }

-- A call is noted: the record keeps what it did. It fails exactly where there is no room for that, and then leaves no
-- trace but its count.
abbrev pub Notes : {A E : Type 0} → StageCall → DoneCall → Result A E → Memory → Memory → Type 0
Notes c d result old new =
    (IsErr result ↔ IsFalse (can_note d old)) × OnErr result (new ≡ failure_recorded c old)
    × OnOk result (new ≡ call_recorded d old)

-- The moments of a call are those before it, and others for which `Inside` holds, by what stood before.
abbrev pub AtEachMoment : Memory → Memory → (Standing → Standing → Type 0) → Type 0
AtEachMoment old new Inside = Moments clock_of moments_of old new (Inside (standing_of old))

-- The stage after a load that found no file: the load was recorded, and counts as a failure.
abbrev pub found_none : Name → Memory → Memory
found_none name m = failure_recorded call.LoadAbsent (call_recorded (loaded_file name) m)

-- The stage after an ask that took the next line.
abbrev pub line_taken : Memory → Memory
line_taken m = record (call_recorded taken_line m) { taken = m.taken ++ take 1 m.lines; lines = drop 1 m.lines }
