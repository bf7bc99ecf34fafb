use Rattle.std.proofs.Common.{◌≡◌, ◌-◌, None, reverse, sym, subst, arith}
use Rattle.paw_base.specs.declared.limits.TheConstants.{READ_LIMIT}
use Rattle.paw_process.proofs.OpenFrames.{kept_frames}
use Rattle.paw_process.proofs.Again.{kept_again}
use Rattle.paw_process.proofs.Fitting.{frames_fit}
use Rattle.paw_process.specs.Kept.{waiting_code}
use Rattle.paw_process.specs.inner.Kept.{frames_fault}
use Rattle.paw_process.specs.declared.kept.Frames.{Frames}
use Rattle.paw_process.proofs.machine.Machine.frames.Goals as goal

pub returns-clause-value : goal.returns-clause-value
returns-clause-value c =
    rw c.start_of-rows.ensures.value
    (kept_frames c.args.self.now c.self.inside.frames c.copy_from_slice.new.self c.self.inside.count c.self.inside.turning c.self.inside.waiting
    (READ_LIMIT - c.self.inside.steps.count) c.self.inside.steps c.self.view_is c.copy_from_slice.ensures.after (omega arith) (omega arith))

pub returns-clause-again : goal.returns-clause-again
returns-clause-again c = λ p stands. kept_again p _ c.args.self.now (returns-clause-value c) stands

pub returns-clause-sound : goal.returns-clause-sound
returns-clause-sound c = λ g p places.
    subst (λ (k : Frames). frames_fault g p k ≡ None) (sym (returns-clause-value c))
    (frames_fit g (waiting_code p) (reverse c.args.self.now.frames) c.args.self.now.turning places)
