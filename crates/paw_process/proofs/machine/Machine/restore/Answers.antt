use Rattle.std.proofs.Common.{arith, sym, subst, ◌∙◌, ◌≤◌}
use Rattle.paw_base.specs.declared.limits.TheConstants.{READ_LIMIT}
use Rattle.paw_base.specs.inner.Steps.{KeptSteps}
use Rattle.paw_process.specs.inner.Kept.{waiting_at}
use Rattle.paw_process.proofs.Again.{few_frames, restored_kept}
use Rattle.paw_process.proofs.Fitting.{kept_frames_of_run}
use Rattle.paw_process.proofs.Restored.{stands_at}
use Rattle.paw_process.proofs.machine.Machine.restore.Goals as goal

pub invariant_of-result : goal.invariant_of-result
invariant_of-result g c = (
  few_frames (g.T.Tables.game c.args.tables.now) c.args.prompt c.args.kept.now (sym c.frames_fault.ensures.value ∙ c.in_default.is),
  omega arith,
  subst (λ (s : KeptSteps). s.count ≤ READ_LIMIT) (sym c.new.ensures.value) (omega arith),
)

pub returns-clause-stands : goal.returns-clause-stands
returns-clause-stands g c =
    rw (c.waiting_at.ensures.value, c.new.ensures.value)
    (stands_at (g.T.Tables.game c.args.tables.now) c.args.prompt c.args.kept.now c.counts-counts.ensures.valid (omega arith)
    (sym c.frames_fault.ensures.value ∙ c.in_default.is))

pub returns-clause-again : goal.returns-clause-again
returns-clause-again g c =
    restored_kept (g.T.Tables.game c.args.tables.now) c.args.prompt (waiting_at c.args.prompt) c.args.kept.now (omega arith)
    (sym c.frames_fault.ensures.value ∙ c.in_default.is)

pub returns-clause-frames : goal.returns-clause-frames
returns-clause-frames g c =
    kept_frames_of_run (g.T.Tables.game c.args.tables.now) c.args.prompt c.args.kept.now (omega arith) (sym c.frames_fault.ensures.value ∙ c.in_default.is)
