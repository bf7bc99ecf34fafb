use Rattle.std.proofs.Common.{refl}
use Rattle.paw_base.specs.declared.limits.TheConstants.{STEP_LIMIT}
use Rattle.paw_effects.specs.declared.act.Prompt.TheVariants as prompt
use Rattle.paw_turn.specs.declared.Step.TheVariants as step
use Rattle.paw_turn.specs.inner.Phases.{seat_of}
use Rattle.paw_turn.proofs.Seating.{begun}
use Rattle.paw_turn.proofs.player.Player.new.Goals as goal

pub returns-clause-seated : goal.returns-clause-seated
returns-clause-seated g c =
    begun (seat_of (g.T.Tables.game c.args.tables.now) c.args.routines.now c.new-2.result (step.Waits prompt.Main)) c.args.seed STEP_LIMIT c.new-2.ensures.valid
    c.new-2.ensures.world c.new-2.ensures.pending c.new-2.ensures.machine refl
