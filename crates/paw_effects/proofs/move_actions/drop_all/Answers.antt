use Rattle.std.proofs.Common.{◌∙◌, sym}
use Rattle.paw_effects.proofs.Moves.{one_dropped, one_left}
use Rattle.paw_effects.proofs.move_actions.drop_all.Goals as goal
use Rattle.paw_effects.proofs.move_actions.drop_all.Goals.{then-is_held, else-is_held}

pub loop-o-preserved : goal.loop-o-preserved
loop-o-preserved c = elim c.if-is_held.branch [
  | then-is_held w ↦ one_dropped c.args.world.now c.loop-o.world c.if-is_held.world c.loop-o.o c.here-to.result c.loop-o.invariant
      (sym c.is_held.ensures.value ∙ w.if-is_held.true) c.here-to.ensures.value (w.world-is ∙ w.move_to.ensures.change)
  | else-is_held w ↦ one_left c.args.world.now c.loop-o.world c.if-is_held.world c.loop-o.o c.loop-o.invariant
      (sym c.is_held.ensures.value ∙ w.if-is_held.false) w.world-is
]
