use Rattle.std.proofs.Common.{sym, subst}
use Rattle.paw_stage.specs.inner.Memory.{standing_of}
use Rattle.paw_trial.specs.inner.Session.{lines_by, HoldsOrStops}
use Rattle.paw_trial.proofs.Comes.{added_stable, ready_stable, played_half}
use Rattle.paw_trial.proofs.halves.play_half.Goals as goal

pub play_lines-requires-clause-stable : goal.play_lines-requires-clause-stable
play_lines-requires-clause-stable g c =
    added_stable c.args.stage.now c.add_lines.new.stage c.half.result.now c.in-Ok.ensures.added
    (ready_stable c.args.half c.args.setting.now c.args.stage.now c.requires.ready)

pub returns : goal.returns
returns g c = record {
  plays =
      let n = c.args.setting.now in
      subst (HoldsOrStops n (lines_by c.args.half n) (standing_of c.play_lines.new.stage)) (sym c.stop_of.ensures.value)
      (played_half c.args.half n c.args.stage.now c.add_lines.new.stage (standing_of c.play_lines.new.stage)
      c.play_lines.result c.half.ensures.small c.requires.ready (rw c.half.ensures.lines at c.in-Ok.ensures.added) c.play_lines.ensures.plays);
}
