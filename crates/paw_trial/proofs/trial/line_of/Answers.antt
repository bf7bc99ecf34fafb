use Rattle.std.proofs.Common.{append_assoc}
use Rattle.std.specs.String.{string_bytes}
use Rattle.paw_trial.specs.Trial.{trial_reading}
use Rattle.paw_trial.proofs.Counts.{told_counts}
use Rattle.paw_trial.proofs.trial.line_of.Goals as goal

pub returns : goal.returns
returns c = record {
  text =
      let text = simp append_assoc at c.in-Ok.ensures.ok in
      told_counts c.args.n c.location_count-locations.result c.object_count-objects.result c.line_count-events.result
      (trial_reading c.args.n) c.args.tally (string_bytes c.in-Ok.line)
      c.requires.tally c.location_count-locations.ensures.value c.object_count-objects.ensures.value c.line_count-events.ensures.value text;
}
