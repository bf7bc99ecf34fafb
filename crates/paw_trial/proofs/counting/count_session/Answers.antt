use Rattle.std.proofs.Common.{◌≡◌, sym, subst, ap, ◌∙◌, take}
use Rattle.paw_stage.specs.inner.Memory.{standing_of}
use Rattle.paw_stage.specs.Stage.{Standing}
use Rattle.paw_journal.specs.Session.{Shown, recover, kept_digests, state_length}
use Rattle.paw_play.specs.Play.{store_bytes}
use Rattle.paw_trial.specs.Trial.{trial_reading}
use Rattle.paw_trial.specs.inner.Session.{IsTallyOf, trial_store, tally_in}
use Rattle.paw_trial.proofs.Counts.{trial_counts}
use Rattle.paw_trial.proofs.counting.count_session.Goals as goal

pub returns : goal.returns
returns g c = record {
  tally =
      let n = c.args.setting.now in
      let room = c.find.new.room in
      let bytes = store_bytes (standing_of c.args.stage.now) trial_store in
      let found = standing_of c.find.new.stage in
      let same : found.disk.bytes ≡ bytes = ap (λ (s : Standing). s.disk.bytes) (c.find.ensures.call.still tt ∙ (c.in-Ok.ensures.attached tt).1) in
      let digests = kept_digests found.disk.bytes in
      let shown = subst (λ b. recover b ≡ Shown digests (take state_length room.state) room.piece) same (c.in-Ok-find.ensures.kept tt).shown in
      subst (IsTallyOf (trial_reading n)) (sym (c.counts_in.ensures.value ∙ ap tally_in c.state.ensures.value))
      (trial_counts n bytes room.state room.piece digests c.digest.ensures.small c.requires.holds.waits c.requires.holds.stands shown);
}
