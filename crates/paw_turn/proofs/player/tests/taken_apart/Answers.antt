use Rattle.std.proofs.Common.{◌≡◌, ℕ, refl, ap, ◌∙◌}
use Rattle.paw_base.specs.Bytes.{Bytes}
use Rattle.paw_phrase.specs.Pending.{PendingLine}
use Rattle.paw_process.specs.inner.OpenTables.{OpenTables}
use Rattle.paw_process.specs.inner.Kept.{machine_kept}
use Rattle.paw_process.specs.inner.Kept.{machine_restored, waiting_at}
use Rattle.paw_process.specs.declared.kept.Frames.{Frames}
use Rattle.paw_turn.specs.inner.Player.{PlayerView}
use Rattle.paw_turn.proofs.Seating.{same_fits}
use Rattle.paw_turn.proofs.player.tests.taken_apart.Goals as goal

pub returns : goal.returns
returns g c =
    let player = c.args.player in
    let frames : c.frames-frames.result ≡ machine_kept player.machine = c.frames-frames.ensures.value
    ∙ ap (λ (m : OpenTables). machine_kept m) c.parts.ensures.machine in
    let machine = c.in_ok-machine.ensures.value ∙ ap (λ (k : Frames). machine_restored k (waiting_at c.parts-prompt.result.prompt)) frames in
    let bytes = c.bytes.ensures.value ∙ ap (λ (p : PlayerView g.row.F.Denot). p.pending.bytes) c.player.view_is in
    let earlier = c.earlier.ensures.value ∙ ap (λ (p : PlayerView g.row.F.Denot). p.pending.earlier) c.player.view_is in
    let Line : Bytes → ℕ → PendingLine = λ b e. record { bytes = b; earlier = e } in
    let pending : c.of-pending.result ≡ player.pending = c.of-pending.ensures.value ∙
    (ap (λ (b : Bytes). Line b c.earlier.result) bytes ∙ ap (Line player.pending.bytes) earlier) in
    record {
      fits = same_fits player player.game c.player.inside.state.surroundings.world c.in_ok-machine.machine c.of-pending.result c.parts-prompt.result.prompt
          c.requires.seated c.requires.standing
          refl (ap (λ (p : PlayerView g.row.F.Denot). p.world) c.player.view_is) machine pending c.parts-prompt.ensures.prompt;
    }
