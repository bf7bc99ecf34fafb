use Rattle.std.proofs.Common.{refl, ap, sym}
use Rattle.std.specs.Prelude.{Some}
use Rattle.paw_stage.specs.inner.Done.{saved_file}
use Rattle.paw_stage.specs.inner.Memory.{standing_of}
use Rattle.paw_stage.specs.contracts.memory.MemoryStage.{the_view}
use Rattle.paw_stage.specs.inner.Staying.{after_stays}
use Rattle.paw_stage.proofs.Replays.{saves}
use Rattle.paw_stage.proofs.Calls.{stood, passed}
use Rattle.paw_stage.proofs.memory.MemoryStageStage.save.Goals as goal

pub returns-clause-answer : goal.returns-clause-answer
returns-clause-answer c =
    let kept = rw c.as_bytes.ensures.value at (c.if-not-add.ensures.kept refl) in
    saves (standing_of c.args.self.now) _ c.args.name.now (Some c.args.bytes.now) (after_stays c.args.self.now.log.calls)
    (stood c.args.self.now
    (the_view (record { lines = c.self.inside.lines; next = c.self.inside.next; log = c.add.new.self; counts = c.self.inside.counts }))
    c.self.inside.log (saved_file c.args.name.now c.args.bytes.now) (ap (λ m. m.log) (sym c.self.view_is)) kept
    (ap (λ m. m.lines) c.self.view_is))

pub returns-clause-time : goal.returns-clause-time
returns-clause-time c =
    let kept = rw c.as_bytes.ensures.value at (c.if-not-add.ensures.kept refl) in
    passed c.args.self.now
    (the_view (record { lines = c.self.inside.lines; next = c.self.inside.next; log = c.add.new.self; counts = c.self.inside.counts }))
    c.self.inside.log (saved_file c.args.name.now c.args.bytes.now) refl (ap (λ m. m.log) (sym c.self.view_is)) kept
    (ap (λ m. m.taken) c.self.view_is) (ap (λ m. m.lines) c.self.view_is)
