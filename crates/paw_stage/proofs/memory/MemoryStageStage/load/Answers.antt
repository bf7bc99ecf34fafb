use Rattle.std.proofs.Common.{refl, ap, sym}
use Rattle.paw_stage.specs.inner.Done.{loaded_file}
use Rattle.paw_stage.specs.contracts.memory.MemoryStage.{the_view}
use Rattle.paw_stage.proofs.Calls.{passed}
use Rattle.paw_stage.proofs.memory.MemoryStageStage.load.Goals as goal

pub returns-clause-time : goal.returns-clause-time
returns-clause-time c =
    let kept = rw c.as_bytes.ensures.value at (c.if-not-add.ensures.kept refl) in
    passed c.args.self.now
    (the_view (record { lines = c.self.inside.lines; next = c.self.inside.next; log = c.add.new.self; counts = c.self.inside.counts }))
    c.self.inside.log (loaded_file c.args.name.now) refl (ap (λ m. m.log) (sym c.self.view_is)) kept
    (ap (λ m. m.taken) c.self.view_is) (ap (λ m. m.lines) c.self.view_is)

pub returns-in_default-clause-time : goal.returns-in_default-clause-time
returns-in_default-clause-time c =
    let kept = rw c.as_bytes.ensures.value at (c.if-not-add.ensures.kept refl) in
    passed c.args.self.now
    (the_view (record { lines = c.self.inside.lines; next = c.self.inside.next; log = c.add.new.self; counts = c.raise-in_default.new.self }))
    c.self.inside.log (loaded_file c.args.name.now) refl (ap (λ m. m.log) (sym c.self.view_is)) kept
    (ap (λ m. m.taken) c.self.view_is) (ap (λ m. m.lines) c.self.view_is)
