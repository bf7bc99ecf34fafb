use Rattle.std.proofs.Common.{refl, ap, sym}
use Rattle.paw_stage.specs.inner.Done.{attached_store}
use Rattle.paw_stage.specs.inner.Memory.{standing_of}
use Rattle.paw_stage.specs.contracts.memory.MemoryStage.{the_view}
use Rattle.paw_stage.proofs.Time.{Passes_map}
use Rattle.paw_stage.proofs.Calls.{stood, passed, in_attach}
use Rattle.paw_stage.proofs.memory.MemoryStageStage.attach.Goals as goal

pub returns-clause-time : goal.returns-clause-time
returns-clause-time c =
    let name = c.args.name.now in
    let new = (the_view (record { lines = c.self.inside.lines; next = c.self.inside.next; log = c.add.new.self; counts = c.self.inside.counts })) in
    let kept = rw c.as_bytes.ensures.value at (c.if-not-add.ensures.kept refl) in
    let stands = stood c.args.self.now new c.self.inside.log (attached_store name)
    (ap (λ m. m.log) (sym c.self.view_is)) kept (ap (λ m. m.lines) c.self.view_is) in
    Passes_map _ _ _ _ _ _ (passed c.args.self.now new c.self.inside.log (attached_store name) refl
    (ap (λ m. m.log) (sym c.self.view_is)) kept (ap (λ m. m.taken) c.self.view_is) (ap (λ m. m.lines) c.self.view_is))
    (λ m. in_attach (standing_of c.args.self.now) (standing_of new) name m stands)
