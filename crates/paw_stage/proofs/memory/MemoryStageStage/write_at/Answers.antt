use Rattle.std.proofs.Common.{refl, ap, sym}
use Rattle.paw_stage.specs.inner.Done.{wrote_store}
use Rattle.paw_stage.specs.contracts.memory.MemoryStage.{the_view}
use Rattle.paw_stage.proofs.Calls.{passed}
use Rattle.paw_stage.proofs.memory.MemoryStageStage.write_at.Goals as goal

pub returns-clause-time : goal.returns-clause-time
returns-clause-time c = passed c.args.self.now
    (the_view (record { lines = c.self.inside.lines; next = c.self.inside.next; log = c.add.new.self; counts = c.self.inside.counts }))
    c.self.inside.log (wrote_store c.args.at c.args.bytes.now) refl (ap (λ m. m.log) (sym c.self.view_is))
    (c.if-not-add.ensures.kept refl) (ap (λ m. m.taken) c.self.view_is) (ap (λ m. m.lines) c.self.view_is)
