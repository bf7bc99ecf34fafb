use Rattle.std.proofs.Common.{refl, ap, sym}
use Rattle.paw_stage.specs.inner.Done.{synced_store}
use Rattle.paw_stage.specs.inner.Memory.{standing_of}
use Rattle.paw_stage.specs.contracts.memory.MemoryStage.{the_view}
use Rattle.paw_stage.proofs.Time.{Passes_map}
use Rattle.paw_stage.proofs.Calls.{passed, in_sync, is_disk}
use Rattle.paw_stage.proofs.memory.MemoryStageStage.sync.Goals as goal

pub returns-clause-time : goal.returns-clause-time
returns-clause-time c =
    Passes_map _ _ _ _ _ _ (passed c.args.self.now
    (the_view (record { lines = c.self.inside.lines; next = c.self.inside.next; log = c.add.new.self; counts = c.self.inside.counts }))
    c.self.inside.log synced_store refl (ap (λ m. m.log) (sym c.self.view_is))
    (c.if-not-add.ensures.kept refl) (ap (λ m. m.taken) c.self.view_is) (ap (λ m. m.lines) c.self.view_is))
    (λ m. in_sync (standing_of c.args.self.now) m (is_disk c.args.self.now))
