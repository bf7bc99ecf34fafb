use Rattle.std.proofs.Common.{◌≡◌, length, slice_index, sym, subst}
use Rattle.std.specs.Prelude.{slice_range}
use Rattle.paw_stage.specs.inner.Crash.{spoiled_if}
use Rattle.paw_stage.specs.inner.Seen.{writes}
use Rattle.paw_stage.proofs.Writes.{spoils}
use Rattle.paw_stage.proofs.replay.spoil_after.Goals as goal

pub returns-in-Write : goal.returns-in-Write
returns-in-Write c = record {
  spoiled = λ j low.
      let n = length (slice_range c.args.room.now c.args.call.mid c.args.call.to) in
      let e = rw c.slice_of-bytes.ensures.value at c.spoil_range.ensures.spoiled in
      subst (λ k. slice_index c.spoil_range.new.store j ≡ spoiled_if (writes k n j) (slice_index c.args.store.now j))
      (sym c.in-Write.is) (spoils c.in-Write.offset c.min-offset.result n c.args.store.now c.spoil_range.new.store j
      c.min-offset.ensures e low);
}
