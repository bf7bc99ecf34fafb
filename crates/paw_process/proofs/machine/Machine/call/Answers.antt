use Rattle.std.proofs.Common.{arith, refl}
use Rattle.paw_reading.specs.declared.halt.Halt.TheVariants as halt
use Rattle.paw_process.proofs.Stops.{stops_halted, call_deep, call_goes}
use Rattle.paw_process.specs.inner.Moves.{with_open_loop}
use Rattle.paw_process.proofs.machine.Machine.call.Goals as goal

pub returns-then-depth-eq-MOST_FRAMES-clause-meaning : goal.returns-then-depth-eq-MOST_FRAMES-clause-meaning
returns-then-depth-eq-MOST_FRAMES-clause-meaning c g r =
    stops_halted g _ _ (halt.TooDeep c.args.table) _ _ (with_open_loop c.args.self.now.turning r) refl c.stop.ensures.value
    (call_deep g c.args.self.now.frames c.args.table (with_open_loop c.args.self.now.turning r) (omega arith))
    (record { pieces = refl; traces = refl; events = refl })

pub returns-clause-meaning : goal.returns-clause-meaning
returns-clause-meaning c g r =
    rw (c.push.ensures.value, c.start_of.ensures.value)
    (call_goes g c.args.self.now.frames c.args.table (with_open_loop c.args.self.now.turning r) c.requires.reading.tables.some (omega arith))
