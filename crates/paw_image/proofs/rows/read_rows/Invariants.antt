use Rattle.std.proofs.Common.{◌≡◌, ◌-◌}
use Rattle.paw_image.specs.inner.Reading.{leading_rows}
use Rattle.paw_image.proofs.ListLoop.{with_front}
use Rattle.paw_image.proofs.rows.read_rows.Given as goal

abbrev pub invariant-loop : goal.invariant-loop
invariant-loop g l = with_front l.rows.items (leading_rows g.R.ReadRow.reading (l.count - l.counter) l.rest) ≡ leading_rows g.R.ReadRow.reading l.count l.bytes
