use Rattle.std.proofs.Common.{◌≡◌, ◌-◌}
use Rattle.paw_image.specs.inner.Rows.{exit_in}
use Rattle.paw_image.proofs.at_offset.exit_of.Given as goal

abbrev pub invariant-loop : goal.invariant-loop
invariant-loop l = exit_in l.verb (l.count - l.counter) l.rest ≡ exit_in l.verb l.count l.bytes
