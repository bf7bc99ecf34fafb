use Rattle.std.proofs.Common.{◌≡◌, ◌-◌}
use Rattle.paw_image.specs.Damage.{each}
use Rattle.paw_image.specs.inner.Rows.{past_condact}
use Rattle.paw_image.proofs.at_offset.past_condacts.Given as goal

abbrev pub invariant-loop : goal.invariant-loop
invariant-loop l = each past_condact (l.count - l.counter) l.rest ≡ each past_condact l.count l.bytes
