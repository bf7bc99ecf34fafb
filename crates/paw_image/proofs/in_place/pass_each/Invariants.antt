use Rattle.std.proofs.Common.{◌≡◌, ◌-◌}
use Rattle.paw_image.specs.Damage.{each}
use Rattle.paw_image.proofs.in_place.pass_each.Given as goal

abbrev pub invariant-loop : goal.invariant-loop
invariant-loop g l = each (g.R.InPlace.passing l.rules) (l.count - l.counter) l.rest ≡ each (g.R.InPlace.passing l.rules) l.count l.bytes
