use Rattle.std.proofs.Common.{◌≡◌, ◌-◌, ◌++◌, length}
use Rattle.paw_image.specs.Damage.{each}
use Rattle.paw_image.specs.inner.Offsets.{begins}
use Rattle.paw_image.proofs.in_place.pass_rows.Given as goal

abbrev pub invariant-loop : goal.invariant-loop
invariant-loop g l = record {
  left : each (g.R.InPlace.passing l.rules) (l.count - l.counter) l.rest ≡ each (g.R.InPlace.passing l.rules) l.count l.bytes;
  goes_on : l.offsets.items ++ begins (g.R.InPlace.passing l.rules) l.total (l.count - l.counter) l.rest
      ≡ begins (g.R.InPlace.passing l.rules) l.total l.count l.bytes;
  many : length l.offsets.items ≡ l.counter;
}
