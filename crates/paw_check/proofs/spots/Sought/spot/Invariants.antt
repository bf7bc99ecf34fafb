use Rattle.std.proofs.Common.{◌≡◌, drop}
use Rattle.paw_check.specs.inner.Spots.{spot_sought}
use Rattle.paw_check.proofs.spots.Sought.spot.Given as goal

abbrev pub invariant-loop-number : goal.invariant-loop-number
invariant-loop-number l = spot_sought l.self l.tables (drop l.number-index l.numbers) ≡ spot_sought l.self l.tables l.numbers
