use Rattle.std.proofs.Common.{◌≡◌, take}
use Rattle.paw_check.specs.inner.Capped.{in_32_bits}
use Rattle.paw_check.specs.inner.Own.{measure_in}
use Rattle.paw_check.proofs.measures.measure.Given as goal

abbrev pub invariant-loop-byte : goal.invariant-loop-byte
invariant-loop-byte l = l.sum ≡ in_32_bits (measure_in l.name (take l.byte-index l.text))
