use Rattle.std.proofs.Common.{arith}
use Rattle.paw_print.specs.Canonical.{canonical_of}
use Rattle.paw_top.proofs.Compiling.{too_long}
use Rattle.paw_top.proofs.laws.long_canonical_sources_are_too_big.Goals as goal

pub returns : goal.returns
returns c = record { too_big = λ g long. too_long (canonical_of g) (omega (arith, long)) }
