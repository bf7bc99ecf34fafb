use Rattle.std.proofs.Common.{arith}
use Rattle.paw_world.proofs.Bits.{lowest_by_zeros, no_bit_left}
use Rattle.paw_world.proofs.set.lowest_from.Goals as goal

pub returns-then-left-eq0 : goal.returns-then-left-eq0
returns-then-left-eq0 c = record { lowest = no_bit_left c.args.word c.args.from c.if-left-eq0.true }

pub returns : goal.returns
returns c = record { lowest = lowest_by_zeros c.args.word c.args.from (omega arith) c.if-left-eq0.false }
