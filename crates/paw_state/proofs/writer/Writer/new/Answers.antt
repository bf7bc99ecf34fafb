use Rattle.std.proofs.Common.{lit≤}
use Rattle.paw_state.specs.declared.fields.TheConstants.{STATE_ROOM}
use Rattle.paw_state.proofs.Written.{zeros_all}
use Rattle.paw_state.proofs.writer.Writer.new.Goals as goal

pub invariant_of-result : goal.invariant_of-result
invariant_of-result c = (lit≤ tt, zeros_all STATE_ROOM)
