use Rattle.std.proofs.Common.{length}
use Rattle.paw_state.proofs.checks.+check_each_frame.Given as goal

-- The frames that are left.
abbrev pub decreases-check_each_frame : goal.decreases-check_each_frame
decreases-check_each_frame g l = length l.rows.now
