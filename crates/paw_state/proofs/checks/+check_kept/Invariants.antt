use Rattle.std.proofs.Common.{length}
use Rattle.paw_state.proofs.checks.+check_kept.Given as goal

-- The positions that are left.
abbrev pub decreases-check_kept : goal.decreases-check_kept
decreases-check_kept g l = length l.kept.now
