use Rattle.std.proofs.Common.{length}
use Rattle.paw_process.proofs.kept.+first_frame_fault.Given as goal

abbrev pub decreases-first_frame_fault : goal.decreases-first_frame_fault
decreases-first_frame_fault g l = length l.rows.now
