use Rattle.paw_state.proofs.Absent.{none_is_zeros}
use Rattle.paw_state.proofs.writing.put_kept_one.Goals as goal

pub returns-in-None-clause-writes : goal.returns-in-None-clause-writes
returns-in-None-clause-writes c = rw (c.in-None.ensures.value, ← none_is_zeros) c.skip.ensures.writes
