use Rattle.std.proofs.Common.{refl}
use Rattle.paw_check.proofs.Rows.{holds_none}
use Rattle.paw_check.proofs.sums.verb_doalls.Goals as goal

pub loop-entry-init : goal.loop-entry-init
loop-entry-init c = holds_none _ (λ v. refl)
