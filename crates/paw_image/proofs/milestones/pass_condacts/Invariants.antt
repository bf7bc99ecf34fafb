use Rattle.std.proofs.Common.{◌≡◌, ◌+◌, ◌*◌, length, Ok}
use Rattle.paw_image.specs.inner.Milestones.{BeginsWithList}
use Rattle.paw_image.specs.Damage.{each, after_condact}
use Rattle.paw_image.proofs.CondactLaws.{MilestonesSoFar}
use Rattle.paw_image.proofs.milestones.pass_condacts.Given as goal

abbrev pub invariant-loop : goal.invariant-loop
invariant-loop l = record {
  left : each (after_condact l.rules) (l.counter * 8) l.bytes ≡ Ok l.rest;
  long : length l.milestones.items ≡ length l.fn.milestones.items + l.counter;
  marked : MilestonesSoFar l.milestones.items (length l.fn.milestones.items) l.counter l.bytes;
  extends : BeginsWithList l.fn.milestones.items l.milestones.items;
}
