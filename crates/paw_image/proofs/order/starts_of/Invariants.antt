use Rattle.std.proofs.Common.{◌≡◌, ℕ, ◌<◌, get_or, length}
use Rattle.paw_image.specs.inner.Orders.{IsBefore, IsStart}
use Rattle.paw_image.proofs.order.starts_of.Given as goal

abbrev pub invariant-loop-verb : goal.invariant-loop-verb
invariant-loop-verb l = record {
  before : IsBefore l.ranks l.verb l.start;
  long : length l.starts.items ≡ l.verb;
  each : (v : ℕ) → v < l.verb → IsStart l.ranks v (get_or l.starts.items v 0);
}
