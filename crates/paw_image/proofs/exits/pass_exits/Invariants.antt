use Rattle.std.proofs.Common.{◌≡◌, ◌-◌, ℕ, List, []}
use Rattle.paw_image.specs.Damage.{after_exits_of}
use Rattle.paw_image.specs.inner.Marks.{Marks}
use Rattle.paw_image.proofs.exits.pass_exits.Given as goal

abbrev pub invariant-loop : goal.invariant-loop
invariant-loop l = (verbs : List ℕ) × Marks l.marks verbs
    × (after_exits_of l.rules verbs (l.count - l.counter) l.rest ≡ after_exits_of l.rules [] l.count l.bytes)
