use Rattle.std.proofs.Common.{◌≡◌, ◌-◌, ◌++◌, None, length, map, take, replicate}
use Rattle.paw_base.specs.declared.limits.TheConstants.{POSITION_COUNT}
use Rattle.paw_state.specs.inner.Parts.{position_in}
use Rattle.paw_state.proofs.parts.put_all_kept.Given as goal

-- The positions so far are put, and no other is kept.
abbrev pub invariant-loop-n : goal.invariant-loop-n
invariant-loop-n l =
    l.world ≡ record l.initial.world { kept = map (position_in (length l.initial.world.places)) (take l.n l.kept) ++ replicate (POSITION_COUNT - l.n) None }
