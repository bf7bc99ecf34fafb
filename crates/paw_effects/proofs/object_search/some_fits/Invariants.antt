use Rattle.std.proofs.Common.{◌≡◌, false, length, take}
use Rattle.std.specs.List.{list_any}
use Rattle.paw_effects.specs.ObjectSearch.{names}
use Rattle.paw_effects.proofs.object_search.some_fits.Given as goal

-- None of the objects so far fits.
abbrev pub invariant-loop-o : goal.invariant-loop-o
invariant-loop-o l = record {
  none : list_any (names l.world) (take l.o l.world.facts) ≡ false;
  all : l.o-end ≡ length l.world.facts;
}
