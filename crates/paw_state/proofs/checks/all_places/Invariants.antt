use Rattle.std.proofs.Common.{◌≡◌, ◌+◌, drop}
use Rattle.paw_game.specs.Valid.{is_place}
use Rattle.paw_state.specs.inner.Faults.{first_not}
use Rattle.paw_state.proofs.checks.all_places.Given as goal

-- The places so far are the game's.
abbrev pub invariant-loop-i : goal.invariant-loop-i
invariant-loop-i l =
    first_not (is_place l.locations) (l.at + l.i) (drop l.i l.places) ≡ first_not (is_place l.locations) l.at l.places
