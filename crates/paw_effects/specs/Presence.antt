-- Places as the condacts name them.
use Rattle.std.specs.Prelude.{ℕ, ◌==◌, ◌||◌, Bool, List, length, filter, if◌then◌else◌}
use Rattle.std.specs.List.{range_with_len}
use Rattle.paw_base.specs.declared.places.TheConstants.{WORN_PLACE, CARRIED_PLACE, HERE_PLACE}
use Rattle.paw_world.specs.World.{World, place, here}

-- The place that a parameter names: one number stands for the current location.
abbrev pub named_place : World → ℕ → ℕ
named_place w p = if p == HERE_PLACE then here w else p

-- Whether an object is worn or carried.
abbrev pub is_held : World → ℕ → Bool
is_held w o = (place w o == WORN_PLACE) || (place w o == CARRIED_PLACE)

-- The objects that are worn or carried, in rising order of their numbers.
abbrev pub held_objects : World → List ℕ
held_objects w = filter (is_held w) (range_with_len 0 (length w.places))
