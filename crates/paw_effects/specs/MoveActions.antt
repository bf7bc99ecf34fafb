-- The actions that move objects, and the numbers that name places.
use Rattle.std.specs.Prelude.{ℕ, ◌||◌, Bool, nat_lt, length, fold, if◌then◌else◌}
use Rattle.paw_base.specs.declared.flags.TheConstants.{LOCATION_FLAG, REFERRED_FLAG}
use Rattle.paw_base.specs.declared.places.TheConstants.{NOT_CREATED_PLACE, HERE_PLACE}
use Rattle.paw_game.specs.Valid.{is_within}
use Rattle.paw_world.specs.World.{World, flag, with_flag, place, object_moved, here, with_objects_returned}
use Rattle.paw_effects.specs.Presence.{named_place, held_objects}

-- All that is worn or carried moves to the current location, one object after the other.
abbrev pub all_dropped : World → World
all_dropped w = fold (λ v o. object_moved v o (here w)) w (held_objects w)

-- Each of two objects moves to where the other stood, the first one first.
abbrev pub objects_swapped : World → ℕ → ℕ → World
objects_swapped w o k = object_moved (object_moved w o (place w k)) k (place w o)

-- The object last referred to moves to a place; nothing happens where there is no such object.
abbrev pub referred_moved : World → ℕ → World
referred_moved w p =
    if nat_lt (flag w REFERRED_FLAG) (length w.places) then object_moved w (flag w REFERRED_FLAG) p else w

-- Whether a number names a place: a location of the game, not created, worn, carried, or the current location.
abbrev pub names_place : World → ℕ → Bool
names_place w p = nat_lt p w.locations || is_within NOT_CREATED_PLACE HERE_PLACE p

-- An object moves to the place that a number names; nothing happens where it names none.
abbrev pub moved_if_place : World → ℕ → ℕ → World
moved_if_place w o p = if names_place w p then object_moved w o (named_place w p) else w

-- RESET puts all objects back where they begin, sets flag 1 to the number of those that begin carried, and makes a
-- location the current one.
abbrev pub reset : World → ℕ → World
reset w l = with_flag (with_objects_returned w) LOCATION_FLAG l
