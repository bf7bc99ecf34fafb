-- The world of a game: definitions for contracts and proofs, besides those of specs/World.antt.
use Rattle.std.specs.Prelude.{◌≡◌, ℕ, ◌≤◌, List, length, Option, None, Some, slice_index, slice_set}
use Rattle.std.specs.Option.{option_map_or}
use Rattle.paw_base.specs.Bytes.{Bytes, ObjectPlaces}
use Rattle.paw_base.specs.declared.limits.TheConstants.{OBJECT_LIMIT, FLAG_COUNT}
use Rattle.paw_base.specs.declared.parts.ObjectFacts.{ObjectFacts}
use Rattle.paw_world.specs.inner.Places.{least_at, left_above}
use Rattle.paw_world.specs.World.{Position, World, first_carried, flags_with, kept_position}
use Rattle.paw_world.specs.World.{IsSavedFor, AreSavedFor}

-- The flags at the start of a game with these objects.
abbrev pub opening_flags : List ObjectFacts → Bytes
opening_flags facts = flags_with (first_carried facts)

-- The least object above this one that stands at a place, or the least of all there; nothing where there is none.
abbrev pub first_at : World → ℕ → Option ℕ → Option ℕ
first_at w p above = least_at w.places p (left_above w.places above)

-- A flag of a position; 0 where there is none.
abbrev pub flag_in : Option Position → ℕ → ℕ
flag_in None f = 0
flag_in (Some q) f = slice_index q.flags f

-- The place of an object in a position; 0 where there is none.
abbrev pub place_in_position : Option Position → ℕ → ℕ
place_in_position None o = 0
place_in_position (Some q) o = slice_index q.places o

-- A flag of the saved position; 0 where nothing is saved.
abbrev pub saved_flag : World → ℕ → ℕ
saved_flag w f = flag_in w.saved f

-- The place of an object in the saved position; 0 where nothing is saved.
abbrev pub saved_place : World → ℕ → ℕ
saved_place w o = place_in_position w.saved o

-- The world with all flags and all places of a position.
abbrev pub taken_back : World → Position → World
taken_back w q = record w { flags = q.flags; places = q.places }

-- The world with all flags and places of the kept position with this number; the same world where none was kept.
abbrev pub kept_position_loaded : World → ℕ → World
kept_position_loaded w n = option_map_or (taken_back w) (kept_position w n) w

-- The world with a position as the kept one with this number.
abbrev pub with_kept : World → ℕ → Position → World
with_kept w n q = record w { kept = slice_set w.kept n (Some q) }

-- A flag of a kept position; 0 where none was kept.
abbrev pub kept_flag : World → ℕ → ℕ → ℕ
kept_flag w n f = flag_in (kept_position w n) f

-- The place of an object in a kept position; 0 where none was kept.
abbrev pub kept_place : World → ℕ → ℕ → ℕ
kept_place w n o = place_in_position (kept_position w n) o

-- The parts of a world: its flags, not too many places, room for the facts of all objects, and positions of the same
-- size.
pub record IsStored (facts : List ObjectFacts) (flags : Bytes) (places : ObjectPlaces) (saved : Option Position)
    (kept : List (Option Position)) : Type 0 where
  pub objects : length places ≤ OBJECT_LIMIT
  pub facts_room : length facts ≡ OBJECT_LIMIT
  pub flags_all : length flags ≡ FLAG_COUNT
  pub saved_alike : IsSavedFor (length places) saved
  pub kept_alike : AreSavedFor (length places) kept
