-- The world of a game: what play changes.
use Rattle.std.specs.Prelude.{◌≡◌, ℕ, suc, ◌+◌, ◌-◌, ◌≤◌, ◌==◌, ◌&&◌, ◌||◌, Bool, not, List, ◌++◌, length}
use Rattle.std.specs.Prelude.{map, take, drop, count_by, replicate, min, Option, None, Some, nat_lt}
use Rattle.std.specs.Prelude.{slice_index, slice_index_or, slice_set, if◌then◌else◌, IfSome}
use Rattle.std.specs.List.{All}
use Rattle.std.specs.Option.{option_map_or}
use Rattle.paw_base.specs.Bytes.{Bytes, ObjectPlaces, Seed}
use Rattle.paw_base.specs.declared.flags.TheConstants.{DARK_FLAG, CARRIED_FLAG, VERB_FLAG, NOUN_FLAG, ADJECTIVE_FLAG}
use Rattle.paw_base.specs.declared.flags.TheConstants.{ADVERB_FLAG, MOST_CARRIED_FLAG, LOCATION_FLAG, PREPOSITION_FLAG}
use Rattle.paw_base.specs.declared.flags.TheConstants.{SECOND_NOUN_FLAG, SECOND_ADJECTIVE_FLAG, PRONOUN_NOUN_FLAG}
use Rattle.paw_base.specs.declared.flags.TheConstants.{PRONOUN_ADJECTIVE_FLAG, REFERRED_FLAG, MOST_WEIGHT_FLAG}
use Rattle.paw_base.specs.declared.places.TheConstants.{NOT_CREATED_PLACE, WORN_PLACE, CARRIED_PLACE}
use Rattle.paw_base.specs.declared.words.TheConstants.{NO_WORD}
use Rattle.paw_base.specs.declared.limits.TheConstants.{OBJECT_LIMIT, FLAG_COUNT, POSITION_COUNT, STARTING_CARRIED}
use Rattle.paw_base.specs.declared.limits.TheConstants.{STARTING_WEIGHT}
use Rattle.paw_base.specs.declared.parts.ObjectFacts.{ObjectFacts}

-- The flags and places that are saved or kept together.
pub record Position : Type 0 where
  pub flags : Bytes
  pub places : ObjectPlaces

-- The facts of the objects and the number of locations, which never change; the flags; the place of each object; the
-- saved position; the kept positions; the seed of the random words, and how many of them were drawn.
pub record World : Type 0 where
  pub facts : List ObjectFacts
  pub locations : ℕ
  pub flags : Bytes
  pub places : ObjectPlaces
  pub saved : Option Position
  pub kept : List (Option Position)
  pub seed : Seed
  pub draws : ℕ

-- The value of a flag.
abbrev pub flag : World → ℕ → ℕ
flag w f = slice_index w.flags f

-- The world with a flag set to this value.
abbrev pub with_flag : World → ℕ → ℕ → World
with_flag w f x = record w { flags = slice_set w.flags f x }

-- The place of an object.
abbrev pub place : World → ℕ → ℕ
place w o = slice_index w.places o

-- The world with an object at this place; no flag changes.
abbrev pub with_place : World → ℕ → ℕ → World
with_place w o p = record w { places = slice_set w.places o p }

-- How many objects begin carried.
abbrev pub first_carried : List ObjectFacts → ℕ
first_carried facts = count_by (λ f. f.start == CARRIED_PLACE) facts

-- The flags at the start of a game. They are 0 but for these: one counts the carried objects; the words of a sentence
-- and the object last referred to are none; four objects and a weight of ten may be carried.
unfoldable pub flags_with : ℕ → Bytes
flags_with carried =
    let none : Bytes → ℕ → Bytes = λ flags f. slice_set flags f NO_WORD in
    let counted = slice_set (replicate FLAG_COUNT 0) CARRIED_FLAG carried in
    let words = none (none (none (none counted VERB_FLAG) NOUN_FLAG) ADJECTIVE_FLAG) ADVERB_FLAG in
    let second = none (none (none words PREPOSITION_FLAG) SECOND_NOUN_FLAG) SECOND_ADJECTIVE_FLAG in
    let more = none (none (none second PRONOUN_NOUN_FLAG) PRONOUN_ADJECTIVE_FLAG) REFERRED_FLAG in
    slice_set (slice_set more MOST_CARRIED_FLAG STARTING_CARRIED) MOST_WEIGHT_FLAG STARTING_WEIGHT

-- The places of the objects at the start of a game.
abbrev pub opening_places : List ObjectFacts → ObjectPlaces
opening_places facts = map (λ f. f.start) facts

-- The world at the start of a game.
abbrev pub starting_world : List ObjectFacts → ℕ → Seed → World
starting_world facts locations seed = record {
  facts = facts;
  locations = locations;
  flags = flags_with (first_carried facts);
  places = opening_places facts;
  saved = None;
  kept = replicate POSITION_COUNT None;
  seed = seed;
  draws = 0;
}

-- The world of a game that starts anew: the draws, the saved position and the kept positions stay.
abbrev pub world_restarted : World → World
world_restarted w = record w { flags = flags_with (first_carried w.facts); places = opening_places w.facts }

-- The world with all objects back where they begin. A flag counts those that begin carried; the other flags stay.
abbrev pub with_objects_returned : World → World
with_objects_returned w =
    record w { flags = slice_set w.flags CARRIED_FLAG (first_carried w.facts); places = opening_places w.facts }

-- Whether the current location is one of the game's.
abbrev pub is_somewhere : World → Bool
is_somewhere w = nat_lt (flag w LOCATION_FLAG) w.locations

-- The current location, or "not created" where it isn't one of the game's.
abbrev pub here : World → ℕ
here w = if is_somewhere w then flag w LOCATION_FLAG else NOT_CREATED_PLACE

-- Whether an object stands at the current location, and that is one of the game's.
abbrev pub is_here : World → ℕ → Bool
is_here w o = is_somewhere w && (place w o == flag w LOCATION_FLAG)

-- Whether an object is worn, carried or here.
abbrev pub is_present : World → ℕ → Bool
is_present w o = (place w o == WORN_PLACE) || ((place w o == CARRIED_PLACE) || is_here w o)

-- Whether the light source, object 0, is present; where there are no objects it isn't.
abbrev pub is_lit : World → Bool
is_lit w = nat_lt 0 (length w.places) && is_present w 0

-- Whether it is dark: the flag of darkness isn't 0.
abbrev pub is_dark : World → Bool
is_dark w = not (flag w DARK_FLAG == 0)

-- Whether it is dark and the light source isn't present.
abbrev pub is_unlit : World → Bool
is_unlit w = is_dark w && not (is_lit w)

-- The world with a flag lower by one, unless it is 0.
abbrev pub flag_lowered : ℕ → World → World
flag_lowered f w = with_flag w f (flag w f - 1)

-- The world with a flag lower by one where this condition holds, and the same world otherwise.
abbrev pub flag_lowered_if : Bool → ℕ → World → World
flag_lowered_if b f w = if b then flag_lowered f w else w

-- An object leaves a place: where it was carried, the count of carried objects falls by one.
abbrev pub let_go : World → ℕ → World
let_go w p = if p == CARRIED_PLACE then with_flag w CARRIED_FLAG (flag w CARRIED_FLAG - 1) else w

-- An object arrives at a place: where it is carried there, the count of carried objects rises by one, to at most 255.
abbrev pub taken_up : World → ℕ → World
taken_up w p = if p == CARRIED_PLACE then with_flag w CARRIED_FLAG (min 255 (flag w CARRIED_FLAG + 1)) else w

-- An object moves to a place; nothing happens where it stands there already.
abbrev pub object_moved : World → ℕ → ℕ → World
object_moved w o p = if place w o == p then w else with_place (taken_up (let_go w (place w o)) p) o p

-- The flags and places of a world.
abbrev pub position_of : World → Position
position_of w = record { flags = w.flags; places = w.places }

-- The world with its flags and places as the saved position.
abbrev pub position_saved : World → World
position_saved w = record w { saved = Some (position_of w) }

-- The world with flags 0 to n and all places taken from a position.
abbrev pub at_position : World → ℕ → Position → World
at_position w n q = record w { flags = take (suc n) q.flags ++ drop (suc n) w.flags; places = q.places }

-- The world with flags 0 to n and all places taken from the saved position; the same world where nothing is saved.
abbrev pub saved_position_loaded : World → ℕ → World
saved_position_loaded w n = option_map_or (at_position w n) w.saved w

-- The kept position with a number below 4; nothing where none was kept.
abbrev pub kept_position : World → ℕ → Option Position
kept_position w n = slice_index_or w.kept n None

-- The world with its flags and places as the kept position with this number.
abbrev pub position_kept : World → ℕ → World
position_kept w n = record w { kept = slice_set w.kept n (Some (position_of w)) }

-- The world after n more random words were drawn.
abbrev pub drawn_on : World → ℕ → World
drawn_on w n = record w { draws = w.draws + n }

-- A position for this number of objects: it has all flags, and a place for each object.
pub record IsPosition (objects : ℕ) (q : Position) : Type 0 where
  pub flags : length q.flags ≡ FLAG_COUNT
  pub places : length q.places ≡ objects

-- A saved position, if there is one, is for this number of objects.
abbrev pub IsSavedFor : ℕ → Option Position → Type 0
IsSavedFor objects saved = IfSome saved (IsPosition objects)

-- There are four kept positions, each of them empty or for this number of objects.
pub record AreSavedFor (objects : ℕ) (kept : List (Option Position)) : Type 0 where
  pub four : length kept ≡ POSITION_COUNT
  pub each : All (IsSavedFor objects) kept

-- What holds of every world: not too many objects, facts and a place for each, all flags, and saved and kept positions
-- for this number of objects.
pub record IsWorld (w : World) : Type 0 where
  pub objects : length w.places ≤ OBJECT_LIMIT
  pub facts : length w.facts ≡ length w.places
  pub flags : length w.flags ≡ FLAG_COUNT
  pub saved : IsSavedFor (length w.places) w.saved
  pub kept : AreSavedFor (length w.places) w.kept
