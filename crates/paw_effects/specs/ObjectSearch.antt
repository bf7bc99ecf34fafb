-- The object that a sentence means.
use Rattle.std.specs.Prelude.{ℕ, ◌==◌, ◌&&◌, ◌||◌, Bool, false, not, List, [], ◌∷◌}
use Rattle.std.specs.Prelude.{Option, None, find, slice_get, if◌then◌else◌}
use Rattle.std.specs.List.{list_any}
use Rattle.std.specs.Option.{option_or, option_map_or}
use Rattle.paw_base.specs.declared.flags.TheConstants.{NOUN_FLAG, ADJECTIVE_FLAG, LOCATION_FLAG}
use Rattle.paw_base.specs.declared.words.TheConstants.{NO_WORD}
use Rattle.paw_base.specs.declared.parts.ObjectFacts.{ObjectFacts}
use Rattle.paw_world.specs.World.{World, flag, is_somewhere}
use Rattle.paw_world.specs.Weight.{objects_at}
use Rattle.paw_effects.specs.declared.object_search.Spot.{Spot}
use Rattle.paw_effects.specs.declared.object_search.Spot.TheVariants as spot

-- Whether the sentence names an object with these facts: it has the object's noun, and its adjective or none.
abbrev pub names : World → ObjectFacts → Bool
names w f =
    not (flag w NOUN_FLAG == NO_WORD) && ((f.noun == flag w NOUN_FLAG)
    && ((flag w ADJECTIVE_FLAG == NO_WORD) || (f.adjective == flag w ADJECTIVE_FLAG)))

-- Whether an object fits the sentence.
abbrev pub fits_sentence : World → ℕ → Bool
fits_sentence w o = option_map_or (names w) (slice_get w.facts o) false

-- Whether some object of the game fits the sentence, wherever it is.
abbrev pub some_fits : World → Bool
some_fits w = list_any (names w) w.facts

-- Of the objects at a place, the one with the least number that fits the sentence; nothing where none does.
abbrev pub least_fitting : World → ℕ → Option ℕ
least_fitting w p = find (fits_sentence w) (objects_at w p)

-- The same at a spot: a place, or the current location if that is one of the game's.
abbrev pub fitting_at : World → Spot → Option ℕ
fitting_at w spot.Here = if is_somewhere w then least_fitting w (flag w LOCATION_FLAG) else None
fitting_at w (spot.At p) = least_fitting w p

-- The least object that fits, at the first of these spots that has one; nothing where none has.
abbrev pub first_fitting : World → List Spot → Option ℕ
first_fitting w [] = None
first_fitting w (s ∷ ss) = option_or (fitting_at w s) (first_fitting w ss)
