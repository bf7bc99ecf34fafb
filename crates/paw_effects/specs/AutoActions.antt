-- The actions that find their object by the sentence.
use Rattle.std.specs.Prelude.{ℕ, List, [], ◌∷◌, Option, Some, None, if◌then◌else◌}
use Rattle.std.specs.Option.{option_map_or}
use Rattle.paw_base.specs.declared.messages.TheConstants.{IMPOSSIBLE_MESSAGE, NOT_WORN_MESSAGE, NOT_HERE_MESSAGE}
use Rattle.paw_base.specs.declared.messages.TheConstants.{NOT_CARRIED_MESSAGE, NOT_INSIDE_MESSAGE}
use Rattle.paw_base.specs.declared.places.TheConstants.{WORN_PLACE, CARRIED_PLACE}
use Rattle.paw_game.specs.Game.{GameLists}
use Rattle.paw_world.specs.World.{World}
use Rattle.paw_effects.specs.declared.object_actions.Action.{Action}
use Rattle.paw_effects.specs.declared.object_actions.Action.TheVariants as action
use Rattle.paw_effects.specs.declared.object_search.Spot.{Spot}
use Rattle.paw_effects.specs.declared.object_search.Spot.TheVariants.{Here, At}
use Rattle.paw_effects.specs.declared.object_words.ObjectReply.{ObjectReply}
use Rattle.paw_effects.specs.declared.object_words.ObjectReply.TheVariants.{Says, Names}
use Rattle.paw_effects.specs.Done.{Done}
use Rattle.paw_effects.specs.Referring.{object_referred, referred_to_none}
use Rattle.paw_effects.specs.ObjectSearch.{some_fits, first_fitting}
use Rattle.paw_effects.specs.ObjectActions.{refuses, acted_on}

-- Where each action looks for its object, in this order.
abbrev pub looks_at : Action → List Spot
looks_at action.Get = Here ∷ At CARRIED_PLACE ∷ At WORN_PLACE ∷ []
looks_at action.Remove = At WORN_PLACE ∷ At CARRIED_PLACE ∷ Here ∷ []
looks_at (action.TakeOut l) = At l ∷ At CARRIED_PLACE ∷ At WORN_PLACE ∷ Here ∷ []
looks_at _ = At CARRIED_PLACE ∷ At WORN_PLACE ∷ Here ∷ []  -- Drop, Wear, PutIn

-- The message of an action whose object isn't found there.
abbrev pub missing_reply : Action → ObjectReply
missing_reply action.Get = Says NOT_HERE_MESSAGE
missing_reply action.Remove = Says NOT_WORN_MESSAGE
missing_reply (action.TakeOut l) = Names NOT_INSIDE_MESSAGE l
missing_reply _ = Says NOT_CARRIED_MESSAGE  -- Drop, Wear, PutIn

-- The action on the object that was found. Where none was found it is refused: as impossible, if no object of the game
-- fits.
abbrev pub acted_on_found : GameLists → World → Action → Option ℕ → Done
acted_on_found g w a (Some o) = acted_on g w o a
acted_on_found g w a None = refuses g w (if some_fits w then missing_reply a else Says IMPOSSIBLE_MESSAGE)

-- The action on the object that the sentence means.
abbrev pub acted_by_name : GameLists → World → Action → Done
acted_by_name g w a = acted_on_found g w a (first_fitting w (looks_at a))

-- Refers to the object that the sentence means, which is looked for as DROP does, or to none.
abbrev pub referred_by_name : World → World
referred_by_name w = option_map_or (object_referred w) (first_fitting w (looks_at action.Drop)) (referred_to_none w)
