-- The actions on an object.
use Rattle.std.specs.Prelude.{ℕ, ◌+◌, ◌==◌, ◌&&◌, ◌||◌, Bool, true, false, not, nat_lt, nat_le, List}
use Rattle.std.specs.Prelude.{[], ◌∷◌, length, Option, Some, None, slice_get, if◌then◌else◌}
use Rattle.std.specs.Option.{option_map_or}
use Rattle.paw_base.specs.declared.flags.TheConstants.{CARRIED_FLAG, MOST_CARRIED_FLAG, MOST_WEIGHT_FLAG}
use Rattle.paw_base.specs.declared.messages.TheConstants.{NOT_WORN_MESSAGE, WORN_MESSAGE, HELD_MESSAGE}
use Rattle.paw_base.specs.declared.messages.TheConstants.{NOT_HERE_MESSAGE, TOO_MANY_MESSAGE, NOT_CARRIED_MESSAGE}
use Rattle.paw_base.specs.declared.messages.TheConstants.{WORN_ALREADY_MESSAGE, TAKEN_MESSAGE, PUT_ON_MESSAGE}
use Rattle.paw_base.specs.declared.messages.TheConstants.{TAKEN_OFF_MESSAGE, DROPPED_MESSAGE, NOT_WEARABLE_MESSAGE}
use Rattle.paw_base.specs.declared.messages.TheConstants.{NOT_REMOVABLE_MESSAGE, HANDS_FULL_MESSAGE, TOO_HEAVY_MESSAGE}
use Rattle.paw_base.specs.declared.messages.TheConstants.{PUT_IN_MESSAGE, NOT_TAKEN_OUT_MESSAGE, NOT_HELD_MESSAGE}
use Rattle.paw_base.specs.declared.messages.TheConstants.{NOT_PUT_ON_MESSAGE, NOT_INSIDE_MESSAGE}
use Rattle.paw_base.specs.declared.places.TheConstants.{WORN_PLACE, CARRIED_PLACE}
use Rattle.paw_game.specs.Game.{GameLists}
use Rattle.paw_world.specs.World.{World, flag, place, here, is_here, object_moved}
use Rattle.paw_world.specs.Weight.{weight, carried_weight}
use Rattle.paw_effects.specs.declared.act.Act.{Act}
use Rattle.paw_effects.specs.declared.act.Effect.TheVariants as effect
use Rattle.paw_effects.specs.declared.object_actions.Action.{Action}
use Rattle.paw_effects.specs.declared.object_actions.Action.TheVariants as action
use Rattle.paw_effects.specs.declared.object_words.ObjectReply.{ObjectReply}
use Rattle.paw_effects.specs.declared.object_words.ObjectReply.TheVariants.{Says, Names}
use Rattle.paw_effects.specs.Done.{Done, prints}
use Rattle.paw_effects.specs.Presence.{is_held}
use Rattle.paw_effects.specs.Referring.{object_referred}
use Rattle.paw_effects.specs.ObjectWords.{spoken_words, ends_loop}

-- ---- what the tests ask ----

-- Whether an object is worn.
abbrev pub is_worn : World → ℕ → Bool
is_worn w o = place w o == WORN_PLACE

-- Whether an object is carried.
abbrev pub is_carried : World → ℕ → Bool
is_carried w o = place w o == CARRIED_PLACE

-- Whether an object may be worn.
abbrev pub can_be_worn : World → ℕ → Bool
can_be_worn w o = option_map_or (λ f. f.wearable) (slice_get w.facts o) false

-- Whether more weight would be carried with this object than is allowed.
abbrev pub is_too_heavy : World → ℕ → Bool
is_too_heavy w o = nat_lt (flag w MOST_WEIGHT_FLAG) (carried_weight w + weight w o)

-- Whether as many objects are carried as are allowed.
abbrev pub is_laden : World → Bool
is_laden w = nat_le (flag w MOST_CARRIED_FLAG) (flag w CARRIED_FLAG)

-- Whether the object whose number is that of a place is worn or carried; what comes out of it is then held already.
abbrev pub holds_place : World → ℕ → Bool
holds_place w l = nat_lt l (length w.places) && is_held w l

-- ---- what hinders an action, and the message then ----

-- The tests of each action in their order, each with the message that is said where it holds.
abbrev pub hindrances : World → ℕ → Action → List (Bool × ObjectReply)
hindrances w o action.Get =
    (is_held w o, Says HELD_MESSAGE) ∷ (not (is_here w o), Says NOT_HERE_MESSAGE)
    ∷ (is_too_heavy w o, Says TOO_HEAVY_MESSAGE) ∷ (is_laden w, Says TOO_MANY_MESSAGE) ∷ []
hindrances w o action.Wear =
    (is_here w o, Says NOT_HELD_MESSAGE) ∷ (is_worn w o, Says WORN_ALREADY_MESSAGE)
    ∷ (not (is_carried w o), Says NOT_CARRIED_MESSAGE) ∷ (not (can_be_worn w o), Says NOT_WEARABLE_MESSAGE) ∷ []
hindrances w o action.Remove =
    (is_carried w o || is_here w o, Says NOT_PUT_ON_MESSAGE) ∷ (not (is_worn w o), Says NOT_WORN_MESSAGE)
    ∷ (not (can_be_worn w o), Says NOT_REMOVABLE_MESSAGE) ∷ (is_laden w, Says HANDS_FULL_MESSAGE) ∷ []
hindrances w o (action.TakeOut l) =
    (is_held w o, Says HELD_MESSAGE) ∷ (is_here w o, Names NOT_TAKEN_OUT_MESSAGE l)
    ∷ (not (place w o == l), Names NOT_INSIDE_MESSAGE l)
    ∷ (not (holds_place w l) && is_too_heavy w o, Says TOO_HEAVY_MESSAGE) ∷ (is_laden w, Says TOO_MANY_MESSAGE) ∷ []
hindrances w o _ =  -- Drop, PutIn
    (is_worn w o, Says WORN_MESSAGE) ∷ (is_here w o, Says NOT_HELD_MESSAGE)
    ∷ (not (is_carried w o), Says NOT_CARRIED_MESSAGE) ∷ []

-- The message of the first test that holds.
abbrev pub first_that_holds : List (Bool × ObjectReply) → Option ObjectReply
first_that_holds [] = None
first_that_holds ((holds, said) ∷ tests) = if holds then Some said else first_that_holds tests

-- ---- what is done otherwise ----

-- Where the object moves.
abbrev pub destination : World → Action → ℕ
destination w action.Drop = here w
destination w action.Wear = WORN_PLACE
destination w (action.PutIn l) = l
destination w _ = CARRIED_PLACE  -- Get, Remove, TakeOut

-- The message of an action that is done.
abbrev pub outcome : Action → ObjectReply
outcome action.Drop = Says DROPPED_MESSAGE
outcome action.Wear = Says PUT_ON_MESSAGE
outcome action.Remove = Says TAKEN_OFF_MESSAGE
outcome (action.PutIn l) = Names PUT_IN_MESSAGE l
outcome _ = Says TAKEN_MESSAGE  -- Get, TakeOut

-- An action is refused with a message; the rest of the line is dropped, and the table left with an action carried out.
abbrev pub refuses : GameLists → World → ObjectReply → Done
refuses g w said =
    let act : Act = record { effect = effect.Exit true; drop_line = true; cancel_loop = ends_loop said } in
    record { text = spoken_words g w said; world = w; act = act }

-- An action on an object: it is refused with this message, or carried out where there is no message, and then a message
-- says so.
abbrev pub action_tried : GameLists → World → ℕ → Action → Option ObjectReply → Done
action_tried g w o a (Some said) = refuses g w said
action_tried g w o a None =
    let after = object_moved w o (destination w a) in prints after (spoken_words g after (outcome a))

-- An action on an object, which is referred to first.
abbrev pub acted_on : GameLists → World → ℕ → Action → Done
acted_on g w o a = let w' = object_referred w o in action_tried g w' o a (first_that_holds (hindrances w' o a))
