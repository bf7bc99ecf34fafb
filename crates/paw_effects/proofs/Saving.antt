-- No condact but SAVE changes the kept positions.
use Rattle.std.proofs.Common.{◌≡◌, ◌≢◌, ℕ, ◌==◌, Bool, true, false, List, [], ◌∷◌, Option, Some, None, refl}
use Rattle.std.specs.Prelude.{if◌then◌else◌, fold, slice_get}
use Rattle.std.specs.Option.{option_map_or}
use Rattle.paw_base.specs.declared.places.TheConstants.{CARRIED_PLACE}
use Rattle.paw_base.specs.declared.codes.TheConstants.{SAVE}
use Rattle.paw_base.specs.declared.parts.Condact.{Condact}
use Rattle.paw_base.specs.declared.parts.ObjectFacts.{ObjectFacts}
use Rattle.paw_base.specs.declared.flags.TheConstants.{REFERRED_PLACE_FLAG, REFERRED_FLAG}
use Rattle.paw_game.specs.Game.{GameLists}
use Rattle.paw_world.specs.World.{World, Position, with_flag, place, with_place, let_go, taken_up, object_moved}
use Rattle.paw_world.specs.World.{at_position}
use Rattle.paw_effects.specs.declared.object_actions.Action.{Action}
use Rattle.paw_effects.specs.declared.object_actions.Action.TheVariants as action
use Rattle.paw_effects.specs.declared.object_words.ObjectReply.{ObjectReply}
use Rattle.paw_effects.specs.Story.{Story}
use Rattle.paw_effects.specs.Positions.{position_loaded}
use Rattle.paw_effects.specs.Referring.{with_referred_facts, object_referred, referred_to_none}
use Rattle.paw_effects.specs.ObjectActions.{destination, first_that_holds, hindrances, action_tried}
use Rattle.paw_effects.specs.AutoActions.{acted_on_found}
use Rattle.paw_effects.specs.Meanings.{Meaning, Tests, Acts}
use Rattle.paw_effects.specs.Effects.{done_by}
use Rattle.paw_effects.specs.Holds.{answers, tested_by}

-- The positions that a world keeps.
module _ (ks : List (Option Position)) where
  -- They are these.
  abbrev pub AreKept : World → Type 0
  AreKept w = w.kept ≡ ks

  pub one_kept : (b : Bool) (x y : World) → AreKept x → AreKept y → AreKept (if b then x else y)
  one_kept true x y h k = h
  one_kept false x y h k = k

  -- ---- moves ----

  flag_kept : (b : Bool) (w : World) (f x : ℕ) → AreKept w → AreKept (if b then with_flag w f x else w)
  flag_kept true w f x k = k
  flag_kept false w f x k = k

  pub moved_kept : (w : World) (o p : ℕ) → AreKept w → AreKept (object_moved w o p)
  moved_kept w o p k =
      let left : World = let_go w (place w o) in
      one_kept (place w o == p) w (with_place (taken_up left p) o p) k
      (flag_kept (p == CARRIED_PLACE) left 1 _ (flag_kept (place w o == CARRIED_PLACE) w 1 _ k))

  pub dropped_kept : (p : ℕ) (os : List ℕ) (w : World) → AreKept w → AreKept (fold (λ v o. object_moved v o p) w os)
  dropped_kept p [] w k = k
  dropped_kept p (o ∷ os) w k = dropped_kept p os (object_moved w o p) (moved_kept w o p k)

  -- ---- actions on objects ----

  facts_kept : (w : World) (o : ℕ) (f : Option ObjectFacts) → AreKept w → AreKept (with_referred_facts w o f)
  facts_kept w o None k = k
  facts_kept w o (Some f) k = k

  pub referred_kept : (w : World) (o : ℕ) → AreKept w → AreKept (object_referred w o)
  referred_kept w o k = facts_kept (with_flag (with_flag w REFERRED_FLAG o) REFERRED_PLACE_FLAG (place w o)) o
      (slice_get w.facts o) k

  tried_kept : (g : GameLists) (w : World) (o : ℕ) (a : Action) (said : Option ObjectReply) → AreKept w → AreKept (action_tried g w o a said).world
  tried_kept g w o a (Some said) k = k
  tried_kept g w o a None k = moved_kept w o (destination w a) k

  pub acted_kept : (g : GameLists) (w : World) (o : ℕ) (a : Action) → AreKept w →
      AreKept (action_tried g (object_referred w o) o a (first_that_holds (hindrances (object_referred w o) o a))).world
  acted_kept g w o a k = tried_kept g (object_referred w o) o a (first_that_holds (hindrances (object_referred w o) o a)) (referred_kept w o k)

  pub found_kept : (g : GameLists) (w : World) (a : Action) (found : Option ℕ) → AreKept w → AreKept (acted_on_found g w a found).world
  found_kept g w a (Some o) k = acted_kept g w o a k
  found_kept g w a None k = k

  pub referred_found : (w : World) (found : Option ℕ) → AreKept w → AreKept (option_map_or (object_referred w) found (referred_to_none w))
  referred_found w (Some o) k = referred_kept w o k
  referred_found w None k = k

  -- ---- all actions ----

  pub ramloaded_kept : (w : World) (n : ℕ) (saved : Option Position) → AreKept w → AreKept (option_map_or (at_position w n) saved w)
  ramloaded_kept w n None k = k
  ramloaded_kept w n (Some q) k = k

  -- LOAD takes a position and changes none.
  pub loaded_kept : (g : GameLists) (w : World) (kept : Option Position) → AreKept w → AreKept (position_loaded g w kept).world
  loaded_kept g w None k = k
  loaded_kept g w (Some q) k = k

  pub answered_kept : (w : World) (f : ℕ) (answer : Option ℕ) → AreKept w → AreKept (option_map_or (with_flag w f) answer w)
  answered_kept w f None k = k
  answered_kept w f (Some y) k = k

  pub moves_kept : (w : World) (f : ℕ) (to : Option ℕ) → AreKept w → AreKept (option_map_or (λ x. answers (with_flag w f x) true) to (answers w false)).world
  moves_kept w f None k = k
  moves_kept w f (Some to) k = k

  -- ---- each row ----

  -- A condition, and an action of a code that isn't SAVE, leave these positions.
  abbrev pub LeavesKept : ℕ → Meaning → Type 0
  LeavesKept code (Tests tested) = (g : GameLists) (w : World) (c : Condact) → AreKept w → AreKept (tested g w c).world
  LeavesKept code (Acts done) = (s : Story) (w : World) (c : Condact) → c.code ≡ code → code ≢ SAVE → AreKept w → AreKept (done s w c).world

  pub done_kept : (m : Meaning) (s : Story) (w : World) (c : Condact) → LeavesKept c.code m → c.code ≢ SAVE → AreKept w → AreKept (done_by m s w c).world
  done_kept (Tests tested) s w c h other k = k
  done_kept (Acts done) s w c h other k = h s w c refl other k

  pub tested_kept : (m : Meaning) (g : GameLists) (w : World) (c : Condact) → LeavesKept c.code m → AreKept w → AreKept (tested_by m g w c).world
  tested_kept (Tests tested) g w c h k = h g w c k
  tested_kept (Acts done) g w c h k = k
