-- What leaves the verb's flag of a world as it is.
use Rattle.std.proofs.Common.{◌≡◌, ◌⊎◌, ℕ, suc, ◌+◌, ◌-◌, ◌<◌, ◌==◌, Bool, true, false, List, [], ◌∷◌, Option, Some}
use Rattle.std.proofs.Common.{None}
use Rattle.std.proofs.Common.{refl, sym, ◌∙◌, subst, length, take, drop, slice_get, arith, inr}
use Rattle.std.specs.Prelude.{if◌then◌else◌, fold, nat_le, slice_index}
use Rattle.std.specs.Option.{option_map_or}
use Rattle.std.proofs.lemmas.Bool.{eqb-false, leb-false}
use Rattle.std.proofs.lemmas.List.{get_or-set_other, get_or-append_right, get_or-drop, length-take-le}
use Rattle.paw_base.specs.declared.words.TheConstants.{NO_WORD}
use Rattle.paw_base.specs.declared.places.TheConstants.{CARRIED_PLACE, NOT_CREATED_PLACE}
use Rattle.paw_base.specs.declared.flags.TheConstants.{VERB_FLAG, REFERRED_FLAG, REFERRED_PLACE_FLAG}
use Rattle.paw_base.specs.declared.flags.TheConstants.{REFERRED_WEIGHT_FLAG}
use Rattle.paw_base.specs.declared.flags.TheConstants.{REFERRED_CONTAINER_FLAG, REFERRED_WEARABLE_FLAG}
use Rattle.paw_base.specs.declared.limits.TheConstants.{FLAG_COUNT}
use Rattle.paw_base.specs.declared.parts.ObjectFacts.{ObjectFacts}
use Rattle.paw_game.specs.Game.{GameLists}
use Rattle.paw_world.specs.World.{World, Position, flag, with_flag, place, with_place, let_go, taken_up, object_moved}
use Rattle.paw_world.specs.World.{at_position}
use Rattle.paw_world.specs.Weight.{weight}
use Rattle.paw_effects.specs.declared.act.Effect.TheVariants as effect
use Rattle.paw_effects.specs.Done.{Done}
use Rattle.paw_effects.specs.Positions.{position_loaded}
use Rattle.paw_effects.specs.Referring.{with_referred_facts, flag_of_fact, object_referred, referred_to_none}
use Rattle.paw_effects.specs.ObjectActions.{destination, first_that_holds, hindrances, action_tried, acted_on}
use Rattle.paw_effects.specs.AutoActions.{acted_on_found}
use Rattle.paw_effects.specs.Holds.{answers}
use Rattle.paw_effects.specs.inner.Standing.{MayBePosition}

-- The verb's flag of a world has this value.
module _ (n : ℕ) where
  abbrev pub HasVerb : World → Type 0
  HasVerb w = flag w VERB_FLAG ≡ n

  -- An action leaves it so, or leaves all tables to describe the location.
  abbrev pub LeavesVerb : Done → Type 0
  LeavesVerb d = HasVerb d.world ⊎ (d.act.effect ≡ effect.Redescribe)

  -- ---- flags ----

  -- What holds in both cases.
  pub one_has : (b : Bool) (x y : World) → HasVerb x → HasVerb y → HasVerb (if b then x else y)
  one_has true x y h k = h
  one_has false x y h k = k

  -- Another flag gets a value.
  pub other_has : (w : World) (f x : ℕ) → (f == VERB_FLAG) ≡ false → HasVerb w → HasVerb (with_flag w f x)
  other_has w f x other k = get_or-set_other w.flags f VERB_FLAG x 0 (λ e. eqb-false f VERB_FLAG other (sym e)) ∙ k

  flag_has : (b : Bool) (w : World) (f x : ℕ) → (f == VERB_FLAG) ≡ false → HasVerb w → HasVerb (if b then with_flag w f x else w)
  flag_has b w f x other k = one_has b (with_flag w f x) w (other_has w f x other k) k

  -- A flag that isn't the verb's gets a value, where there is one.
  pub answered_has : (w : World) (f : ℕ) (answer : Option ℕ) → (f == VERB_FLAG) ≡ false → HasVerb w
      → HasVerb (option_map_or (with_flag w f) answer w)
  answered_has w f None other k = k
  answered_has w f (Some x) other k = other_has w f x other k

  pub moves_has : (w : World) (f : ℕ) (to : Option ℕ) → (f == VERB_FLAG) ≡ false → HasVerb w
      → HasVerb (option_map_or (λ x. answers (with_flag w f x) true) to (answers w false)).world
  moves_has w f None other k = k
  moves_has w f (Some x) other k = other_has w f x other k

  -- ---- moves ----

  pub moved_has : (w : World) (o p : ℕ) → HasVerb w → HasVerb (object_moved w o p)
  moved_has w o p k =
      let left : World = let_go w (place w o) in
      one_has (place w o == p) w (with_place (taken_up left p) o p) k
      (flag_has (p == CARRIED_PLACE) left 1 _ refl (flag_has (place w o == CARRIED_PLACE) w 1 _ refl k))

  pub dropped_has : (p : ℕ) (os : List ℕ) (w : World) → HasVerb w → HasVerb (fold (λ v o. object_moved v o p) w os)
  dropped_has p [] w k = k
  dropped_has p (o ∷ os) w k = dropped_has p os (object_moved w o p) (moved_has w o p k)

  -- ---- referring ----

  facts_has : (w : World) (o : ℕ) (f : Option ObjectFacts) → HasVerb w → HasVerb (with_referred_facts w o f)
  facts_has w o None k = k
  facts_has w o (Some f) k =
      let weighed : World = with_flag w REFERRED_WEIGHT_FLAG (weight w o) in
      let held : World = with_flag weighed REFERRED_CONTAINER_FLAG (flag_of_fact f.container) in
      other_has held REFERRED_WEARABLE_FLAG (flag_of_fact f.wearable) refl
      (other_has weighed REFERRED_CONTAINER_FLAG (flag_of_fact f.container) refl (other_has w REFERRED_WEIGHT_FLAG (weight w o) refl k))

  pub referred_has : (w : World) (o : ℕ) → HasVerb w → HasVerb (object_referred w o)
  referred_has w o k =
      let numbered : World = with_flag w REFERRED_FLAG o in
      facts_has (with_flag numbered REFERRED_PLACE_FLAG (place w o)) o (slice_get w.facts o)
      (other_has numbered REFERRED_PLACE_FLAG (place w o) refl (other_has w REFERRED_FLAG o refl k))

  none_has : (w : World) → HasVerb w → HasVerb (referred_to_none w)
  none_has w k =
      let numbered : World = with_flag w REFERRED_FLAG NO_WORD in
      let placed : World = with_flag numbered REFERRED_PLACE_FLAG NOT_CREATED_PLACE in
      let weighed : World = with_flag placed REFERRED_WEIGHT_FLAG 0 in
      let held : World = with_flag weighed REFERRED_CONTAINER_FLAG 0 in
      other_has held REFERRED_WEARABLE_FLAG 0 refl (other_has weighed REFERRED_CONTAINER_FLAG 0 refl (other_has placed REFERRED_WEIGHT_FLAG 0 refl
      (other_has numbered REFERRED_PLACE_FLAG NOT_CREATED_PLACE refl (other_has w REFERRED_FLAG NO_WORD refl k))))

  pub referred_found_has : (w : World) (found : Option ℕ) → HasVerb w → HasVerb (option_map_or (object_referred w) found (referred_to_none w))
  referred_found_has w None k = none_has w k
  referred_found_has w (Some o) k = referred_has w o k

  -- ---- actions on objects ----

  tried_has : (g : GameLists) (w : World) (o : ℕ) (a : _) (said : Option _) → HasVerb w → HasVerb (action_tried g w o a said).world
  tried_has g w o a (Some said) k = k
  tried_has g w o a None k = moved_has w o (destination w a) k

  pub acted_has : (g : GameLists) (w : World) (o : ℕ) (a : _) → HasVerb w → HasVerb (acted_on g w o a).world
  acted_has g w o a k = tried_has g (object_referred w o) o a (first_that_holds (hindrances (object_referred w o) o a)) (referred_has w o k)

  pub found_has : (g : GameLists) (w : World) (a : _) (found : Option ℕ) → HasVerb w → HasVerb (acted_on_found g w a found).world
  found_has g w a None k = k
  found_has g w a (Some o) k = acted_has g w o a k

  -- ---- positions ----

  -- LOAD leaves all tables.
  pub loaded_leaves : (g : GameLists) (w : World) (q : Option Position) → LeavesVerb (position_loaded g w q)
  loaded_leaves g w None = inr refl
  loaded_leaves g w (Some q) = inr refl

  -- Flags 0 to m are taken back, and the verb's isn't among them.
  pub ramloaded_has : (g : GameLists) (w : World) (m : ℕ) (saved : Option Position) → MayBePosition g saved → nat_le VERB_FLAG m ≡ false
      → HasVerb w → HasVerb (option_map_or (at_position w m) saved w)
  ramloaded_has g w m None at low k = k
  ramloaded_has g w m (Some q) at low k =
      let below : m < VERB_FLAG = leb-false VERB_FLAG m low in
      let all : length q.flags ≡ FLAG_COUNT = at.flags in
      let many : length (take (suc m) q.flags) ≡ suc m = length-take-le (suc m) q.flags (omega arith) in
      let there : suc m + (VERB_FLAG - suc m) ≡ VERB_FLAG = omega arith in
      get_or-append_right (take (suc m) q.flags) (drop (suc m) w.flags) (suc m) VERB_FLAG 0 many (omega arith)
      ∙ (get_or-drop (suc m) w.flags (VERB_FLAG - suc m) 0
      ∙ (subst (λ i. slice_index w.flags i ≡ flag w VERB_FLAG) (sym there) refl ∙ k))
