-- What a condact does to the world of a game that is played.
use Rattle.std.proofs.Common.{◌≡◌, ℕ, suc, ◌+◌, ◌-◌, ◌<◌, ◌%◌, Bool, true, false, ◌||◌, List, [], ◌∷◌, Option, Some}
use Rattle.std.proofs.Common.{None, inl, inr}
use Rattle.std.proofs.Common.{refl, sym, ap, ◌∙◌, subst, length, take, drop, slice_get, IsTrue, arith}
use Rattle.std.specs.Option.{option_or, option_map_or}
use Rattle.std.specs.Prelude.{find, if◌then◌else◌, nat_lt, IfSome, fold, sum_by, slice_index, All}
use Rattle.std.proofs.Math.Nat.{min-le_left}
use Rattle.std.proofs.lemmas.Bool.{cases_lt, ltb-true}
use Rattle.std.proofs.lemmas.Option.{slice_get_within, get_or_from_slice_get, same_Some}
use Rattle.std.proofs.lemmas.Bool.Decides.{nat_tests}
use Rattle.std.proofs.lemmas.List.{length-map, length-append, length-take, length-drop, length-set, get_or_past}
use Rattle.std.proofs.lemmas.List.Elements.{All-take, All-drop, All-append, All-set}
use Rattle.paw_base.specs.Bytes.{RoutineAnswers, Seed, Bytes}
use Rattle.paw_base.specs.declared.words.TheConstants.{NO_WORD}
use Rattle.paw_base.specs.declared.places.TheConstants.{WORN_PLACE, CARRIED_PLACE, NOT_CREATED_PLACE, HERE_PLACE}
use Rattle.paw_base.specs.declared.flags.TheConstants.{REFERRED_FLAG, REFERRED_PLACE_FLAG, REFERRED_WEIGHT_FLAG}
use Rattle.paw_base.specs.declared.flags.TheConstants.{REFERRED_CONTAINER_FLAG, REFERRED_WEARABLE_FLAG, LOCATION_FLAG}
use Rattle.paw_base.specs.declared.flags.TheConstants.{VERB_FLAG}
use Rattle.paw_base.specs.declared.codes.TheConstants.{PLACE, PUTO, AUTOP, PUTIN}
use Rattle.paw_base.specs.declared.parts.Condact.{Condact}
use Rattle.paw_base.specs.declared.parts.ObjectFacts.{ObjectFacts}
use Rattle.paw_base.specs.declared.rows.ParamKind.TheVariants as kind
use Rattle.paw_base.specs.Condacts.{condact_lines, line_of, plain_line, is_indirect, first_kind, second_kind}
use Rattle.paw_game.specs.declared.parts.ObjectRow.{ObjectRow}
use Rattle.paw_game.specs.Game.{GameLists, counts_of}
use Rattle.paw_game.specs.Tables.{exit_at}
use Rattle.paw_game.specs.Valid.{Valid, is_argument, is_parameter, is_within}
use Rattle.paw_game.specs.inner.Valid.{is_right}
use Rattle.paw_game.proofs.ValidGames.{exit-leads}
use Rattle.paw_game.proofs.Right.{right-first, right-second}
use Rattle.paw_world.specs.World.{World, Position, is_somewhere, flag, with_flag, place, object_moved}
use Rattle.paw_world.specs.World.{at_position}
use Rattle.paw_world.specs.World.{drawn_on, position_of, position_kept, kept_position}
use Rattle.paw_world.specs.Draws.{random_word}
use Rattle.paw_routines.specs.Answers.{value_in}
use Rattle.paw_world.specs.Weight.{weight, carried_weight, objects_at}
use Rattle.paw_effects.specs.Chance.{percent_drawn}
use Rattle.paw_effects.specs.Positions.{position_loaded}
use Rattle.paw_effects.specs.MoveActions.{names_place}
use Rattle.paw_effects.specs.Presence.{named_place}
use Rattle.paw_effects.specs.declared.object_actions.Action.{Action}
use Rattle.paw_effects.specs.declared.object_actions.Action.TheVariants as action
use Rattle.paw_effects.specs.declared.object_search.Spot.{Spot}
use Rattle.paw_effects.specs.declared.object_search.Spot.TheVariants as spot
use Rattle.paw_effects.specs.declared.object_search.Spot.TheVariants.{Here, At}
use Rattle.paw_effects.specs.declared.object_words.ObjectReply.{ObjectReply}
use Rattle.paw_effects.specs.ObjectActions.{first_that_holds, hindrances, destination, action_tried, acted_on}
use Rattle.paw_effects.specs.ObjectSearch.{fits_sentence, names as names_facts, least_fitting, fitting_at}
use Rattle.paw_effects.specs.ObjectSearch.{first_fitting}
use Rattle.paw_effects.specs.AutoActions.{looks_at, acted_on_found}
use Rattle.paw_effects.specs.Referring.{object_referred, referred_to_none, with_referred_facts, flag_of_fact}
use Rattle.paw_effects.specs.Meanings.{Meaning, Tests, Acts}
use Rattle.paw_effects.specs.Effects.{done_by}
use Rattle.paw_effects.specs.Story.{story_of}
use Rattle.paw_effects.specs.Holds.{answers, tested_by}
use Rattle.paw_effects.specs.Standing.{AreBytes}
use Rattle.paw_effects.specs.inner.Standing.{IsPositionOf, MayBePosition}
use Rattle.paw_effects.proofs.Worlds.{byte_at, IsWorldAt, IsPlace, few_locations, few_objects}
use Rattle.paw_effects.proofs.Worlds.{later, flag_small}
use Rattle.paw_effects.proofs.Worlds.{flagged, place_of, place_is_small, here_place, named, moved_so, weight_small}

module _ (g : GameLists) (v : Valid g) (seed : Seed) (n : ℕ) where
  abbrev pub Is : World → Type 0
  Is w = IsWorldAt g seed n w

  abbrev pub IsNext : World → Type 0
  IsNext w = IsWorldAt g seed (suc n) w

  pub next : (w : World) → Is w → IsNext w
  next w k = later g v seed n w k (suc n) (omega arith)

  -- ---- actions ----

  pub loaded_so : (w : World) (m : ℕ) (saved : Option Position) → IfSome saved (IsPositionOf g) → Is w → Is (option_map_or (at_position w m) saved w)
  loaded_so w m None at k = k
  loaded_so w m (Some q) at k = record {
    of = record {
      facts = k.of.facts;
      locations = k.of.locations;
      flags =
          omega (
            arith,
            length-append (take (suc m) q.flags) (drop (suc m) w.flags),
            length-take (suc m) q.flags,
            length-drop (suc m) w.flags,
            at.flags,
            k.of.flags,
          );
      places = at.each;
    };
    places = at.places;
    flags =
        All-append (λ b. b < 256) (take (suc m) q.flags) (drop (suc m) w.flags)
        (All-take (λ b. b < 256) (suc m) q.flags at.bytes) (All-drop (λ b. b < 256) (suc m) w.flags k.flags);
    saved = k.saved;
    four = k.four;
    kept = k.kept;
    seeded = k.seeded;
    draws = k.draws;
  }

  -- Flags and places of a world are a position.
  now_kept : (w : World) → Is w → IsPositionOf g (position_of w)
  now_kept w k = record { flags = k.of.flags; bytes = k.flags; each = k.of.places; places = k.places }

  pub saved_so : (w : World) → Is w → Is (record w { saved = Some (record { flags = w.flags; places = w.places }) })
  saved_so w k = record {
    of = record { facts = k.of.facts; locations = k.of.locations; flags = k.of.flags; places = k.of.places };
    places = k.places;
    flags = k.flags;
    saved = now_kept w k;
    four = k.four;
    kept = k.kept;
    seeded = k.seeded;
    draws = k.draws;
  }

  pub drawn_so : (w : World) → Is w → IsNext (drawn_on w 1)
  drawn_so w k = record {
    of = record { facts = k.of.facts; locations = k.of.locations; flags = k.of.flags; places = k.of.places };
    places = k.places;
    flags = k.flags;
    saved = k.saved;
    four = k.four;
    kept = k.kept;
    seeded = k.seeded;
    draws = omega (arith, k.draws);
  }

  -- ---- kept positions ----

  -- Where the number is none of the four there is none.
  pub kept_at : (w : World) → Is w → (m : ℕ) → MayBePosition g (kept_position w m)
  kept_at w k m = elim (cases_lt m (length w.kept)) [
    | inl low ↦ k.kept m None low
    | inr past ↦ subst (MayBePosition g) (sym (get_or_past w.kept m None past)) tt
  ]

  pub position_kept_so : (w : World) → Is w → (m : ℕ) → Is (position_kept w m)
  position_kept_so w k m = record {
    of = record { facts = k.of.facts; locations = k.of.locations; flags = k.of.flags; places = k.of.places };
    places = k.places;
    flags = k.flags;
    saved = k.saved;
    four = length-set w.kept m (Some (position_of w)) ∙ k.four;
    kept = All-set (MayBePosition g) w.kept m (Some (position_of w)) (now_kept w k) k.kept;
    seeded = k.seeded;
    draws = k.draws;
  }

  pub back_so : (w : World) → Is w → (q : Option Position) → MayBePosition g q → Is (position_loaded g w q).world
  back_so w k None at = k
  back_so w k (Some q) at = record {
    of = record { facts = k.of.facts; locations = k.of.locations; flags = at.flags; places = at.each };
    places = at.places;
    flags = at.bytes;
    saved = k.saved;
    four = k.four;
    kept = k.kept;
    seeded = k.seeded;
    draws = k.draws;
  }

  pub rolled_small : (w : World) → percent_drawn w < 256
  rolled_small w = of_hundred (random_word w.seed w.draws)
    where
      of_hundred : (x : ℕ) → 1 + x % 100 < 256
      of_hundred x = omega arith

  -- A flag of a world is given a byte.
  pub flag_so : (w : World) → Is w → (f x : ℕ) → x < 256 → IsNext (with_flag w f x)
  flag_so w k f x small = flagged g v seed (suc n) w (next w k) f x small

  -- Two flags are given bytes.
  pub flags_so : (w : World) → Is w → (f x h y : ℕ) → x < 256 → y < 256 → IsNext (with_flag (with_flag w f x) h y)
  flags_so w k f x h y small little = flagged g v seed (suc n) (with_flag w f x) (flag_so w k f x small) h y little

  pub carried_small : (w : World) → carried_weight w < 256
  carried_small w = omega (arith, min-le_left 255 (sum_by (weight w) (objects_at w WORN_PLACE) + sum_by (weight w) (objects_at w CARRIED_PLACE)))

  -- ---- moves ----

  pub all_so : (p : ℕ) → IsPlace g v seed p → (objects : List ℕ) (w : World) → Is w → Is (fold (λ u o. object_moved u o p) w objects)
  all_so p at [] w k = k
  all_so p at (o ∷ objects) w k = all_so p at objects (object_moved w o p) (moved_so g v seed n w k o p at)

  -- What a parameter of this code may be.
  first_of : (c : Condact) (code : ℕ) → c.code ≡ code → is_right g c ≡ true → IsTrue (is_argument g (first_kind code) c.a)
  first_of c code is kept = subst (λ k. IsTrue (is_argument g (first_kind k) c.a)) is (right-first g c kept)

  second_of : (c : Condact) (code : ℕ) → c.code ≡ code → is_right g c ≡ true → IsTrue (is_argument g (second_kind code) c.b)
  second_of c code is kept = subst (λ k. IsTrue (is_argument g (second_kind k) c.b)) is (right-second g c kept)

  pub place_is : (c : Condact) → c.code ≡ PLACE → is_right g c ≡ true → IsTrue (is_parameter (counts_of g) g.words kind.Place c.b)
  unfolding condact_lines line_of plain_line is_indirect
  place_is c is kept = second_of c PLACE is kept

  pub puto_is : (c : Condact) → c.code ≡ PUTO → is_right g c ≡ true → IsTrue (is_parameter (counts_of g) g.words kind.Place c.a)
  unfolding condact_lines line_of plain_line is_indirect
  puto_is c is kept = first_of c PUTO is kept

  location_place : (x : ℕ) → IsTrue (is_parameter (counts_of g) g.words kind.Location x) → IsPlace g v seed x
  location_place x h = let low : x < length g.locations = ltb-true x (length g.locations) h in grind (arith, nat_tests)

  pub autop_is : (c : Condact) → c.code ≡ AUTOP → is_right g c ≡ true → IsPlace g v seed c.a
  unfolding condact_lines line_of plain_line is_indirect
  autop_is c is kept = location_place c.a (first_of c AUTOP is kept)

  pub putin_is : (c : Condact) → c.code ≡ PUTIN → is_right g c ≡ true → IsPlace g v seed c.b
  unfolding condact_lines line_of plain_line is_indirect
  putin_is c is kept = location_place c.b (second_of c PUTIN is kept)

  pub not_created : IsPlace g v seed NOT_CREATED_PLACE
  not_created = let few = (few_locations g v).1 in grind (arith, nat_tests)

  pub names : (w : World) → Is w → (p : ℕ) → names_place w p ≡ true → IsPlace g v seed (named_place w p)
  names w k p h = named g v seed n w k p (subst (λ l. (nat_lt p l || is_within NOT_CREATED_PLACE HERE_PLACE p) ≡ true) k.of.locations h)

  pub to : (w : World) → Is w → (o p : ℕ) → IsPlace g v seed p → IsNext (object_moved w o p)
  to w k o p at = next _ (moved_so g v seed n w k o p at)

  pub if_so : (b : Bool) (x y : World) → (b ≡ true → IsNext x) → IsNext y → IsNext (if b then x else y)
  if_so true x y h k = h refl
  if_so false x y h k = k

  -- ---- referring ----

  class_small : (b : Bool) → flag_of_fact b < 256
  class_small true = omega arith
  class_small false = omega arith

  facts_so : (w : World) → Is w → (o : ℕ) (f : Option ObjectFacts) → Is (with_referred_facts w o f)
  facts_so w k o None = k
  facts_so w k o (Some f) =
      let heavy : World = with_flag w REFERRED_WEIGHT_FLAG (weight w o) in
      let heavy_so : Is heavy = flagged g v seed n w k REFERRED_WEIGHT_FLAG (weight w o)
      (weight_small g v seed n w k o) in
      flagged g v seed n (with_flag heavy REFERRED_CONTAINER_FLAG (flag_of_fact f.container))
      (flagged g v seed n heavy heavy_so REFERRED_CONTAINER_FLAG (flag_of_fact f.container) (class_small f.container))
      REFERRED_WEARABLE_FLAG (flag_of_fact f.wearable) (class_small f.wearable)

  pub referred_so : (w : World) → Is w → (o : ℕ) → o < 256 → Is (object_referred w o)
  referred_so w k o small =
      facts_so (with_flag (with_flag w REFERRED_FLAG o) REFERRED_PLACE_FLAG (place w o))
      (flagged g v seed n (with_flag w REFERRED_FLAG o) (flagged g v seed n w k REFERRED_FLAG o small)
      REFERRED_PLACE_FLAG (place w o) (place_is_small g v seed n w k o)) o (slice_get w.facts o)

  -- ---- actions on objects ----

  none_so : (w : World) → Is w → Is (referred_to_none w)
  none_so w k =
      let set : (u : World) → Is u → (f x : ℕ) → x < 256 → Is (with_flag u f x) = λ u. flagged g v seed n u in
      set _ (set _ (set _ (set _ (set w k REFERRED_FLAG NO_WORD (omega arith)) REFERRED_PLACE_FLAG NOT_CREATED_PLACE (omega arith))
      REFERRED_WEIGHT_FLAG 0 (omega arith))
      REFERRED_CONTAINER_FLAG 0 (omega arith)) REFERRED_WEARABLE_FLAG 0 (omega arith)

  -- A container of an action is a place.
  abbrev pub PutsAt : Action → Type 0
  PutsAt action.Get = Unit {0}
  PutsAt action.Drop = Unit {0}
  PutsAt action.Wear = Unit {0}
  PutsAt action.Remove = Unit {0}
  PutsAt (action.PutIn l) = IsPlace g v seed l
  PutsAt (action.TakeOut l) = Unit {0}

  pub record Puts (a : Action) : Type 0 where
    pub at : PutsAt a

  held_place : (p : ℕ) → is_within NOT_CREATED_PLACE CARRIED_PLACE p ≡ true → IsPlace g v seed p
  held_place p h = let few = (few_locations g v).1 in grind (arith, nat_tests)

  destination_place : (w : World) → Is w → (a : Action) → PutsAt a → IsPlace g v seed (destination w a)
  destination_place w k action.Get p = held_place CARRIED_PLACE refl
  destination_place w k action.Drop p = here_place g v seed n w k
  destination_place w k action.Wear p = held_place WORN_PLACE refl
  destination_place w k action.Remove p = held_place CARRIED_PLACE refl
  destination_place w k (action.PutIn l) p = p
  destination_place w k (action.TakeOut l) p = held_place CARRIED_PLACE refl

  tried_so : (w : World) → Is w → (o : ℕ) (a : Action) (said : Option ObjectReply) → Puts a → Is (action_tried g w o a said).world
  tried_so w k o a (Some said) p = k
  tried_so w k o a None p = moved_so g v seed n w k o (destination w a) (destination_place w k a p.at)

  pub acted_so : (w : World) → Is w → (o : ℕ) (a : Action) → o < 256 → Puts a → Is (acted_on g w o a).world
  acted_so w k o a small p = tried_so (object_referred w o) (referred_so w k o small) o a (first_that_holds (hindrances (object_referred w o) o a)) p

  found_so : (w : World) → Is w → (a : Action) (found : Option ℕ) → Puts a → ((o : ℕ) → found ≡ Some o → o < 256) → Is (acted_on_found g w a found).world
  found_so w k a (Some o) p small = acted_so w k o a (small o refl) p
  found_so w k a None p small = k

  pub meant_so : (w : World) → Is w → (found : Option ℕ) → ((o : ℕ) → found ≡ Some o → o < 256)
      → Is (option_map_or (object_referred w) found (referred_to_none w))
  meant_so w k (Some o) small = referred_so w k o (small o refl)
  meant_so w k None small = none_so w k

  -- An object that fits is one of the game's.
  fits_small : (w : World) → Is w → (o : ℕ) → fits_sentence w o ≡ true → o < 256
  fits_small w k o h = go (slice_get w.facts o) refl h
    where
      count : length w.facts ≡ length g.objects
      count = ap length k.of.facts ∙ length-map g.objects (λ (r : ObjectRow). r.facts)

      go : (f : Option ObjectFacts) → slice_get w.facts o ≡ f → option_map_or (names_facts w) f false ≡ true → o < 256
      go None e q = cc
      go (Some f) e q = omega (arith, slice_get_within w.facts o f e, count, few_objects g v)

  found_fits : (p : ℕ → Bool) (os : List ℕ) (o : ℕ) → find p os ≡ Some o → p o ≡ true
  found_fits p [] o e = cc
  found_fits p (x ∷ os) o e = go (p x) refl e (found_fits p os o)
    where
      go : (b : Bool) → p x ≡ b → ◌≡◌ {A = Option ℕ} (if b then Some x else find p os) (Some o) → (find p os ≡ Some o → p o ≡ true) → p o ≡ true
      go true q h later = let is : x ≡ o = cc in subst (λ y. p y ≡ true) is q
      go false q h later = later h

  spot_small : (w : World) → Is w → (s : Spot) (o : ℕ) → fitting_at w s ≡ Some o → o < 256
  spot_small w k spot.Here o e = go (is_somewhere w) e
    where
      go : (b : Bool) → ◌≡◌ {A = Option ℕ} (if b then least_fitting w (flag w LOCATION_FLAG) else None)
          (Some o) → o < 256
      go true h = fits_small w k o (found_fits (fits_sentence w) (objects_at w (flag w LOCATION_FLAG)) o h)
      go false h = cc
  spot_small w k (spot.At p) o e = fits_small w k o (found_fits (fits_sentence w) (objects_at w p) o e)

  pub first_small : (w : World) → Is w → (spots : List Spot) (o : ℕ) → first_fitting w spots ≡ Some o → o < 256
  first_small w k [] o e = cc
  first_small w k (s ∷ spots) o e = go (fitting_at w s) refl e (first_small w k spots o)
    where
      go : (x : Option ℕ) → fitting_at w s ≡ x → option_or x (first_fitting w spots) ≡ Some o → (first_fitting w spots ≡ Some o → o < 256) → o < 256
      go (Some y) q h later = spot_small w k s o (q ∙ h)
      go None q h later = later h

  -- ---- all actions ----

  -- An answer among lists of bytes is a byte.
  pub value_small : (rows : RoutineAnswers) → All AreBytes rows → (m x y : ℕ) (row : Option Bytes) → slice_get rows m ≡ row →
      value_in row x ≡ Some y → y < 256
  value_small rows bytes m x y None e is = cc
  value_small rows bytes m x y (Some row) e is =
      let at : AreBytes row = subst AreBytes (get_or_from_slice_get rows m row row e) (bytes m row (slice_get_within rows m row e)) in
      subst (λ z. z < 256) (same_Some (slice_index row x) y is) (byte_at row x at)

  pub answered_so : (w : World) → Is w → (f : ℕ) (answer : Option ℕ) → ((y : ℕ) → answer ≡ Some y → y < 256)
      → Is (option_map_or (with_flag w f) answer w)
  answered_so w k f None small = k
  answered_so w k f (Some y) small = flagged g v seed n w k f y (small y refl)

  pub named_so : (w : World) → Is w → (a : Action) → Puts a → IsNext (acted_on_found g w a (first_fitting w (looks_at a))).world
  named_so w k a p = next _ (found_so w k a (first_fitting w (looks_at a)) p (first_small w k (looks_at a)))

  pub swapped_so : (w : World) → Is w → (o m : ℕ) → IsNext (object_moved (object_moved w o (place w m)) m (place w o))
  swapped_so w k o m =
      let first : Is (object_moved w o (place w m)) = moved_so g v seed n w k o (place w m) (place_of g v seed n w k m) in
      next _ (moved_so g v seed n (object_moved w o (place w m)) first m (place w o) (place_of g v seed n w k o))

  pub less_small : (w : World) → Is w → (f x : ℕ) → flag w f - x < 256
  less_small w k f x = let small = flag_small g v seed n w k f in omega (arith, small)

  pub moves_so : (w : World) → Is w → (f : ℕ) (to : Option ℕ) → exit_at g (flag w f) (flag w VERB_FLAG) ≡ to
      → Is (option_map_or (λ x. answers (with_flag w f x) true) to (answers w false)).world
  moves_so w k f None e = k
  moves_so w k f (Some to) e = flagged g v seed n w k f to
      (omega (arith, exit-leads g v (flag w f) (flag w VERB_FLAG) to e, (few_locations g v).1))

  -- ---- each row ----

  -- A condition, and an action of this code, leave a world of the game; they may make a draw.
  abbrev pub SoBy : ℕ → Meaning → Type 0
  SoBy code (Tests tested) = (w : World) (c : Condact) → Is w → IsNext (tested g w c).world
  SoBy code (Acts done) = (X : RoutineAnswers) (w : World) (c : Condact) → c.code ≡ code → All AreBytes X → Is w → is_right g c ≡ true →
      c.a < 256 → c.b < 256 → IsNext (done (story_of g X) w c).world

  pub done_so : (m : Meaning) (X : RoutineAnswers) (w : World) (c : Condact) → SoBy c.code m → All AreBytes X → Is w → is_right g c ≡ true →
      c.a < 256 → c.b < 256 → IsNext (done_by m (story_of g X) w c).world
  done_so (Tests tested) X w c h bytes k kept a b = next w k
  done_so (Acts done) X w c h bytes k kept a b = h X w c refl bytes k kept a b

  pub tested_so : (m : Meaning) (w : World) (c : Condact) → SoBy c.code m → Is w → IsNext (tested_by m g w c).world
  tested_so (Tests tested) w c h k = h w c k
  tested_so (Acts done) w c h k = next w k
