-- Each condact leaves the objects of a world at places of the game.
use Rattle.std.proofs.Common.{◌≡◌, ℕ, ◌==◌, ◌||◌, Bool, true, false, List, [], ◌∷◌, Option, Some, None, refl, sym, ap}
use Rattle.std.proofs.Common.{◌∙◌, subst, map}
use Rattle.std.proofs.Common.{length, slice_get, arith, inl, inr, nat_lt, IsTrue}
use Rattle.std.specs.Prelude.{if◌then◌else◌, fold, slice_index, All}
use Rattle.std.specs.Option.{option_map, option_map_or}
use Rattle.std.proofs.lemmas.Bool.{cases_lt, leb-true}
use Rattle.std.proofs.lemmas.Bool.Decides.{nat_tests}
use Rattle.std.proofs.lemmas.List.{get_or_past}
use Rattle.std.proofs.lemmas.List.Elements.{All-set, All-map, All-replicate}
use Rattle.std.proofs.lemmas.Option.{slice_get-get_or}
use Rattle.paw_base.specs.Bytes.{ObjectPlaces, Seed}
use Rattle.paw_base.specs.declared.places.TheConstants.{NOT_CREATED_PLACE, HERE_PLACE, CARRIED_PLACE}
use Rattle.paw_base.specs.declared.limits.TheConstants.{LOCATION_LIMIT, POSITION_COUNT}
use Rattle.paw_base.specs.declared.codes.TheConstants.{AUTOP, PUTIN, PLACE, PUTO, DOALL}
use Rattle.paw_base.specs.declared.parts.Condact.{Condact}
use Rattle.paw_base.specs.declared.parts.ObjectFacts.{ObjectFacts}
use Rattle.paw_base.specs.declared.rows.ParamKind.{ParamKind}
use Rattle.paw_base.specs.declared.rows.ParamKind.TheVariants as kind
use Rattle.paw_base.specs.Condacts.{condact_lines, line_of, plain_line, is_indirect, first_kind, second_kind}
use Rattle.paw_base.specs.declared.flags.TheConstants.{LOCATION_FLAG, REFERRED_FLAG, REFERRED_PLACE_FLAG}
use Rattle.paw_game.specs.Game.{GameLists}
use Rattle.paw_game.specs.declared.parts.ObjectRow.{ObjectRow}
use Rattle.paw_game.specs.Valid.{Valid, is_argument, is_within, is_place, is_text, rows_are_valid}
use Rattle.paw_game.specs.inner.Valid.{is_right}
use Rattle.paw_game.proofs.ValidGames.{first_of_and, facts-start}
use Rattle.paw_game.proofs.Right.{right-first, right-second}
use Rattle.paw_world.specs.World.{World, Position, flag, with_flag, place, with_place, here, let_go, taken_up, object_moved}
use Rattle.paw_world.specs.World.{opening_places}
use Rattle.paw_world.specs.World.{starting_world, world_restarted, with_objects_returned, at_position, position_of, position_kept}
use Rattle.paw_world.specs.World.{kept_position}
use Rattle.paw_effects.specs.declared.object_actions.Action.{Action}
use Rattle.paw_effects.specs.declared.object_actions.Action.TheVariants as action
use Rattle.paw_effects.specs.declared.object_words.ObjectReply.{ObjectReply}
use Rattle.paw_effects.specs.inner.Worlds.{ArePlacesOf, StandsIn}
use Rattle.paw_effects.specs.Story.{Story}
use Rattle.paw_effects.specs.Positions.{position_loaded, position_number}
use Rattle.paw_effects.specs.Presence.{named_place}
use Rattle.paw_effects.specs.MoveActions.{names_place, moved_if_place}
use Rattle.paw_effects.specs.Referring.{with_referred_facts, object_referred, referred_to_none}
use Rattle.paw_effects.specs.ObjectActions.{destination, first_that_holds, hindrances, action_tried}
use Rattle.paw_effects.specs.AutoActions.{acted_on_found}
use Rattle.paw_effects.specs.Meanings.{Meaning, Tests, Acts}
use Rattle.paw_effects.specs.Effects.{done_by}
use Rattle.paw_effects.specs.Holds.{answers, tested_by}

-- The facts and the number of locations are the game's, and each object stands at a place of it.
abbrev pub IsPlaced : GameLists → World → Type 0
IsPlaced g w = (w.facts ≡ map (λ o. o.facts) g.objects) × ((w.locations ≡ length g.locations)
    × (ArePlacesOf g w.places × (StandsIn g w.saved × All (StandsIn g) w.kept)))

-- What holds in both cases.
pub one_placed : (g : GameLists) (b : Bool) (x y : World) → IsPlaced g x → IsPlaced g y → IsPlaced g (if b then x else y)
one_placed g true x y h k = h
one_placed g false x y h k = k

-- The same, each with its test.
by_test : (g : GameLists) (b : Bool) (x y : World) → (b ≡ true → IsPlaced g x) → (b ≡ false → IsPlaced g y) → IsPlaced g (if b then x else y)
by_test g true x y h k = h refl
by_test g false x y h k = k refl

-- ---- places ----

-- A game has a location.
first_place : (g : GameLists) → Valid g → is_place (length g.locations) 0 ≡ true
first_place g v =
    let some = leb-true 1 (length g.locations) (first_of_and _ (rows_are_valid LOCATION_LIMIT is_text g.locations) v.locations) in
    grind (arith, nat_tests)

pub at_place : (g : GameLists) → Valid g → (places : ObjectPlaces) (o : ℕ) → ArePlacesOf g places → is_place (length g.locations) (slice_index places o) ≡ true
at_place g v places o all =
    elim (cases_lt o (length places)) [
      | inl low ↦ all o 0 low
      | inr past ↦ rw (get_or_past places o 0 past) (first_place g v)
    ]

here_at : (locations f : ℕ) → is_place locations (if nat_lt f locations then f else NOT_CREATED_PLACE) ≡ true
here_at locations f = grind (arith, nat_tests)

pub here_place : (g : GameLists) (w : World) → w.locations ≡ length g.locations → is_place (length g.locations) (here w) ≡ true
here_place g w of =
    subst (λ n. is_place (length g.locations)
    (if nat_lt (flag w LOCATION_FLAG) n then flag w LOCATION_FLAG else NOT_CREATED_PLACE) ≡ true) (sym of)
    (here_at (length g.locations) (flag w LOCATION_FLAG))

place_of : (locations here p : ℕ) → is_place locations here ≡ true → (nat_lt p locations || is_within NOT_CREATED_PLACE HERE_PLACE p) ≡ true →
    is_place locations (if p == HERE_PLACE then here else p) ≡ true
place_of locations here p h k = grind (arith, nat_tests)

-- A place that a parameter names.
pub named_is_place : (g : GameLists) (w : World) (p : ℕ) → w.locations ≡ length g.locations → IsTrue (is_argument g kind.Place p) →
    is_place (length g.locations) (named_place w p) ≡ true
named_is_place g w p of h = place_of (length g.locations) (here w) p (here_place g w of) h

-- ---- moves ----

flag_placed : (g : GameLists) (b : Bool) (w : World) (f x : ℕ) → IsPlaced g w → IsPlaced g (if b then with_flag w f x else w)
flag_placed g true w f x k = k
flag_placed g false w f x k = k

pub moved_placed : (g : GameLists) (w : World) (o p : ℕ) → is_place (length g.locations) p ≡ true → IsPlaced g w → IsPlaced g (object_moved w o p)
moved_placed g w o p at k =
    let left : World = let_go w (place w o) in
    let come : World = taken_up left p in
    let h = flag_placed g (p == CARRIED_PLACE) left 1 _ (flag_placed g (place w o == CARRIED_PLACE) w 1 _ k) in
    one_placed g (place w o == p) w (with_place come o p) k
    (h.0, (h.1.0, (All-set (λ x. IsTrue (is_place (length g.locations) x)) come.places o p at h.1.1.0, h.1.1.1)))

-- ---- the start ----

opening_at : (g : GameLists) → Valid g → ArePlacesOf g (opening_places (map (λ o. o.facts) g.objects))
opening_at g v =
    All-map (λ p. IsTrue (is_place (length g.locations) p)) (λ f. f.start) (map (λ o. o.facts) g.objects)
    (All-map (λ (f : ObjectFacts). IsTrue (is_place (length g.locations) f.start)) (λ o. o.facts) g.objects
    (λ k d low. facts-start g v k _ (ap (option_map (λ (o : ObjectRow). o.facts)) (slice_get-get_or g.objects k d low))))

begins_placed : (g : GameLists) (facts : List ObjectFacts) → Valid g → facts ≡ map (λ o. o.facts) g.objects → ArePlacesOf g (opening_places facts)
begins_placed g facts v is = subst (λ fs. ArePlacesOf g (opening_places fs)) (sym is) (opening_at g v)

pub opened_placed : (g : GameLists) (seed : Seed) → Valid g → IsPlaced g (starting_world (map (λ o. o.facts) g.objects) (length g.locations) seed)
opened_placed g seed v = (refl, (refl, (opening_at g v, (tt, All-replicate (StandsIn g) POSITION_COUNT None tt))))

pub restarted_placed : (g : GameLists) (w : World) → Valid g → IsPlaced g w → IsPlaced g (world_restarted w)
restarted_placed g w v k = (k.0, (k.1.0, (begins_placed g w.facts v k.0, k.1.1.1)))

pub returned_placed : (g : GameLists) (w : World) → Valid g → IsPlaced g w → IsPlaced g (with_objects_returned w)
returned_placed g w v k = (k.0, (k.1.0, (begins_placed g w.facts v k.0, k.1.1.1)))

-- ---- parameters ----

low_place : (locations x : ℕ) → nat_lt x locations ≡ true → is_place locations x ≡ true
low_place locations x h = grind (arith, nat_tests)

-- What the parameters of some codes name.
autop_takes : first_kind AUTOP ≡ kind.Location
unfolding condact_lines line_of plain_line is_indirect
autop_takes = refl

putin_takes : second_kind PUTIN ≡ kind.Location
unfolding condact_lines line_of plain_line is_indirect
putin_takes = refl

pub puto_takes : first_kind PUTO ≡ kind.Place
unfolding condact_lines line_of plain_line is_indirect
puto_takes = refl

pub place_takes : second_kind PLACE ≡ kind.Place
unfolding condact_lines line_of plain_line is_indirect
place_takes = refl

doall_takes : first_kind DOALL ≡ kind.Place
unfolding condact_lines line_of plain_line is_indirect
doall_takes = refl

-- A parameter follows the rule of the kind that its code says.
pub first_follows : (g : GameLists) (c : Condact) (code : ℕ) (k : ParamKind) → first_kind code ≡ k → c.code ≡ code → IsTrue (is_right g c) →
    IsTrue (is_argument g k c.a)
first_follows g c code k takes is kept = subst (λ x. IsTrue (is_argument g x c.a)) (ap first_kind is ∙ takes) (right-first g c kept)

pub second_follows : (g : GameLists) (c : Condact) (code : ℕ) (k : ParamKind) → second_kind code ≡ k → c.code ≡ code → IsTrue (is_right g c) →
    IsTrue (is_argument g k c.b)
second_follows g c code k takes is kept = subst (λ x. IsTrue (is_argument g x c.b)) (ap second_kind is ∙ takes) (right-second g c kept)

-- A loop goes over the objects at a place.
pub doall_place : (g : GameLists) (w : World) (c : Condact) → w.locations ≡ length g.locations → IsTrue (is_right g c) → c.code ≡ DOALL →
    IsTrue (is_place (length g.locations) (named_place w c.a))
doall_place g w c of kept is = named_is_place g w c.a of (first_follows g c DOALL kind.Place doall_takes is kept)

-- ---- actions that move objects ----

pub dropped : (g : GameLists) (p : ℕ) (os : List ℕ) (w : World) → is_place (length g.locations) p ≡ true → IsPlaced g w →
    IsPlaced g (fold (λ v o. object_moved v o p) w os)
dropped g p [] w at k = k
dropped g p (o ∷ os) w at k = dropped g p os (object_moved w o p) at (moved_placed g w o p at k)

pub if_place : (g : GameLists) (w : World) (o p : ℕ) → IsPlaced g w → IsPlaced g (moved_if_place w o p)
if_place g w o p k =
    by_test g (names_place w p) (object_moved w o (named_place w p)) w
    (λ names. moved_placed g w o (named_place w p)
    (named_is_place g w p k.1.0 (subst (λ n. (nat_lt p n || is_within NOT_CREATED_PLACE HERE_PLACE p) ≡ true) k.1.0 names)) k)
    (λ none. k)

pub not_created : (g : GameLists) → is_place (length g.locations) NOT_CREATED_PLACE ≡ true
not_created g = grind (arith, nat_tests)

pub swapped_placed : (g : GameLists) → Valid g → (w : World) (o k : ℕ) → IsPlaced g w → IsPlaced g (object_moved (object_moved w o (place w k)) k (place w o))
swapped_placed g v w o k h =
    let at : (x : ℕ) → is_place (length g.locations) (place w x) ≡ true = λ x. at_place g v w.places x h.1.1.0 in
    moved_placed g (object_moved w o (place w k)) k (place w o) (at o) (moved_placed g w o (place w k) (at k) h)

pub to_placed : (g : GameLists) (w : World) (p : ℕ) → is_place (length g.locations) p ≡ true → IsPlaced g w →
    IsPlaced g (if nat_lt (flag w REFERRED_FLAG) (length w.places) then object_moved w (flag w REFERRED_FLAG) p else w)
to_placed g w p at k = one_placed g (nat_lt (flag w REFERRED_FLAG) (length w.places))
    (object_moved w (flag w REFERRED_FLAG) p) w (moved_placed g w (flag w REFERRED_FLAG) p at k) k

-- ---- actions on objects ----

facts_placed : (g : GameLists) (w : World) (o : ℕ) (f : Option ObjectFacts) → IsPlaced g w → IsPlaced g (with_referred_facts w o f)
facts_placed g w o None k = k
facts_placed g w o (Some f) k = k

pub referred_placed : (g : GameLists) (w : World) (o : ℕ) → IsPlaced g w → IsPlaced g (object_referred w o)
referred_placed g w o k = facts_placed g (with_flag (with_flag w REFERRED_FLAG o) REFERRED_PLACE_FLAG (place w o)) o
    (slice_get w.facts o) k

-- An action puts objects only in at places.
abbrev pub GoesToPlace : GameLists → Action → Type 0
GoesToPlace g action.Get = Unit {0}
GoesToPlace g action.Drop = Unit {0}
GoesToPlace g action.Wear = Unit {0}
GoesToPlace g action.Remove = Unit {0}
GoesToPlace g (action.PutIn l) = is_place (length g.locations) l ≡ true
GoesToPlace g (action.TakeOut l) = Unit {0}

destined : (g : GameLists) (w : World) (a : Action) → w.locations ≡ length g.locations → GoesToPlace g a →
    is_place (length g.locations) (destination w a) ≡ true
destined g w action.Get of h = grind (arith, nat_tests)
destined g w action.Drop of h = here_place g w of
destined g w action.Wear of h = grind (arith, nat_tests)
destined g w action.Remove of h = grind (arith, nat_tests)
destined g w (action.PutIn l) of h = h
destined g w (action.TakeOut l) of h = grind (arith, nat_tests)

pub record Goes (g : GameLists) (a : Action) : Type 0 where
  pub to : GoesToPlace g a

-- The containers of AUTOP and PUTIN are places.
pub autop_goes : (g : GameLists) (c : Condact) → c.code ≡ AUTOP → IsTrue (is_right g c) → Goes g (action.PutIn c.a)
autop_goes g c is r = record { to = low_place (length g.locations) c.a (first_follows g c AUTOP kind.Location autop_takes is r) }

pub putin_goes : (g : GameLists) (c : Condact) → c.code ≡ PUTIN → IsTrue (is_right g c) → Goes g (action.PutIn c.b)
putin_goes g c is r = record { to = low_place (length g.locations) c.b (second_follows g c PUTIN kind.Location putin_takes is r) }

tried_placed : (g : GameLists) (w : World) (o : ℕ) (a : Action) (said : Option ObjectReply) → Goes g a → IsPlaced g w →
    IsPlaced g (action_tried g w o a said).world
tried_placed g w o a (Some said) h k = k
tried_placed g w o a None h k = moved_placed g w o (destination w a) (destined g w a k.1.0 h.to) k

pub acted_placed : (g : GameLists) (w : World) (o : ℕ) (a : Action) → Goes g a → IsPlaced g w →
    IsPlaced g (action_tried g (object_referred w o) o a (first_that_holds (hindrances (object_referred w o) o a))).world
acted_placed g w o a h k = tried_placed g (object_referred w o) o a (first_that_holds (hindrances (object_referred w o) o a)) h (referred_placed g w o k)

pub found_placed : (g : GameLists) (w : World) (a : Action) (found : Option ℕ) → Goes g a → IsPlaced g w → IsPlaced g (acted_on_found g w a found).world
found_placed g w a (Some o) h k = acted_placed g w o a h k
found_placed g w a None h k = k

pub referred_found : (g : GameLists) (w : World) (found : Option ℕ) → IsPlaced g w
    → IsPlaced g (option_map_or (object_referred w) found (referred_to_none w))
referred_found g w (Some o) k = referred_placed g w o k
referred_found g w None k = k

-- ---- positions ----

pub loaded_placed : (g : GameLists) (w : World) (n : ℕ) (saved : Option Position) → w.saved ≡ saved → IsPlaced g w
    → IsPlaced g (option_map_or (at_position w n) saved w)
loaded_placed g w n None is k = k
loaded_placed g w n (Some q) is k =
    (k.0, (k.1.0, (subst (λ s. StandsIn g s) is k.1.1.1.0, k.1.1.1)))

-- ---- positions that are kept ----

pub taken_placed : (g : GameLists) (w : World) (kept : Option Position) → StandsIn g kept → IsPlaced g w → IsPlaced g (position_loaded g w kept).world
taken_placed g w None at k = k
taken_placed g w (Some q) at k = (k.0, (k.1.0, (at, k.1.1.1)))

-- Where the number is none of the four there is nothing to take.
pub kept_stands : (g : GameLists) (w : World) (n : ℕ) → IsPlaced g w → StandsIn g (kept_position w n)
kept_stands g w n k =
    elim (cases_lt n (length w.kept)) [
      | inl low ↦ k.1.1.1.1 n None low
      | inr past ↦ subst (λ q. StandsIn g q) (sym (get_or_past w.kept n None past)) tt
    ]

pub saved_placed : (g : GameLists) (w : World) → IsPlaced g w → IsPlaced g (position_kept w (position_number w))
saved_placed g w k =
    (k.0, (k.1.0, (k.1.1.0, (k.1.1.1.0, All-set (StandsIn g) w.kept (position_number w) (Some (position_of w)) k.1.1.0 k.1.1.1.1))))

pub answered_placed : (g : GameLists) (w : World) (f : ℕ) (answer : Option ℕ) → IsPlaced g w → IsPlaced g (option_map_or (with_flag w f) answer w)
answered_placed g w f None k = k
answered_placed g w f (Some y) k = k

pub moves_placed : (g : GameLists) (w : World) (f : ℕ) (to : Option ℕ) → IsPlaced g w
    → IsPlaced g (option_map_or (λ x. answers (with_flag w f x) true) to (answers w false)).world
moves_placed g w f None k = k
moves_placed g w f (Some to) k = k

-- ---- each row ----

-- A condition, and an action of this code, leave the objects at places of the game.
abbrev pub PlacesBy : ℕ → Meaning → Type 0
PlacesBy code (Tests tested) = (g : GameLists) (w : World) (c : Condact) → IsPlaced g w → IsPlaced g (tested g w c).world
PlacesBy code (Acts done) = (s : Story) (w : World) (c : Condact) → c.code ≡ code → Valid s.game → IsTrue (is_right s.game c) → IsPlaced s.game w →
    IsPlaced s.game (done s w c).world

pub done_placed : (m : Meaning) (s : Story) (w : World) (c : Condact) → PlacesBy c.code m → Valid s.game → IsTrue (is_right s.game c) → IsPlaced s.game w →
    IsPlaced s.game (done_by m s w c).world
done_placed (Tests tested) s w c h v r k = k
done_placed (Acts done) s w c h v r k = h s w c refl v r k

pub tested_placed : (m : Meaning) (g : GameLists) (w : World) (c : Condact) → PlacesBy c.code m → IsPlaced g w → IsPlaced g (tested_by m g w c).world
tested_placed (Tests tested) g w c h k = h g w c k
tested_placed (Acts done) g w c h k = k
