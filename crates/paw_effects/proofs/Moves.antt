-- What a change of places leaves of a world, and the objects that are let go one after the other.
use Rattle.std.proofs.Common.{◌≡◌, ℕ, zero, suc, ◌+◌, ◌≤◌, Bool, true, false, ◌||◌, List, [], ◌∷◌, ◌++◌, length, refl}
use Rattle.std.proofs.Common.{sym, subst, ap, ◌∙◌, arith}
use Rattle.std.specs.Prelude.{if◌then◌else◌, ◌==◌, fold, filter, cond}
use Rattle.std.specs.List.{range_with_len}
use Rattle.std.proofs.lemmas.List.{length-set}
use Rattle.std.proofs.lemmas.List.Elements.{filter-append}
use Rattle.std.proofs.lemmas.List.Sums.{fold-append}
use Rattle.paw_base.specs.declared.places.TheConstants.{CARRIED_PLACE, WORN_PLACE}
use Rattle.paw_base.specs.declared.flags.TheConstants.{CARRIED_FLAG}
use Rattle.paw_world.proofs.WorldLemmas.{place-moved_other, length-moved}
use Rattle.paw_game.specs.Game.{GameLists}
use Rattle.paw_world.specs.World.{World, with_flag, place, with_place, let_go, taken_up, object_moved, here}
use Rattle.paw_effects.specs.Worlds.{IsOf}
use Rattle.paw_effects.specs.Presence.{named_place, held_objects, is_held}
use Rattle.paw_effects.specs.MoveActions.{all_dropped, moved_if_place, names_place}

-- The same objects and locations, as many flags and places, and as many draws.
pub record Alike (w v : World) : Type 0 where
  pub facts : v.facts ≡ w.facts
  pub locations : v.locations ≡ w.locations
  pub flags : length v.flags ≡ length w.flags
  pub places : length v.places ≡ length w.places
  pub draws : v.draws ≡ w.draws

Alike-same : (w : World) → Alike w w
Alike-same w = record { facts = refl; locations = refl; flags = refl; places = refl; draws = refl }

Alike-then : (w v u : World) → Alike w v → Alike v u → Alike w u
Alike-then w v u first second = record {
  facts = second.facts ∙ first.facts;
  locations = second.locations ∙ first.locations;
  flags = second.flags ∙ first.flags;
  places = second.places ∙ first.places;
  draws = second.draws ∙ first.draws;
}

Alike-either : (b : Bool) (w v u : World) → Alike w v → Alike w u → Alike w (if b then v else u)
Alike-either true w v u left right = left
Alike-either false w v u left right = right

Alike-with_flag : (w : World) (f x : ℕ) → Alike w (with_flag w f x)
Alike-with_flag w f x = record { facts = refl; locations = refl; flags = length-set w.flags f x; places = refl; draws = refl }

Alike-with_place : (w : World) (o p : ℕ) → Alike w (with_place w o p)
Alike-with_place w o p = record { facts = refl; locations = refl; flags = refl; places = length-set w.places o p; draws = refl }

Alike-let_go : (w : World) (p : ℕ) → Alike w (let_go w p)
Alike-let_go w p = Alike-either (p == CARRIED_PLACE) w _ w (Alike-with_flag w CARRIED_FLAG _) (Alike-same w)

Alike-taken_up : (w : World) (p : ℕ) → Alike w (taken_up w p)
Alike-taken_up w p = Alike-either (p == CARRIED_PLACE) w _ w (Alike-with_flag w CARRIED_FLAG _) (Alike-same w)

pub Alike-moved : (w : World) (o p : ℕ) → Alike w (object_moved w o p)
Alike-moved w o p =
    let gone = let_go w (place w o) in
    let up = taken_up gone p in
    Alike-either (place w o == p) w w (with_place up o p) (Alike-same w)
    (Alike-then w up (with_place up o p) (Alike-then w gone up (Alike-let_go w (place w o)) (Alike-taken_up gone p)) (Alike-with_place up o p))

Alike-all : (p : ℕ) (os : List ℕ) (w : World) → Alike w (fold (λ v o. object_moved v o p) w os)
Alike-all p [] w = Alike-same w
Alike-all p (o ∷ os) w = Alike-then w (object_moved w o p) _ (Alike-moved w o p) (Alike-all p os (object_moved w o p))

pub Alike-all_dropped : (w v : World) → v ≡ all_dropped w → Alike w v
Alike-all_dropped w v is = let P : World → Type 0 = λ u. Alike w u in subst P (sym is) (Alike-all (here w) (held_objects w) w)

pub Alike-moved_if_place : (w v : World) (o p : ℕ) → v ≡ moved_if_place w o p → Alike w v
Alike-moved_if_place w v o p is =
    let P : World → Type 0 = λ u. Alike w u in
    subst P (sym is) (Alike-either (names_place w p) w _ w (Alike-moved w o (named_place w p)) (Alike-same w))

-- A world like that of a game is the game's.
pub IsOf-alike : (g : GameLists) (w v : World) → Alike w v → IsOf g w → IsOf g v
IsOf-alike g w v alike of = record {
  facts = alike.facts ∙ of.facts;
  locations = alike.locations ∙ of.locations;
  flags = alike.flags ∙ of.flags;
  places = alike.places ∙ of.places;
}

range_more : (a n : ℕ) → range_with_len a (suc n) ≡ range_with_len a n ++ (a + n) ∷ []
range_more a zero = let same : a ≡ a + 0 = omega arith in ap (λ (x : ℕ). x ∷ []) same
range_more a (suc n) =
    let same : a + 1 + n ≡ a + suc n = omega arith in
    ap (λ (l : List ℕ). a ∷ l) (range_more (a + 1) n ∙ ap (λ (x : ℕ). range_with_len (a + 1) n ++ x ∷ []) same)

-- What is held of the objects below a number is dropped.
abbrev pub dropped_below : World → ℕ → World
dropped_below w n = fold (λ v o. object_moved v o (here w)) w (filter (is_held w) (range_with_len 0 n))

filter_one : (w : World) (n : ℕ) (b : Bool) → is_held w n ≡ b → filter (is_held w) (n ∷ []) ≡ cond b (n ∷ []) []
filter_one w n b is = ap (λ (x : Bool). cond x (n ∷ []) []) is

dropped_one_more : (w : World) (n : ℕ) (b : Bool) → is_held w n ≡ b
    → dropped_below w (n + 1) ≡ fold (λ v o. object_moved v o (here w)) (dropped_below w n) (cond b (n ∷ []) [])
dropped_one_more w n b is =
    let F : World → ℕ → World = λ v o. object_moved v o (here w) in
    let same : 0 + n ≡ n = omega arith in
    let next : n + 1 ≡ suc n = omega arith in
    let last : range_with_len 0 (n + 1) ≡ range_with_len 0 n ++ n ∷ [] =
    ap (range_with_len 0) next ∙ (range_more 0 n ∙ ap (λ (x : ℕ). range_with_len 0 n ++ x ∷ []) same) in
    ap (λ (os : List ℕ). fold F w (filter (is_held w) os)) last
    ∙ (ap (fold F w) (filter-append (is_held w) (range_with_len 0 n) (n ∷ []))
    ∙ (fold-append F w (filter (is_held w) (range_with_len 0 n)) (filter (is_held w) (n ∷ []))
    ∙ ap (fold F (dropped_below w n)) (filter_one w n b is)))

-- Those below a number are dropped, and the others stand where they stood.
pub record AreDropped (w : World) (n : ℕ) (v : World) : Type 0 where
  pub dropped : v ≡ dropped_below w n
  pub others : (k : ℕ) → n ≤ k → place v k ≡ place w k
  pub count : length v.places ≡ length w.places

pub none_dropped : (w : World) → AreDropped w 0 w
none_dropped w = record { dropped = refl; others = λ k h. refl; count = refl }

same_held : (w v : World) (n : ℕ) → AreDropped w n v → is_held v n ≡ is_held w n
same_held w v n so_far = ap (λ (p : ℕ). (p == WORN_PLACE) || (p == CARRIED_PLACE)) (so_far.others n (omega arith))

pub one_dropped : (w v u : World) (n to : ℕ) → AreDropped w n v → is_held v n ≡ true → to ≡ here w → u ≡ object_moved v n to → AreDropped w (n + 1) u
one_dropped w v u n to so_far held place_is is =
    let same : u ≡ object_moved v n (here w) = is ∙ ap (object_moved v n) place_is in
    record {
      dropped = same
          ∙ (ap (λ (x : World). object_moved x n (here w)) so_far.dropped ∙ sym (dropped_one_more w n true (sym (same_held w v n so_far) ∙ held)));
      others = λ k h. ap (λ (x : World). place x k) same
          ∙ (place-moved_other v n (here w) k (λ equal. absurd (omega arith)) ∙ so_far.others k (omega arith));
      count = ap (λ (x : World). length x.places) same ∙ (length-moved v n (here w) ∙ so_far.count);
    }

pub one_left : (w v u : World) (n : ℕ) → AreDropped w n v → is_held v n ≡ false → u ≡ v → AreDropped w (n + 1) u
one_left w v u n so_far other is = record {
  dropped = is ∙ (so_far.dropped ∙ sym (dropped_one_more w n false (sym (same_held w v n so_far) ∙ other)));
  others = λ k h. ap (λ (x : World). place x k) is ∙ so_far.others k (omega arith);
  count = ap (λ (x : World). length x.places) is ∙ so_far.count;
}
