-- What the words of a world leave and what they change, for proofs about code that uses a world.
use Rattle.std.proofs.Common.{◌≡◌, ◌≢◌, ℕ, suc, ◌+◌, ◌-◌, ◌<◌, ◌≤◌, Bool, true, false, List, ◌++◌, length, take, drop}
use Rattle.std.proofs.Common.{min, Option, None, Some, inl}
use Rattle.std.proofs.Common.{inr, refl, sym, ap, ◌∙◌, subst, arith, get_or, set, length-append, length-drop}
use Rattle.std.specs.Prelude.{if◌then◌else◌, ◌==◌}
use Rattle.std.specs.Option.{option_map_or}
use Rattle.std.proofs.lemmas.List.{length-set, length-map, length-take-le, get_or-set_same, get_or-set_other}
use Rattle.std.proofs.lemmas.List.{set-get_or}
use Rattle.std.proofs.lemmas.Bool.{cases_eq}
use Rattle.std.proofs.lemmas.Bool.Decides.{nat_tests}
use Rattle.paw_base.specs.Bytes.{ObjectPlaces}
use Rattle.paw_base.specs.declared.parts.ObjectFacts.{ObjectFacts}
use Rattle.paw_base.specs.declared.places.TheConstants.{CARRIED_PLACE}
use Rattle.paw_base.specs.declared.flags.TheConstants.{CARRIED_FLAG}
use Rattle.paw_base.specs.declared.limits.TheConstants.{OBJECT_LIMIT, FLAG_COUNT, POSITION_COUNT}
use Rattle.paw_world.specs.World.{World, Position, flag, with_flag, place, with_place, flags_with, first_carried}
use Rattle.paw_world.specs.World.{opening_places}
use Rattle.paw_world.specs.World.{with_objects_returned, starting_world, world_restarted, let_go, taken_up, object_moved, position_saved}
use Rattle.paw_world.specs.World.{saved_position_loaded, at_position}
use Rattle.paw_world.specs.World.{drawn_on, position_of, kept_position, position_kept, IsPosition, IsSavedFor, AreSavedFor}
use Rattle.paw_world.specs.World.{IsWorld}
use Rattle.paw_world.specs.inner.World.{taken_back, kept_position_loaded, with_kept}
use Rattle.paw_world.proofs.Kept.{kept_with, kept_alike, none_kept}

-- ---- a flag that was given a value
pub flag-with_flag_same : (w : World) (f x : ℕ) → IsWorld w → f < FLAG_COUNT → flag (with_flag w f x) f ≡ x
flag-with_flag_same w f x sound small = get_or-set_same w.flags f x 0 (omega (arith, sound.flags))

pub flag-with_flag_other : (w : World) (f x g : ℕ) → g ≢ f → flag (with_flag w f x) g ≡ flag w g
flag-with_flag_other w f x g other = get_or-set_other w.flags f g x 0 other

-- ---- a world after a change is a world
pub IsWorld-with_flag : (w : World) (f x : ℕ) → IsWorld w → IsWorld (with_flag w f x)
IsWorld-with_flag w f x sound =
    record { objects = sound.objects; facts = sound.facts; flags = length-set w.flags f x ∙ sound.flags; saved = sound.saved; kept = sound.kept }

same_count : (w : World) (places : ObjectPlaces) → length places ≡ length w.places → IsWorld w → IsWorld (record w { places = places })
same_count w places same sound = record {
  objects = omega (arith, sound.objects);
  facts = sound.facts ∙ sym same;
  flags = sound.flags;
  saved = let P : ℕ → Type 0 = λ n. IsSavedFor n w.saved in subst P (sym same) sound.saved;
  kept = let P : ℕ → Type 0 = λ n. AreSavedFor n w.kept in subst P (sym same) sound.kept;
}

pub IsWorld-with_place : (w : World) (o p : ℕ) → IsWorld w → IsWorld (with_place w o p)
IsWorld-with_place w o p sound = same_count w (set w.places o p) (length-set w.places o p) sound

either : (P : World → Type 0) (b : Bool) (v w : World) → P v → P w → P (if b then v else w)
either P true v w left right = left
either P false v w left right = right

IsWorld-let_go : (w : World) (p : ℕ) → IsWorld w → IsWorld (let_go w p)
IsWorld-let_go w p sound =
    let P : World → Type 0 = λ v. IsWorld v in
    either P (p == CARRIED_PLACE) (with_flag w CARRIED_FLAG (flag w CARRIED_FLAG - 1)) w
    (IsWorld-with_flag w CARRIED_FLAG (flag w CARRIED_FLAG - 1) sound) sound

IsWorld-taken_up : (w : World) (p : ℕ) → IsWorld w → IsWorld (taken_up w p)
IsWorld-taken_up w p sound =
    let P : World → Type 0 = λ v. IsWorld v in
    let x = min 255 (flag w CARRIED_FLAG + 1) in
    either P (p == CARRIED_PLACE) (with_flag w CARRIED_FLAG x) w (IsWorld-with_flag w CARRIED_FLAG x sound) sound

pub IsWorld-moved : (w : World) (o p : ℕ) → IsWorld w → IsWorld (object_moved w o p)
IsWorld-moved w o p sound =
    let P : World → Type 0 = λ v. IsWorld v in
    let v = taken_up (let_go w (place w o)) p in
    either P (place w o == p) w (with_place v o p) sound
    (IsWorld-with_place v o p (IsWorld-taken_up (let_go w (place w o)) p (IsWorld-let_go w (place w o) sound)))

pub IsWorld-ramsaved : (w : World) → IsWorld w → IsWorld (position_saved w)
IsWorld-ramsaved w sound =
    record { objects = sound.objects; facts = sound.facts; flags = sound.flags; saved = record { flags = sound.flags; places = refl }; kept = sound.kept }

loaded : (w : World) (n : ℕ) (saved : Option Position) → n < FLAG_COUNT → IsSavedFor (length w.places) saved → IsWorld w
    → IsWorld (option_map_or (at_position w n) saved w)
loaded w n None small alike sound = sound
loaded w n (Some q) small alike sound =
    let front : length (take (suc n) q.flags) ≡ suc n = length-take-le (suc n) q.flags (omega (arith, alike.flags)) in
    same_count (record w { flags = take (suc n) q.flags ++ drop (suc n) w.flags }) q.places alike.places (record {
      objects = sound.objects;
      facts = sound.facts;
      flags = omega (arith, length-append (take (suc n) q.flags) (drop (suc n) w.flags), length-drop (suc n) w.flags, sound.flags);
      saved = sound.saved;
      kept = sound.kept;
    })

pub IsWorld-ramloaded : (w : World) (n : ℕ) → n < FLAG_COUNT → IsWorld w → IsWorld (saved_position_loaded w n)
IsWorld-ramloaded w n small sound = loaded w n w.saved small sound.saved sound

pub IsWorld-with_kept : (w : World) (n : ℕ) (q : Position) → IsPosition (length w.places) q → IsWorld w → IsWorld (with_kept w n q)
IsWorld-with_kept w n q alike sound = record {
  objects = sound.objects;
  facts = sound.facts;
  flags = sound.flags;
  saved = sound.saved;
  kept = kept_with (length w.places) w.kept n q alike sound.kept;
}

pub IsWorld-position_kept : (w : World) (n : ℕ) → IsWorld w → IsWorld (position_kept w n)
IsWorld-position_kept w n sound = IsWorld-with_kept w n (position_of w) (record { flags = sound.flags; places = refl }) sound

placed : (w : World) (kept : Option Position) → IsSavedFor (length w.places) kept → IsWorld w → IsWorld (option_map_or (taken_back w) kept w)
placed w None alike sound = sound
placed w (Some q) alike sound = same_count (record w { flags = q.flags }) q.places alike.places
    (record { objects = sound.objects; facts = sound.facts; flags = alike.flags; saved = sound.saved; kept = sound.kept })

pub IsWorld-recalled : (w : World) (n : ℕ) → n < POSITION_COUNT → IsWorld w → IsWorld (kept_position_loaded w n)
IsWorld-recalled w n few sound = placed w (kept_position w n) (kept_alike (length w.places) w.kept n few sound.kept) sound

pub IsWorld-drawn_on : (w : World) (n : ℕ) → IsWorld w → IsWorld (drawn_on w n)
IsWorld-drawn_on w n sound = record { objects = sound.objects; facts = sound.facts; flags = sound.flags; saved = sound.saved; kept = sound.kept }

length-flags_with : (carried : ℕ) → length (flags_with carried) ≡ FLAG_COUNT
unfolding flags_with
length-flags_with carried = refl

pub IsWorld-opened : (facts : List ObjectFacts) (locations seed : ℕ) → length facts ≤ OBJECT_LIMIT → IsWorld (starting_world facts locations seed)
IsWorld-opened facts locations seed few = record {
  objects = omega (arith, length-map facts (λ (f : ObjectFacts). f.start));
  facts = sym (length-map facts (λ (f : ObjectFacts). f.start));
  flags = length-flags_with _;
  saved = tt;
  kept = none_kept _;
}

pub IsWorld-restarted : (w : World) → IsWorld w → IsWorld (world_restarted w)
IsWorld-restarted w sound =
    let same = length-map w.facts (λ (f : ObjectFacts). f.start) in
    record {
      objects = omega (arith, same, sound.facts, sound.objects);
      facts = sym same;
      flags = length-flags_with _;
      saved = let P : ℕ → Type 0 = λ n. IsSavedFor n w.saved in subst P (sym (same ∙ sound.facts)) sound.saved;
      kept = let P : ℕ → Type 0 = λ n. AreSavedFor n w.kept in subst P (sym (same ∙ sound.facts)) sound.kept;
    }

pub IsWorld-with_objects_returned : (w : World) → IsWorld w → IsWorld (with_objects_returned w)
IsWorld-with_objects_returned w sound =
    same_count (with_flag w CARRIED_FLAG (first_carried w.facts)) (opening_places w.facts)
    (length-map w.facts (λ (f : ObjectFacts). f.start) ∙ sound.facts)
    (IsWorld-with_flag w CARRIED_FLAG (first_carried w.facts) sound)

-- ---- an object that was moved, and the others
places-let_go : (w : World) (p : ℕ) → (let_go w p).places ≡ w.places
places-let_go w p =
    let P : World → Type 0 = λ v. v.places ≡ w.places in
    either P (p == CARRIED_PLACE) (with_flag w CARRIED_FLAG (flag w CARRIED_FLAG - 1)) w refl refl

places-taken_up : (w : World) (p : ℕ) → (taken_up w p).places ≡ w.places
places-taken_up w p =
    let P : World → Type 0 = λ v. v.places ≡ w.places in
    either P (p == CARRIED_PLACE) (with_flag w CARRIED_FLAG (min 255 (flag w CARRIED_FLAG + 1))) w refl refl

taken_where_same : (a b : ℕ) (v w : World) → a ≡ b → (if a == b then v else w) ≡ v
taken_where_same a b v w same = grind (arith, nat_tests)

taken_where_other : (a b : ℕ) (v w : World) → a ≢ b → (if a == b then v else w) ≡ w
taken_where_other a b v w other = grind (arith, nat_tests)

-- Whether it stood there before or not, the places are those with this one written.
pub places-moved : (w : World) (o p : ℕ) → (object_moved w o p).places ≡ set w.places o p
places-moved w o p =
    let v = with_place (taken_up (let_go w (place w o)) p) o p in
    elim (cases_eq (place w o) p) [
      | inl same ↦ ap (λ (u : World). u.places) (taken_where_same (place w o) p w v same)
          ∙ sym (ap (set w.places o) (sym same) ∙ set-get_or w.places o 0)
      | inr other ↦ ap (λ (u : World). u.places) (taken_where_other (place w o) p w v other)
          ∙ ap (λ (l : ObjectPlaces). set l o p) (places-taken_up (let_go w (place w o)) p ∙ places-let_go w (place w o))
    ]

pub place-moved_same : (w : World) (o p : ℕ) → o < length w.places → place (object_moved w o p) o ≡ p
place-moved_same w o p known = ap (λ (l : ObjectPlaces). get_or l o 0) (places-moved w o p) ∙ get_or-set_same w.places o p 0 known

pub place-moved_other : (w : World) (o p k : ℕ) → k ≢ o → place (object_moved w o p) k ≡ place w k
place-moved_other w o p k other = ap (λ (l : ObjectPlaces). get_or l k 0) (places-moved w o p) ∙ get_or-set_other w.places o k p 0 other

pub length-moved : (w : World) (o p : ℕ) → length (object_moved w o p).places ≡ length w.places
length-moved w o p = ap length (places-moved w o p) ∙ length-set w.places o p
