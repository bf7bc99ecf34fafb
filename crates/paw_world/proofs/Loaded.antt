-- What is loaded from the saved position.
use Rattle.std.proofs.Common.{◌≡◌, ℕ, suc, ◌+◌, ◌<◌, List, ◌++◌, length, take, drop, Option, Some, sym, ap, ◌∙◌, arith}
use Rattle.std.proofs.Common.{add-one, length-append, length-drop}
use Rattle.std.specs.Option.{option_map_or}
use Rattle.std.proofs.lemmas.List.{length-take-le}
use Rattle.paw_base.specs.Bytes.{Seed, Bytes, ObjectPlaces}
use Rattle.paw_base.specs.declared.limits.TheConstants.{FLAG_COUNT}
use Rattle.paw_base.specs.declared.parts.ObjectFacts.{ObjectFacts}
use Rattle.paw_world.specs.World.{World, Position, saved_position_loaded, at_position, IsPosition, IsSavedFor}
use Rattle.paw_world.specs.inner.World.{IsStored}

saved_for : (objects : ℕ) (saved : Option Position) (q : Position) → saved ≡ Some q → IsSavedFor objects saved → IsPosition objects q
saved_for objects saved q is alike = rw is at alike

-- The position has as many places, and the flags are as many as before.
pub parts_loaded : (facts : List ObjectFacts) (flags : Bytes) (places : ObjectPlaces) (saved : Option Position)
    (kept : List (Option Position)) (q : Position) (n : ℕ) (front : Bytes) (moved : ObjectPlaces) → IsStored facts flags places saved kept → saved ≡ Some q
    → n < FLAG_COUNT → front ≡ take (n + 1) q.flags → moved ≡ q.places
    → IsStored facts (front ++ drop (n + 1) flags) moved saved kept
parts_loaded facts flags places saved kept q n front moved parts is small first all =
    let alike = saved_for (length places) saved q is parts.saved_alike in
    let same : length moved ≡ length places = ap length all ∙ alike.places in
    let begun : length front ≡ n + 1 = ap length first ∙ length-take-le (n + 1) q.flags (omega (arith, alike.flags)) in
    record {
      objects = omega (arith, parts.objects);
      facts_room = parts.facts_room;
      flags_all = omega (arith, length-append front (drop (n + 1) flags), length-drop (n + 1) flags, parts.flags_all);
      saved_alike = rw same parts.saved_alike;
      kept_alike = rw same parts.kept_alike;
    }

abbrev pub with_parts : List ObjectFacts → ℕ → Option Position → List (Option Position) → ℕ → ℕ → Bytes → ObjectPlaces → ℕ → World
with_parts facts locations saved kept seed draws flags places objects = record {
  facts = take objects facts;
  locations = locations;
  flags = flags;
  places = places;
  saved = saved;
  kept = kept;
  seed = seed;
  draws = draws;
}

pub loaded_is : (facts : List ObjectFacts) (locations : ℕ) (flags : Bytes) (places : ObjectPlaces) (saved : Option Position)
    (kept : List (Option Position)) (seed : Seed) (draws : ℕ) (q : Position) (n : ℕ) (front : Bytes) (moved : ObjectPlaces) → IsSavedFor (length places) saved
    → saved ≡ Some q → front ≡ take (n + 1) q.flags → moved ≡ q.places
    → with_parts facts locations saved kept seed draws (front ++ drop (n + 1) flags) moved (length moved)
    ≡ saved_position_loaded (with_parts facts locations saved kept seed draws flags places (length places)) n
loaded_is facts locations flags places saved kept seed draws q n front moved alike is first all =
    let position = saved_for (length places) saved q is alike in
    let same : length moved ≡ length places = ap length all ∙ position.places in
    let w = with_parts facts locations saved kept seed draws flags places (length places) in
    let flags_are : front ++ drop (n + 1) flags ≡ take (suc n) q.flags ++ drop (suc n) flags =
    ap (λ (l : Bytes). l ++ drop (n + 1) flags) first ∙ ap (λ (k : ℕ). take k q.flags ++ drop k flags) (add-one n) in
    ap (with_parts facts locations saved kept seed draws (front ++ drop (n + 1) flags) moved) same
    ∙ (ap (λ (l : Bytes). with_parts facts locations saved kept seed draws l moved (length places)) flags_are
    ∙ (ap (λ (l : ObjectPlaces). with_parts facts locations saved kept seed draws (take (suc n) q.flags ++ drop (suc n) flags) l (length places)) all
    ∙ sym (ap (λ (found : Option Position). option_map_or (at_position w n) found w) is)))
