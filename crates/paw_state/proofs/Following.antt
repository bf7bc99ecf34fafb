-- Rules of states, and faults of fields.
use Rattle.std.proofs.Common.{◌≡◌, ℕ, suc, ◌+◌, ◌-◌, ◌≤◌, ◌==◌, ◌||◌, Bool, true, false, List, [], ◌∷◌, Option, Some}
use Rattle.std.proofs.Common.{None}
use Rattle.std.proofs.Common.{length, map, take, drop, is_some, nat_le, refl, ap, ◌∙◌, subst, arith}
use Rattle.std.specs.Prelude.{All, IfNone, if◌then◌else◌}
use Rattle.std.specs.Option.{option_or, unwrap_or}
use Rattle.std.proofs.lemmas.List.{length-take}
use Rattle.std.proofs.lemmas.List.Elements.{All-cons}
use Rattle.std.proofs.lemmas.Bool.{eqb-true}
use Rattle.paw_base.specs.Bytes.{Bytes, Line, ObjectPlaces}
use Rattle.paw_base.specs.declared.limits.TheConstants.{OBJECT_LIMIT, FLAG_COUNT}
use Rattle.paw_game.specs.Game.{GameLists}
use Rattle.paw_game.specs.Valid.{Valid, is_place}
use Rattle.paw_game.proofs.Counts.{few_objects}
use Rattle.paw_world.specs.World.{Position, IsSavedFor}
use Rattle.paw_effects.specs.declared.act.Prompt.{Prompt}
use Rattle.paw_effects.specs.declared.act.Prompt.TheVariants as prompt
use Rattle.paw_process.specs.declared.kept.Frames.{Frames}
use Rattle.paw_process.specs.Kept.{count_fits}
use Rattle.paw_process.specs.inner.Kept.{fault_at}
use Rattle.paw_process.specs.inner.Kept.{first_frame_fault as machine_rows, loop_fault as machine_loop}
use Rattle.paw_process.proofs.Restored.{no_first as no_machine_first}
use Rattle.paw_state.specs.declared.fields.TheConstants.{POSITION_LENGTH, POSITION_PLACES, POSITION_FLAGS}
use Rattle.paw_state.specs.declared.position_field.PositionField.{PositionField}
use Rattle.paw_effects.specs.inner.Worlds.{ArePlacesOf, StandsIn}
use Rattle.paw_state.specs.State.{zeros, filled_with_zeros, position_field_of, prompt_code}
use Rattle.paw_state.specs.inner.Faults.{rule, first_not, is_zero, places_fault, absent_fault, position_fault, kept_fault}
use Rattle.paw_state.specs.inner.Parts.{position_in}
use Rattle.paw_state.proofs.Positions.{IsHeldOf}
use Rattle.paw_state.specs.Fields.{IsSizedPosition}
use Rattle.paw_state.proofs.Found.{two, two_none, no_first, none_first, all_so, none_not, none_in_zeros, take_filled}
use Rattle.paw_state.proofs.Found.{drop_filled, length-filled, length-zeros}
use Rattle.paw_state.proofs.Back.{objects_stand}

-- ---- the machine's rules ----

pub no_machine_fault : (g : GameLists) (code : Option ℕ) (k : Frames) → count_fits code k.count ≡ true
    → machine_rows g (unwrap_or code 0) None k.count 0 k.rows ≡ None
    → machine_loop g k k.turning ≡ None → fault_at g code k ≡ None
no_machine_fault g code k counts rows turns = rw (counts, rows, turns) refl

pub record MachineSound (g : GameLists) (code : Option ℕ) (k : Frames) : Type 0 where
  pub count : count_fits code k.count ≡ true
  pub rows : machine_rows g (unwrap_or code 0) None k.count 0 k.rows ≡ None
  pub turning : machine_loop g k k.turning ≡ None

pub machine_sound : (g : GameLists) (code : Option ℕ) (k : Frames) → fault_at g code k ≡ None → MachineSound g code k
machine_sound g code k h = go (count_fits code k.count) refl h
  where
    go : (b : Bool) → count_fits code k.count ≡ b
        → ◌≡◌ {A = Option ℕ} (if b then option_or (machine_rows g (unwrap_or code 0) None k.count 0 k.rows) (machine_loop g k k.turning) else Some 0) None
        → MachineSound g code k
    go true e q =
        let p = no_machine_first (machine_rows g (unwrap_or code 0) None k.count 0 k.rows) (machine_loop g k k.turning) q in
        record { count = e; rows = p.0; turning = p.1 }
    go false e q = cc

-- ---- fields without a fault say a state that follows its rules ----

pub objects_length : (g : GameLists) (places : ObjectPlaces) → Valid g → length places ≡ OBJECT_LIMIT → length (take (length g.objects) places) ≡ length g.objects
objects_length g places v size = omega (arith, length-take (length g.objects) places, few_objects g v)

pub held_right : (g : GameLists) (at : ℕ) (h : PositionField) → Valid g → IsSizedPosition h → position_fault g at h ≡ None → IsHeldOf g (position_in (length g.objects) h)
held_right g at h v z q = go (h.there == 0)
    (two (rule at (nat_le h.there 1)) (if h.there == 0 then absent_fault at h else places_fault g (at + POSITION_PLACES) h.places) q).1
  where
    go : (b : Bool) → (if b then absent_fault at h else places_fault g (at + POSITION_PLACES) h.places) ≡ None
        → IsHeldOf g (if b then None else Some (record { flags = h.flags; places = take (length g.objects) h.places }))
    go true k = tt
    go false k = record {
      flags = z.flags;
      each = objects_length g h.places v z.places;
      places = all_so (is_place (length g.locations)) (at + POSITION_PLACES) (take (length g.objects) h.places)
          (objects_stand g (at + POSITION_PLACES) h.places k);
    }

pub kept_right : (g : GameLists) (at : ℕ) (kept : List PositionField) → Valid g → All IsSizedPosition kept → kept_fault g at kept ≡ None
    → All (IsHeldOf g) (map (position_in (length g.objects)) kept)
unfolding kept_fault
kept_right g at [] v z h = λ k d low. absurd (omega (arith, low))
kept_right g at (k ∷ ks) v z h =
    let p = no_first (position_fault g at k) (kept_fault g (at + POSITION_LENGTH) ks) h in
    All-cons (IsHeldOf g) (position_in (length g.objects) k) (map (position_in (length g.objects)) ks) (held_right g at k v (z 0 k (omega arith)) p.0)
    (kept_right g (at + POSITION_LENGTH) ks v (λ i d low. z (suc i) d (omega (arith, low))) p.1)

pub line_right : (code : Option ℕ) (n : ℕ) (line : Line) → (is_some code || (n == 0)) ≡ true → IfNone code (take n line ≡ [])
line_right None n line h = let z : n ≡ 0 = eqb-true n 0 h in rw z refl
line_right (Some code) n line h = tt

-- ---- the fields of a state that follows its rules have no fault ----

pub places_sound : (g : GameLists) (at : ℕ) (places : ObjectPlaces) → length places ≡ length g.objects → ArePlacesOf g places
    → places_fault g at (filled_with_zeros OBJECT_LIMIT places) ≡ None
places_sound g at places size h =
    two_none (first_not (is_place (length g.locations)) at (take (length g.objects) (filled_with_zeros OBJECT_LIMIT places)))
    (first_not is_zero (at + length g.objects) (drop (length g.objects) (filled_with_zeros OBJECT_LIMIT places)))
    (ap (first_not (is_place (length g.locations)) at) (take_filled (length g.objects) places size) ∙ none_not (is_place (length g.locations)) at places h)
    (ap (first_not is_zero (at + length g.objects)) (drop_filled (length g.objects) places size)
    ∙ none_in_zeros (at + length g.objects) (OBJECT_LIMIT - length places))

pub held_sound : (g : GameLists) (at : ℕ) (o : Option Position) → IsHeldOf g o → position_fault g at (position_field_of o) ≡ None
held_sound g at None h =
    two_none (rule at true) (absent_fault at (position_field_of None)) refl
    (two_none (first_not is_zero (at + POSITION_FLAGS) (zeros FLAG_COUNT)) (first_not is_zero (at + POSITION_PLACES) (zeros OBJECT_LIMIT))
    (none_in_zeros (at + POSITION_FLAGS) FLAG_COUNT) (none_in_zeros (at + POSITION_PLACES) OBJECT_LIMIT))
held_sound g at (Some q) h =
    two_none (rule at true) (places_fault g (at + POSITION_PLACES) (filled_with_zeros OBJECT_LIMIT q.places)) refl
    (places_sound g (at + POSITION_PLACES) q.places h.each h.places)

pub kept_sound : (g : GameLists) (at : ℕ) (kept : List (Option Position)) → All (IsHeldOf g) kept → kept_fault g at (map position_field_of kept) ≡ None
unfolding kept_fault
kept_sound g at [] h = refl
kept_sound g at (k ∷ ks) h =
    none_first (position_fault g at (position_field_of k)) (kept_fault g (at + POSITION_LENGTH) (map position_field_of ks)) (held_sound g at k (h 0 k (omega arith)))
    (kept_sound g (at + POSITION_LENGTH) ks (λ i d low. h (suc i) d (omega (arith, low))))

pub code_low : (p : Prompt) → nat_le (prompt_code p) 4 ≡ true
code_low prompt.Main = refl
code_low prompt.Quit = refl
code_low prompt.Again = refl
code_low prompt.Key = refl
code_low prompt.Over = refl

pub line_sound : (code : Option ℕ) (bytes : Bytes) → IfNone code (bytes ≡ []) → (is_some code || (length bytes == 0)) ≡ true
line_sound None bytes h = rw h refl
line_sound (Some code) bytes h = refl

-- ---- positions of a state whose fields have no fault ----

pub saved_sized : (n : ℕ) (o : Option Position) → n ≤ OBJECT_LIMIT → IsSavedFor n o → IsSizedPosition (position_field_of o)
saved_sized n None low h = record { flags = length-zeros FLAG_COUNT; places = length-zeros OBJECT_LIMIT }
saved_sized n (Some q) low h = record { flags = h.flags; places = length-filled q.places (omega (arith, h.places, low)) }

pub places_from : (g : GameLists) (at : ℕ) (places : ObjectPlaces) → length places ≡ length g.objects
    → places_fault g at (filled_with_zeros OBJECT_LIMIT places) ≡ None
    → ArePlacesOf g places
places_from g at places size h =
    subst (ArePlacesOf g) (take_filled (length g.objects) places size)
    (all_so (is_place (length g.locations)) at (take (length g.objects) (filled_with_zeros OBJECT_LIMIT places))
    (objects_stand g at (filled_with_zeros OBJECT_LIMIT places) h))

pub saved_from : (g : GameLists) (at n : ℕ) (o : Option Position) → n ≡ length g.objects → IsSavedFor n o → position_fault g at (position_field_of o) ≡ None → StandsIn g o
saved_from g at n None same alike h = tt
saved_from g at n (Some q) same alike h =
    places_from g (at + POSITION_PLACES) q.places (alike.places ∙ same)
    (two (rule at (nat_le 1 1)) (places_fault g (at + POSITION_PLACES) (filled_with_zeros OBJECT_LIMIT q.places)) h).1

pub kept_from : (g : GameLists) (at n : ℕ) (kept : List (Option Position)) → n ≡ length g.objects → All (IsSavedFor n) kept
    → kept_fault g at (map position_field_of kept) ≡ None → All (StandsIn g) kept
unfolding kept_fault
kept_from g at n [] same alike h = λ k d low. absurd (omega (arith, low))
kept_from g at n (o ∷ os) same alike h =
    let p = no_first (position_fault g at (position_field_of o)) (kept_fault g (at + POSITION_LENGTH) (map position_field_of os)) h in
    All-cons (StandsIn g) o os (saved_from g at n o same (alike 0 o (omega arith)) p.0)
    (kept_from g (at + POSITION_LENGTH) n os same (λ i d low. alike (suc i) d (omega (arith, low))) p.1)
