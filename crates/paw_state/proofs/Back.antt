-- From fields to the state that they say, and back.
use Rattle.std.proofs.Common.{◌≡◌, ℕ, zero, suc, ◌+◌, ◌<◌, ◌≤◌, ◌==◌, List, [], ◌∷◌, Option, Some}
use Rattle.std.proofs.Common.{None, length, map, take, drop, nat_le, refl, sym, ap, ◌∙◌, arith}
use Rattle.std.specs.Prelude.{All, if◌then◌else◌}
use Rattle.std.proofs.lemmas.List.{length-take}
use Rattle.std.proofs.lemmas.Bool.{leb-true}
use Rattle.paw_base.specs.Bytes.{Line, ObjectPlaces}
use Rattle.paw_base.specs.declared.limits.TheConstants.{OBJECT_LIMIT, LINE_LIMIT}
use Rattle.paw_game.specs.Game.{GameLists}
use Rattle.paw_game.specs.Valid.{Valid, is_place}
use Rattle.paw_game.proofs.Counts.{few_objects}
use Rattle.paw_world.specs.World.{World, Position}
use Rattle.paw_phrase.specs.Pending.{PendingLine}
use Rattle.paw_effects.specs.declared.act.Prompt.{Prompt}
use Rattle.paw_effects.specs.declared.act.Prompt.TheVariants as prompt
use Rattle.paw_reading.specs.declared.frames.OpenLoop.{OpenLoop}
use Rattle.paw_process.specs.declared.kept.Frames.{Frames}
use Rattle.paw_state.specs.declared.fields.TheConstants.{POSITION_LENGTH, POSITION_PLACES, POSITION_FLAGS}
use Rattle.paw_state.specs.declared.position_field.PositionField.{PositionField}
use Rattle.paw_state.specs.State.{zeros, filled_with_zeros, position_field_of, prompt_code}
use Rattle.paw_state.specs.inner.State.{loop_or_zeros}
use Rattle.paw_state.specs.inner.Faults.{rule, first_not, is_zero, places_fault, absent_fault, position_fault, kept_fault}
use Rattle.paw_state.specs.Fields.{prompt_of}
use Rattle.paw_state.specs.inner.Parts.{position_in}
use Rattle.paw_state.proofs.Positions.{IsHeldOf}
use Rattle.paw_state.specs.Fields.{IsSizedPosition}
use Rattle.paw_state.proofs.Shaped.{same_held}
use Rattle.paw_state.proofs.Found.{two, rule_holds, no_first, zeros_are, filled_take, take_filled}
use Rattle.paw_state.proofs.Loops.{presence}

-- ---- from fields ----

-- Places without a fault: those of the objects, and zeros.
pub objects_stand : (g : GameLists) (at : ℕ) (places : ObjectPlaces) → places_fault g at places ≡ None
    → first_not (is_place (length g.locations)) at (take (length g.objects) places) ≡ None
objects_stand g at places h =
    (two (first_not (is_place (length g.locations)) at (take (length g.objects) places))
    (first_not is_zero (at + length g.objects) (drop (length g.objects) places)) h).0

pub zeros_behind : (g : GameLists) (at : ℕ) (places : ObjectPlaces) → places_fault g at places ≡ None
    → first_not is_zero (at + length g.objects) (drop (length g.objects) places) ≡ None
zeros_behind g at places h =
    (two (first_not (is_place (length g.locations)) at (take (length g.objects) places))
    (first_not is_zero (at + length g.objects) (drop (length g.objects) places)) h).1

pub places_back : (g : GameLists) (at : ℕ) (places : ObjectPlaces) → Valid g → length places ≡ OBJECT_LIMIT → places_fault g at places ≡ None
    → filled_with_zeros OBJECT_LIMIT (take (length g.objects) places) ≡ places
places_back g at places v size h = filled_take (at + length g.objects) (length g.objects) places size (few_objects g v) (zeros_behind g at places h)

-- A position without a fault.
pub held_back : (g : GameLists) (at : ℕ) (h : PositionField) → Valid g → IsSizedPosition h → position_fault g at h ≡ None → position_field_of (position_in (length g.objects) h) ≡ h
held_back g at h v z q =
    let p = two (rule at (nat_le h.there 1)) (if h.there == 0 then absent_fault at h else places_fault g (at + POSITION_PLACES) h.places) q in
    go h.there (leb-true h.there 1 (rule_holds at (nat_le h.there 1) p.0)) p.1
  where
    go : (there : ℕ) → there ≤ 1 → (if there == 0 then absent_fault at h else places_fault g (at + POSITION_PLACES) h.places) ≡ None
        → position_field_of (if there == 0 then None else Some (record { flags = h.flags; places = take (length g.objects) h.places }))
        ≡ record { there = there; flags = h.flags; places = h.places }
    go zero low k =
        let both = two (first_not is_zero (at + POSITION_FLAGS) h.flags) (first_not is_zero (at + POSITION_PLACES) h.places) k in
        same_held (position_field_of None) (record { there = 0; flags = h.flags; places = h.places }) refl
        (sym (zeros_are (at + POSITION_FLAGS) h.flags both.0 ∙ ap zeros z.flags)) (sym (zeros_are (at + POSITION_PLACES) h.places both.1 ∙ ap zeros z.places))
    go (suc zero) low k =
        same_held _ (record { there = 1; flags = h.flags; places = h.places }) refl refl (places_back g (at + POSITION_PLACES) h.places v z.places k)
    go (suc (suc n)) low k = absurd (omega (arith, low))

pub kept_back : (g : GameLists) (at : ℕ) (kept : List PositionField) → Valid g → All IsSizedPosition kept → kept_fault g at kept ≡ None
    → map position_field_of (map (position_in (length g.objects)) kept) ≡ kept
unfolding kept_fault
kept_back g at [] v z h = refl
kept_back g at (k ∷ ks) v z h =
    let p = no_first (position_fault g at k) (kept_fault g (at + POSITION_LENGTH) ks) h in
    let e : position_field_of (position_in (length g.objects) k) ≡ k = held_back g at k v (z 0 k (omega arith)) p.0 in
    let q = kept_back g (at + POSITION_LENGTH) ks v (λ i d low. z (suc i) d (omega (arith, low))) p.1 in
    cc

pub code_back : (n : ℕ) → n ≤ 4 → prompt_code (prompt_of n) ≡ n
code_back zero low = refl
code_back (suc zero) low = refl
code_back (suc (suc zero)) low = refl
code_back (suc (suc (suc zero))) low = refl
code_back (suc (suc (suc (suc zero)))) low = refl
code_back (suc (suc (suc (suc (suc n))))) low = absurd (omega (arith, low))

pub line_length : (n : ℕ) (line : Line) → length line ≡ LINE_LIMIT → n < 256 → length (take n line) ≡ n
line_length n line size low = omega (arith, length-take n line)

-- ---- from a state ----

pub held_again : (g : GameLists) (o : Option Position) → IsHeldOf g o → position_in (length g.objects) (position_field_of o) ≡ o
held_again g None h = refl
held_again g (Some q) h =
    let at : ObjectPlaces → Option Position = λ places. Some (record { flags = q.flags; places = places }) in
    ap at (take_filled (length g.objects) q.places h.each)

pub kept_again : (g : GameLists) (kept : List (Option Position)) → All (IsHeldOf g) kept → map (position_in (length g.objects)) (map position_field_of kept) ≡ kept
kept_again g [] h = refl
kept_again g (k ∷ ks) h =
    let e = held_again g k (h 0 k (omega arith)) in
    let q = kept_again g ks (λ i d low. h (suc i) d (omega (arith, low))) in
    cc

pub turning_again : (o : Option OpenLoop) → (if presence o == 0 then None else Some (loop_or_zeros o)) ≡ o
turning_again None = refl
turning_again (Some l) = refl

pub prompt_again : (p : Prompt) → prompt_of (prompt_code p) ≡ p
prompt_again prompt.Main = refl
prompt_again prompt.Quit = refl
prompt_again prompt.Again = refl
prompt_again prompt.Key = refl
prompt_again prompt.Over = refl

pub same_world : (a b : World) → a.facts ≡ b.facts → a.locations ≡ b.locations → a.flags ≡ b.flags → a.places ≡ b.places → a.saved ≡ b.saved → a.kept ≡ b.kept
    → a.seed ≡ b.seed → a.draws ≡ b.draws → a ≡ b
same_world a b facts locations flags places saved kept seed draws =
    let e : ◌≡◌ {A = World}
    (record { facts = a.facts; locations = a.locations; flags = a.flags; places = a.places; saved = a.saved; kept = a.kept; seed = a.seed; draws = a.draws })
    (record { facts = b.facts; locations = b.locations; flags = b.flags; places = b.places; saved = b.saved; kept = b.kept; seed = b.seed; draws = b.draws }) =
    cc in e

pub same_frames : (a b : Frames) → a.count ≡ b.count → a.rows ≡ b.rows → a.turning ≡ b.turning → a ≡ b
same_frames a b count rows turning =
    let e : ◌≡◌ {A = Frames} (record { count = a.count; rows = a.rows; turning = a.turning })
    (record { count = b.count; rows = b.rows; turning = b.turning }) = cc in e

pub same_pending : (a b : PendingLine) → a.bytes ≡ b.bytes → a.earlier ≡ b.earlier → a ≡ b
same_pending a b bytes earlier =
    let e : ◌≡◌ {A = PendingLine} (record { bytes = a.bytes; earlier = a.earlier }) (record { bytes = b.bytes; earlier = b.earlier }) = cc in e
