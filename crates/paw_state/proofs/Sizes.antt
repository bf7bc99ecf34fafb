-- Arrays have their lengths, and numbers fit their fields.
use Rattle.std.proofs.Common.{◌≡◌, ℕ, zero, suc, ◌+◌, ◌-◌, ◌<◌, ◌^◌, ◌==◌, ◌&&◌, Bool, true, false, List, [], ◌∷◌}
use Rattle.std.proofs.Common.{Option, Some, None, map, take, get_or, nat_lt, refl, lit<, arith}
use Rattle.std.specs.Prelude.{All, slice_get, if◌then◌else◌}
use Rattle.std.proofs.lemmas.List.Elements.{All-cons, All-nil, All-take, All-map}
use Rattle.std.proofs.lemmas.Bool.{eqb-true}
use Rattle.paw_base.specs.Bytes.{Bytes}
use Rattle.paw_base.specs.declared.limits.TheConstants.{FLAG_COUNT, OBJECT_LIMIT}
use Rattle.paw_base.specs.declared.codes.TheConstants.{PROCESS, DOALL}
use Rattle.paw_base.specs.declared.parts.Condact.{Condact}
use Rattle.paw_game.specs.Game.{GameLists}
use Rattle.paw_game.specs.Valid.{Valid}
use Rattle.paw_game.specs.Tables.{condact_at}
use Rattle.paw_game.proofs.Counts.{few_objects}
use Rattle.paw_game.proofs.ValidGames.{condact-small}
use Rattle.paw_world.specs.World.{Position}
use Rattle.paw_reading.specs.declared.frames.Frame.{Frame}
use Rattle.paw_reading.specs.declared.frames.OpenLoop.{OpenLoop}
use Rattle.paw_process.specs.declared.machine.TheConstants.{MOST_FRAMES}
use Rattle.paw_process.specs.declared.kept.Frames.{Frames}
use Rattle.paw_process.specs.Kept.{may_open, has_code, parameter_of}
use Rattle.paw_process.specs.inner.Kept.{condact_at_frame, is_unused, frame_stands}
use Rattle.paw_process.specs.inner.Kept.{is_that_table}
use Rattle.paw_process.specs.inner.Kept.{loop_stands}
use Rattle.paw_process.proofs.OpenFrames.{table_of}
use Rattle.paw_process.specs.inner.Kept.{first_frame_fault as machine_rows, loop_fault as machine_loop}
use Rattle.paw_process.proofs.Restored.{first_of, second}
use Rattle.paw_state.specs.declared.fields.TheConstants.{POSITION_LENGTH}
use Rattle.paw_state.specs.declared.fields.FrameField.{FrameField}
use Rattle.paw_state.specs.declared.position_field.PositionField.{PositionField}
use Rattle.paw_state.specs.State.{AreBytes, HoldsBytes}
use Rattle.paw_state.specs.State.{position_field_of, frame_field_of}
use Rattle.paw_state.specs.inner.State.{loop_or_zeros}
use Rattle.paw_state.specs.inner.Shapes.{values_at}
use Rattle.paw_state.specs.inner.Fields.{position_shape}
use Rattle.paw_state.specs.inner.Parts.{position_in}
use Rattle.paw_state.proofs.Pieces.{range_bytes}
use Rattle.paw_state.proofs.Positions.{IsHeldOf}
use Rattle.paw_state.specs.Fields.{IsSizedPosition}
use Rattle.paw_state.proofs.Found.{length-zeros, length-filled}

-- ---- the state that is read ----

held_fits : (n : ℕ) (h : PositionField) → AreBytes h.flags → AreBytes h.places → HoldsBytes (position_in n h)
held_fits n h flags places = go (h.there == 0)
  where
    go : (b : Bool) → HoldsBytes (if b then None else Some (record { flags = h.flags; places = take n h.places }))
    go true = tt
    go false = (flags, All-take (λ (b : ℕ). b < 256) n h.places places)

pub held_at_fits : (n at : ℕ) (bytes : Bytes) → AreBytes bytes → HoldsBytes (position_in n (position_shape.value bytes at))
held_at_fits n at bytes h =
    held_fits n (position_shape.value bytes at) (range_bytes bytes (at + 1) (at + 1 + FLAG_COUNT) h)
    (range_bytes bytes (at + 1 + FLAG_COUNT) (at + 1 + FLAG_COUNT + OBJECT_LIMIT) h)

pub helds_at_fit : (n m at : ℕ) (bytes : Bytes) → AreBytes bytes → All HoldsBytes (map (position_in n) (values_at position_shape m bytes at))
unfolding values_at
helds_at_fit n zero at bytes h = All-nil HoldsBytes
helds_at_fit n (suc m) at bytes h =
    All-cons HoldsBytes (position_in n (position_shape.value bytes at)) (map (position_in n) (values_at position_shape m bytes (at + POSITION_LENGTH))) (held_at_fits n at bytes h)
    (helds_at_fit n m (at + POSITION_LENGTH) bytes h)

-- ---- the fields of a state ----

coded : (g : GameLists) (t e k code : ℕ) (o : Option Condact) → Valid g → condact_at g t e k ≡ o → has_code code o ≡ true → e < 2 ^ 16
coded g t e k code None v is h = cc
coded g t e k code (Some c) v is h = let low = condact-small g v t e k c is in omega (arith, low)

frame_entry : (g : GameLists) (code : ℕ) (caller : Option ℕ) (n : ℕ) (f : Frame) → Valid g → frame_stands g code caller n f ≡ true → f.entry < 2 ^ 16
frame_entry g code caller n f v h = go (n == 0) h
  where
    go : (b : Bool) → (if b then is_unused f else may_open caller f.table && has_code (if n == 1 then code else PROCESS) (condact_at_frame g f)) ≡ true →
        f.entry < 2 ^ 16
    go true q = let z : f.entry ≡ 0 = eqb-true f.entry 0 (first_of (f.entry == 0) _ (second (f.table == 0) _ q)) in omega arith
    go false q = coded g f.table f.entry f.at (if n == 1 then code else PROCESS) (condact_at_frame g f) v refl (second (may_open caller f.table) _ q)

pub entries_fit : (g : GameLists) (code : ℕ) (caller : Option ℕ) (n d : ℕ) (frames : List Frame) → Valid g → machine_rows g code caller n d frames ≡ None
    → All (λ r. r.entry < 2 ^ 16) (map frame_field_of frames)
unfolding machine_rows
entries_fit g code caller n d [] v h = λ k e low. absurd (omega (arith, low))
entries_fit g code caller n d (f ∷ fs) v h = go (entries_fit g code (Some (parameter_of (condact_at_frame g f))) (n - 1) (suc d) fs v)
    (frame_stands g code caller n f) refl h
  where
    go : (machine_rows g code (Some (parameter_of (condact_at_frame g f))) (n - 1) (suc d) fs ≡ None → All (λ r. r.entry < 2 ^ 16) (map frame_field_of fs))
        → (b : Bool) → frame_stands g code caller n f ≡ b
        → ◌≡◌ {A = Option ℕ} (if b then machine_rows g code (Some (parameter_of (condact_at_frame g f))) (n - 1) (suc d) fs else Some d) None
        → All (λ r. r.entry < 2 ^ 16) (map frame_field_of (f ∷ fs))
    go later true e q = All-cons (λ (r : FrameField). r.entry < 2 ^ 16) (frame_field_of f) (map frame_field_of fs) (frame_entry g code caller n f v e) (later q)
    go later false e q = cc

pub loop_fits : (g : GameLists) (k : Frames) (o : Option OpenLoop) → Valid g → machine_loop g k o ≡ None → (loop_or_zeros o).entry < 2 ^ 16
loop_fits g k None v h = lit< tt
loop_fits g k (Some l) v h = go (loop_stands g k l) refl h
  where
    go : (b : Bool) → loop_stands g k l ≡ b → ◌≡◌ {A = Option ℕ} (if b then None else Some MOST_FRAMES) None → l.entry < 2 ^ 16
    go true e q =
        let s1 = second (nat_lt l.level k.count) _ e in
        let s2 = second (is_that_table (table_of (slice_get k.rows l.level)) l.table) _ s1 in
        coded g l.table l.entry l.at DOALL (condact_at g l.table l.entry l.at) v refl (first_of (has_code DOALL (condact_at g l.table l.entry l.at)) _ s2)
    go false e q = cc

pub held_size : (g : GameLists) (o : Option Position) → Valid g → IsHeldOf g o → IsSizedPosition (position_field_of o)
held_size g None v h = record { flags = length-zeros FLAG_COUNT; places = length-zeros OBJECT_LIMIT }
held_size g (Some q) v h = record { flags = h.flags; places = length-filled q.places (omega (arith, h.each, few_objects g v)) }

pub kept_size : (g : GameLists) (kept : List (Option Position)) → Valid g → All (IsHeldOf g) kept → All IsSizedPosition (map position_field_of kept)
kept_size g kept v h = All-map IsSizedPosition position_field_of kept (λ k d low. held_size g (get_or kept k d) v (h k d low))
