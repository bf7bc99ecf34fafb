-- The bytes of the list of fields are those of its parts.
use Rattle.std.proofs.Common.{◌≡◌, ℕ, suc, ◌-◌, Bool, true, List, [], ◌∷◌, ◌++◌, Option, Some}
use Rattle.std.proofs.Common.{refl, ap, ◌∙◌}
use Rattle.std.specs.Prelude.{flat_map}
use Rattle.std.proofs.lemmas.Grind.{flat_map-append}
use Rattle.paw_base.specs.Bytes.{Bytes}
use Rattle.paw_game.specs.Game.{GameLists}
use Rattle.paw_game.specs.Tables.{condact_at}
use Rattle.paw_reading.specs.declared.frames.OpenLoop.{OpenLoop}
use Rattle.paw_process.specs.Kept.{parameter_of}
use Rattle.paw_state.specs.declared.fields.FrameField.{FrameField}
use Rattle.paw_state.specs.declared.fields.Fields.{Fields}
use Rattle.paw_state.specs.declared.position_field.PositionField.{PositionField}
use Rattle.paw_state.specs.Fields.{Field, one_by_one, if_there, bytes_of, place_holds, position_fields}
use Rattle.paw_state.specs.Fields.{frame_fields, frames_fields, loop_fields, flag_fields, place_fields}
use Rattle.paw_state.specs.Fields.{looping_fields, pending_fields}
use Rattle.paw_state.specs.inner.Fields.{frame_shape, loop_shape, position_shape}

pub each_bytes : (h : ℕ → ℕ → GameLists → Bool) (i : ℕ) (bs : Bytes) → bytes_of (one_by_one h i bs) ≡ bs
unfolding one_by_one
each_bytes h i [] = refl
each_bytes h i (b ∷ bs) = ap (λ (l : Bytes). b ∷ l) (each_bytes h (suc i) bs)

pub there_bytes : (n : ℕ) (fs : List Field) → bytes_of (if_there n fs) ≡ bytes_of fs
unfolding if_there
there_bytes n [] = refl
there_bytes n (f ∷ fs) = ap (λ (l : Bytes). f.bytes ++ l) (there_bytes n fs)

pub join : (xs ys : List Field) (x y : Bytes) → bytes_of xs ≡ x → bytes_of ys ≡ y → bytes_of (xs ++ ys) ≡ x ++ y
join xs ys x y e k = flat_map-append (λ (f : Field). f.bytes) xs ys ∙ (ap (λ (l : Bytes). l ++ bytes_of ys) e ∙ ap (λ (l : Bytes). x ++ l) k)

pub held_same : (h : PositionField) → bytes_of (position_fields h) ≡ position_shape.bytes h
held_same h =
    let flags = flag_fields h.flags in
    let places = place_fields h.places in
    ap (λ (l : Bytes). h.there ∷ l)
    (there_bytes h.there (flags ++ places)
    ∙ join flags places h.flags h.places (each_bytes (λ i flag g. true) 0 h.flags) (each_bytes place_holds 0 h.places))

pub kept_same : (hs : List PositionField) → bytes_of (flat_map position_fields hs) ≡ flat_map position_shape.bytes hs
kept_same [] = refl
kept_same (h ∷ hs) = join (position_fields h) (flat_map position_fields hs) (position_shape.bytes h) (flat_map position_shape.bytes hs) (held_same h) (kept_same hs)

pub frame_same : (code : ℕ) (caller : GameLists → Option ℕ) (n : ℕ) (r : FrameField) → bytes_of (frame_fields code caller n r) ≡ frame_shape.bytes r
frame_same code caller n r = there_bytes n _

pub frames_same : (code : ℕ) (caller : GameLists → Option ℕ) (n : ℕ) (rs : List FrameField)
    → bytes_of (frames_fields code caller n rs) ≡ flat_map frame_shape.bytes rs
unfolding frames_fields
frames_same code caller n [] = refl
frames_same code caller n (r ∷ rs) =
    let next : GameLists → Option ℕ = λ g. Some (parameter_of (condact_at g r.table r.entry r.at)) in
    join (frame_fields code caller n r) (frames_fields code next (n - 1) rs) (frame_shape.bytes r) (flat_map frame_shape.bytes rs)
    (frame_same code caller n r) (frames_same code next (n - 1) rs)

pub loop_same : (f : Fields) (l : OpenLoop) → bytes_of (loop_fields f l) ≡ loop_shape.bytes l
loop_same f l = there_bytes f.looping _

pub pending_same : (f : Fields) → bytes_of (pending_fields f) ≡ (f.earlier ∷ f.pending ∷ []) ++ f.line
pending_same f = ap (λ (l : Bytes). f.earlier ∷ f.pending ∷ l) (each_bytes _ 0 f.line)

pub looping_same : (f : Fields) → bytes_of (looping_fields f) ≡ (f.looping ∷ []) ++ loop_shape.bytes f.turning
looping_same f = ap (λ (l : Bytes). f.looping ∷ l) (loop_same f f.turning)
