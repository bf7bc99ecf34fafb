-- The two bytes of a state that give the length of the piece.
use Rattle.std.proofs.Common.{◌≡◌, ℕ, ◌+◌, ◌*◌, ◌<◌, ◌^◌, ◌++◌, length, take, drop, get_or, sym, ap}
use Rattle.std.proofs.Common.{◌∙◌, arith, length-append, ◌-◌, subst}
use Rattle.std.proofs.lemmas.List.{get_or_append_left, get_or-append-add, take-append-drop}
use Rattle.paw_base.specs.Bytes.{Bytes}
use Rattle.paw_base.specs.declared.layout.TheConstants.{STATE_LENGTH}
use Rattle.paw_state.proofs.Found.{length-zeros}
use Rattle.paw_state.proofs.EachField.{state_same}
use Rattle.paw_game.specs.Image.{two_bytes}
use Rattle.paw_process.specs.declared.kept.Frames.{Frames}
use Rattle.paw_state.specs.declared.fields.Fields.{Fields}
use Rattle.paw_state.specs.declared.fields.TheConstants.{PIECE, KEPT, STATE_ROOM}
use Rattle.paw_state.specs.State.{State, FitsFields, fields_of, state_bytes, zeros}
use Rattle.paw_state.specs.inner.Fields.{after_piece, field_bytes}
use Rattle.paw_state.proofs.EachField.{before_piece, state_ends}

-- The two bytes from 1,369 on.
two_there : (front : Bytes) (n : ℕ) (q : Bytes) → length front ≡ PIECE → n < 2 ^ 16
    → get_or (front ++ (two_bytes n ++ q)) PIECE 0 + 256 * get_or (front ++ (two_bytes n ++ q)) (PIECE + 1) 0 ≡ n
two_there front n q l h =
    let bytes = front ++ (two_bytes n ++ q) in
    let a : get_or bytes PIECE 0 ≡ get_or (two_bytes n) 0 0 =
    ap (λ k. get_or bytes k 0) (omega (arith, l)) ∙ get_or-append-add front (two_bytes n ++ q) 0 0 in
    let b : get_or bytes (PIECE + 1) 0 ≡ get_or (two_bytes n) 1 0 =
    ap (λ k. get_or bytes k 0) (omega (arith, l)) ∙ get_or-append-add front (two_bytes n ++ q) 1 0 in
    rw (a, b) (grind (arith))

front_long : (front : Bytes) (n : ℕ) (q : Bytes) → length (front ++ (two_bytes n ++ q)) ≡ STATE_LENGTH → length q ≡ STATE_LENGTH - (PIECE + 2)
    → length front ≡ PIECE
front_long front n q l k =
    let m = length-append front (two_bytes n ++ q) in
    let r = length-append (two_bytes n) q in
    omega (arith, l, m, r, k)

-- The bytes of a state, and those after the length of the piece.
pub record AreLong (s : State) : Type 0 where
  pub all : length (state_bytes s) ≡ STATE_LENGTH
  pub behind : length (after_piece (fields_of s)) ≡ STATE_LENGTH - (PIECE + 2)

pub piece_told : (s : State) → AreLong s → s.piece < 2 ^ 16 → get_or (state_bytes s) PIECE 0 + 256 * get_or (state_bytes s) (PIECE + 1) 0 ≡ s.piece
piece_told s l h =
    let f = fields_of s in
    let e = state_same s ∙ state_ends f in
    rw e (two_there (before_piece f) s.piece (after_piece f) (front_long (before_piece f) s.piece (after_piece f) (ap length (sym e) ∙ l.all) l.behind) h)

-- As it stands in a buffer.
pub piece_in : (s : State) (rest into : Bytes) → into ≡ state_bytes s ++ rest → AreLong s → s.piece < 2 ^ 16
    → get_or into PIECE 0 + 256 * get_or into (PIECE + 1) 0 ≡ s.piece
piece_in s rest into e l h =
    let a : get_or into PIECE 0 ≡ get_or (state_bytes s) PIECE 0 = ap (λ x. get_or x PIECE 0) e
    ∙ get_or_append_left (state_bytes s) rest 0 PIECE (omega (arith, l.all)) in
    let b : get_or into (PIECE + 1) 0 ≡ get_or (state_bytes s) (PIECE + 1) 0 = ap (λ x. get_or x (PIECE + 1) 0) e
    ∙ get_or_append_left (state_bytes s) rest 0 (PIECE + 1) (omega (arith, l.all)) in
    rw (a, b) (piece_told s l h)

-- What stands before the zeros of a buffer.
pub buffer_long : (bytes into : Bytes) → into ≡ bytes ++ zeros (STATE_ROOM - STATE_LENGTH) → length into ≡ STATE_ROOM →
    length bytes ≡ STATE_LENGTH
buffer_long bytes into e l =
    let m = length-append bytes (zeros (STATE_ROOM - STATE_LENGTH)) in
    omega (arith, ap length (sym e) ∙ l, m, length-zeros (STATE_ROOM - STATE_LENGTH))

-- As it is read from a buffer.
pub piece_read : (s : State) (bytes : Bytes) → take STATE_LENGTH bytes ≡ state_bytes s → AreLong s → s.piece < 2 ^ 16
    → get_or bytes PIECE 0 + 256 * get_or bytes (PIECE + 1) 0 ≡ s.piece
piece_read s bytes e l h =
    let whole : bytes ≡ state_bytes s ++ drop STATE_LENGTH bytes =
    sym (take-append-drop STATE_LENGTH bytes) ∙ ap (λ x. x ++ drop STATE_LENGTH bytes) e in
    piece_in s (drop STATE_LENGTH bytes) bytes whole l h

-- A buffer with a state: its bytes, how many they are, and the length of the piece.
pub record IsWritten (s : State) (into : Bytes) : Type 0 where
  pub value : into ≡ state_bytes s ++ zeros (STATE_ROOM - STATE_LENGTH)
  pub long : length (state_bytes s) ≡ STATE_LENGTH
  pub piece : get_or into PIECE 0 + 256 * get_or into (PIECE + 1) 0 ≡ s.piece

-- A buffer to which the fields of a state are written.
written_state : (s : State) (f : Fields) (into : Bytes) → FitsFields s → f ≡ fields_of s → into ≡ field_bytes f ++ zeros (STATE_ROOM - STATE_LENGTH)
    → length into ≡ STATE_ROOM → length (after_piece f) ≡ STATE_LENGTH - KEPT → IsWritten s into
written_state s f into h same is room later =
    let value : into ≡ state_bytes s ++ zeros (STATE_ROOM - STATE_LENGTH) =
    is ∙ ap (λ (l : Bytes). l ++ zeros (STATE_ROOM - STATE_LENGTH)) (ap field_bytes same ∙ sym (state_same s)) in
    let long : AreLong s = record {
      all = buffer_long (state_bytes s) into value room;
      behind = ap (λ (x : Fields). length (after_piece x)) (sym same) ∙ later;
    } in
    record { value = value; long = long.all; piece = piece_in s (zeros (STATE_ROOM - STATE_LENGTH)) into value long h.piece }

-- The frames of that state are these.
pub fields_written : (s : State) (k : Frames) (f : Fields) (into : Bytes) → FitsFields s → s.frames ≡ k → f ≡ fields_of s
    → into ≡ field_bytes f ++ zeros (STATE_ROOM - STATE_LENGTH) → length into ≡ STATE_ROOM → length (after_piece f) ≡ STATE_LENGTH - KEPT
    → IsWritten (record s { frames = k }) into
fields_written s k f into h frames same is room later =
    subst (λ (x : Frames). IsWritten (record s { frames = x }) into) frames (written_state s f into h same is room later)
