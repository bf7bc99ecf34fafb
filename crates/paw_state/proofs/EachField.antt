-- What takes the fields of a state one by one.
use Rattle.std.proofs.Common.{◌≡◌, ℕ, ◌-◌, ◌<◌, ◌≤◌, List, [], ◌∷◌, ◌++◌, length, map, take, replicate, true}
use Rattle.std.proofs.Common.{Option, None, refl, ap, ◌∙◌}
use Rattle.std.specs.Prelude.{All, flat_map}
use Rattle.std.specs.Int.{w64, to_le_bytes}
use Rattle.std.proofs.lemmas.List.{append_assoc}
use Rattle.paw_base.specs.Bytes.{Bytes}
use Rattle.paw_base.specs.declared.layout.TheConstants.{STATE_LENGTH}
use Rattle.paw_base.specs.declared.limits.TheConstants.{POSITION_COUNT, FLAG_COUNT, OBJECT_LIMIT, LINE_LIMIT}
use Rattle.paw_game.specs.Image.{two_bytes}
use Rattle.paw_state.specs.declared.fields.TheConstants.{PENDING, KEPT}
use Rattle.paw_state.specs.declared.fields.Fields.{Fields}
use Rattle.paw_state.specs.declared.position_field.PositionField.{PositionField}
use Rattle.paw_state.specs.Fields.{IsSizedPosition, AreSized}
use Rattle.paw_state.specs.State.{AreBytes}
use Rattle.paw_state.specs.inner.Fields.{frame_shape, loop_shape, position_shape, fields_shape, after_piece}
use Rattle.paw_state.specs.inner.Fields.{field_bytes, fields_at}
use Rattle.paw_state.proofs.Pieces.{each_byte}
use Rattle.paw_state.proofs.Listed.{each_bytes, join, held_same, kept_same, frames_same, pending_same, looping_same}
use Rattle.paw_state.proofs.Shaped.{IsSound, one_byte_sound, two_byte_sound, eight_byte_sound, array_sound, times_sound}
use Rattle.paw_state.proofs.Shaped.{field_sound, last_sound, made_of_sound, frame_shape_sound, loop_shape_sound}
use Rattle.paw_state.proofs.Shaped.{held_shape_sound, held_fits}
use Rattle.std.specs.Option.{unwrap_or}
use Rattle.paw_world.specs.World.{Position}
use Rattle.paw_process.specs.declared.machine.TheConstants.{MOST_FRAMES}
use Rattle.paw_state.specs.State.{State, fields_of, state_bytes, position_field_of, zeros}
use Rattle.paw_state.specs.Fields.{Field, two, bytes_of, position_fields, state_fields, flag_fields, place_fields}
use Rattle.paw_state.specs.Fields.{number_fields}
use Rattle.paw_state.specs.Fields.{prompt_fields, table_fields, looping_fields, pending_fields, inside}

-- ---- shapes ----

fields_shape_sound : IsSound fields_shape
fields_shape_sound =
    made_of_sound _ _ (λ f. refl) (λ p. refl)
    (field_sound _ _ _ (array_sound FLAG_COUNT)
    (field_sound _ _ _ (array_sound OBJECT_LIMIT)
    (field_sound _ _ _ held_shape_sound
    (field_sound _ _ _ eight_byte_sound
    (field_sound _ _ _ eight_byte_sound
    (field_sound _ _ _ eight_byte_sound
    (field_sound _ _ _ one_byte_sound
    (field_sound _ _ _ one_byte_sound
    (field_sound _ _ _ (times_sound MOST_FRAMES frame_shape frame_shape_sound)
    (field_sound _ _ _ one_byte_sound
    (field_sound _ _ _ loop_shape_sound
    (field_sound _ _ _ one_byte_sound
    (field_sound _ _ _ one_byte_sound
    (field_sound _ _ _ (array_sound LINE_LIMIT)
    (field_sound _ _ _ two_byte_sound
    (last_sound _ _ (times_sound POSITION_COUNT position_shape held_shape_sound)))))))))))))))))

-- ---- sizes ----

helds_fit : (hs : List PositionField) → All IsSizedPosition hs → All position_shape.fits hs
helds_fit hs s = λ k d low. held_fits _ (s k d low)

fits_of : (f : Fields) → AreSized f → fields_shape.fits f
fits_of f s = (
  s.flags,
  (
    s.places,
    (
      held_fits f.saved s.saved,
      (
        s.seed,
        (
          s.draws,
          (
            s.events,
            (
              tt,
              (
                tt,
                (
                  (s.rows, λ k d low. (tt, (s.entries k d low, (tt, tt)))),
                  (
                    tt,
                    (
                      (tt, (tt, (s.loop_entry, (tt, (tt, tt))))),
                      (
                        tt,
                        (
                          tt,
                          (s.line, (s.piece, (s.four, helds_fit f.kept s.kept))),
                        ),
                      ),
                    ),
                  ),
                ),
              ),
            ),
          ),
        ),
      ),
    ),
  ),
)

sized_held : (h : PositionField) → position_shape.fits h → IsSizedPosition h
sized_held h (there, (flags, places)) = record { flags = flags; places = places }

sized_by : (f : Fields) → fields_shape.fits f → f.pending < 256 → AreSized f
sized_by f (
  flags,
  (
    places,
    (
      saved,
      (
        seed,
        (
          draws,
          (
            events,
            (
              prompt,
              (
                count,
                (
                  rows,
                  (
                    looping,
                    (
                      turning,
                      (earlier, (pending, (line, (piece, kept)))),
                    ),
                  ),
                ),
              ),
            ),
          ),
        ),
      ),
    ),
  ),
) low = record {
  flags = flags;
  places = places;
  saved = sized_held f.saved saved;
  seed = seed;
  draws = draws;
  events = events;
  rows = rows.0;
  entries = λ k d less. (rows.1 k d less).1.0;
  loop_entry = turning.1.1.0;
  pending = low;
  line = line;
  piece = piece;
  four = kept.0;
  kept = λ k d less. sized_held _ (kept.1 k d less);
}

pub sized_at : (bytes : Bytes) → STATE_LENGTH ≤ length bytes → AreBytes bytes → AreSized (fields_at bytes)
sized_at bytes n h = sized_by (fields_at bytes) (fields_shape_sound.fit bytes 0 n h) (each_byte bytes h PENDING)

-- ---- bytes ----

-- The fields that stand in the bytes of fields are these fields.
pub fields_cut : (f : Fields) (q : Bytes) → AreSized f → fields_at (field_bytes f ++ q) ≡ f
fields_cut f q s = fields_shape_sound.back f (field_bytes f ++ q) q 0 (fits_of f s) refl

-- The bytes of the fields that stand in some bytes are these bytes.
pub fields_join : (bytes : Bytes) → STATE_LENGTH ≤ length bytes → AreBytes bytes → field_bytes (fields_at bytes) ≡ take STATE_LENGTH bytes
fields_join bytes n h = fields_shape_sound.read bytes 0 n h

pub length-fields : (f : Fields) → AreSized f → length (field_bytes f) ≡ STATE_LENGTH
length-fields f s = fields_shape_sound.long f (fits_of f s)

pub length-later : (f : Fields) → AreSized f → length (after_piece f) ≡ STATE_LENGTH - KEPT
length-later f s = (times_sound POSITION_COUNT position_shape held_shape_sound).long f.kept (s.four, helds_fit f.kept s.kept)

-- ---- the same fields ----

-- Fields, one by one.
abbrev rebuilt : Fields → Fields
rebuilt f = record {
  flags = f.flags;
  places = f.places;
  saved = f.saved;
  seed = f.seed;
  draws = f.draws;
  events = f.events;
  prompt = f.prompt;
  count = f.count;
  rows = f.rows;
  looping = f.looping;
  turning = f.turning;
  earlier = f.earlier;
  pending = f.pending;
  line = f.line;
  piece = f.piece;
  kept = f.kept;
}

pub same_fields : (a b : Fields) → a.flags ≡ b.flags → a.places ≡ b.places → a.saved ≡ b.saved
    → a.seed ≡ b.seed → a.draws ≡ b.draws → a.events ≡ b.events → a.prompt ≡ b.prompt → a.count ≡ b.count → a.rows ≡ b.rows → a.looping ≡ b.looping
    → a.turning ≡ b.turning → a.earlier ≡ b.earlier → a.pending ≡ b.pending → a.line ≡ b.line → a.piece ≡ b.piece → a.kept ≡ b.kept → a ≡ b
same_fields a b flags places saved seed draws events prompt count rows looping turning earlier pending line piece kept =
    let e : rebuilt a ≡ rebuilt b = cc in e

-- ---- the length of the piece, and what stands after it ----

-- The bytes before the piece's length.
pub before_piece : Fields → Bytes
before_piece f =
    f.flags ++ (f.places ++ ((f.saved.there ∷ []) ++ (f.saved.flags ++ (f.saved.places
    ++ ((to_le_bytes w64 f.seed ++ (to_le_bytes w64 f.draws ++ (to_le_bytes w64 f.events ++ (f.prompt ∷ f.count ∷ []))))
    ++ (flat_map frame_shape.bytes f.rows ++ ((f.looping ∷ (loop_shape.bytes f.turning ++ (f.earlier ∷ f.pending ∷ []))) ++ f.line)))))))

parted : (a b c d e n r l m z : List ℕ) →
    a ++ (b ++ ((c ++ (d ++ e)) ++ (n ++ (r ++ (l ++ (m ++ z)))))) ≡ (a ++ (b ++ (c ++ (d ++ (e ++ (n ++ (r ++ (l ++ m)))))))) ++ z
parted a b c d e n r l m z = simp append_assoc

pub state_ends : (f : Fields) → field_bytes f ≡ before_piece f ++ (two_bytes f.piece ++ after_piece f)
unfolding before_piece
state_ends f =
    parted f.flags f.places (f.saved.there ∷ []) f.saved.flags f.saved.places
    (to_le_bytes w64 f.seed ++ (to_le_bytes w64 f.draws ++ (to_le_bytes w64 f.events ++ (f.prompt ∷ f.count ∷ []))))
    (flat_map frame_shape.bytes f.rows) (f.looping ∷ (loop_shape.bytes f.turning ++ (f.earlier ∷ f.pending ∷ []))) f.line
    (two_bytes f.piece ++ after_piece f)

-- A state that has nothing to show there: it keeps no position.
abbrev pub IsOlder : State → Type 0
IsOlder s = s.world.kept ≡ replicate POSITION_COUNT None

none_bytes : flat_map position_shape.bytes (map position_field_of (replicate POSITION_COUNT None)) ≡ zeros (STATE_LENGTH - KEPT)
unfolding zeros
none_bytes = refl

pub older_bytes : (s : State) → IsOlder s → after_piece (fields_of s) ≡ zeros (STATE_LENGTH - KEPT)
older_bytes s none = ap (λ (ks : List (Option Position)). flat_map position_shape.bytes (map position_field_of ks)) none ∙ none_bytes

-- ---- the list, from its parts on ----

-- From the length of the piece on.
abbrev pub from_piece : Fields → List Field
from_piece f = two f.piece (λ g. true) ∷ flat_map position_fields f.kept

-- From the verb of the sentence before on.
abbrev pub from_pending : Fields → List Field
from_pending f = pending_fields f ++ from_piece f

-- From the loop on.
abbrev pub from_looping : Fields → List Field
from_looping f = looping_fields f ++ from_pending f

-- From the frames of the open tables on.
abbrev pub from_tables : Fields → List Field
from_tables f = table_fields f ++ from_looping f

-- From the prompt on.
abbrev pub from_prompt : Fields → List Field
from_prompt f = prompt_fields f ++ from_tables f

-- From the seed on.
abbrev pub from_numbers : Fields → List Field
from_numbers f = number_fields f ++ from_prompt f

-- From the saved position on.
abbrev pub from_saved : Fields → List Field
from_saved f = position_fields f.saved ++ from_numbers f

-- From the places on.
abbrev pub from_places : Fields → List Field
from_places f = place_fields f.places ++ from_saved f

grouped : (a b c d e h i j k : List Field) → a ++ b ++ c ++ d ++ e ++ h ++ i ++ j ++ k ≡ a ++ (b ++ (c ++ (d ++ (e ++ (h ++ (i ++ (j ++ k)))))))
grouped a b c d e h i j k = simp append_assoc

pub listed : (f : Fields) → state_fields f ≡ flag_fields f.flags ++ from_places f
unfolding state_fields
listed f =
    grouped (flag_fields f.flags) (place_fields f.places) (position_fields f.saved) (number_fields f) (prompt_fields f) (table_fields f) (looping_fields f)
    (pending_fields f) (from_piece f)

pub bytes_same : (f : Fields) → bytes_of (state_fields f) ≡ field_bytes f
bytes_same f =
    let piece : bytes_of (from_piece f) ≡ two_bytes f.piece ++ after_piece f = ap (λ (l : Bytes). two_bytes f.piece ++ l) (kept_same f.kept) in
    let pending = join (pending_fields f) (from_piece f) ((f.earlier ∷ f.pending ∷ []) ++ f.line) _ (pending_same f) piece in
    let looping = join (looping_fields f) (from_pending f) ((f.looping ∷ []) ++ loop_shape.bytes f.turning) _ (looping_same f) pending in
    let tables = join (table_fields f) (from_looping f) (flat_map frame_shape.bytes f.rows) _
    (frames_same (unwrap_or (inside f) 0) (λ g. None) f.count f.rows) looping in
    let prompts = join (prompt_fields f) (from_tables f) (f.prompt ∷ f.count ∷ []) _ refl tables in
    let numbers = join (number_fields f) (from_prompt f) (bytes_of (number_fields f)) _ refl prompts in
    let saved = join (position_fields f.saved) (from_numbers f) (position_shape.bytes f.saved) _ (held_same f.saved) numbers in
    let places = join (place_fields f.places) (from_saved f) f.places _ (each_bytes _ 0 f.places) saved in
    ap bytes_of (listed f) ∙ join (flag_fields f.flags) (from_places f) f.flags _ (each_bytes _ 0 f.flags) places

pub state_same : (s : State) → state_bytes s ≡ field_bytes (fields_of s)
state_same s = bytes_same (fields_of s)

-- ---- lengths ----

-- The arrays have their lengths.
pub record HasLengths (f : Fields) : Type 0 where
  pub flags : length f.flags ≡ FLAG_COUNT
  pub places : length f.places ≡ OBJECT_LIMIT
  pub saved : IsSizedPosition f.saved
  pub rows : length f.rows ≡ MOST_FRAMES
  pub line : length f.line ≡ LINE_LIMIT
  pub kept : All IsSizedPosition f.kept

-- Fields of which the arrays have their lengths.
pub lengths_sized : (f : Fields) → AreSized f → HasLengths f
lengths_sized f s = record { flags = s.flags; places = s.places; saved = s.saved; rows = s.rows; line = s.line; kept = s.kept }
