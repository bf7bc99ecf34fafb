-- The shape of a state's fields: how each stands in bytes, in order, a row for each. The bytes that are written, the
-- places of the fields and what is read there follow from it. specs/Fields.antt has the bytes in one list, with the
-- rules.
use Rattle.std.specs.Prelude.{ℕ, List, [], ◌∷◌, Option, None, flat_map}
use Rattle.std.specs.Option.{unwrap_or}
use Rattle.paw_base.specs.Bytes.{Bytes}
use Rattle.paw_base.specs.declared.limits.TheConstants.{FLAG_COUNT, OBJECT_LIMIT, LINE_LIMIT, POSITION_COUNT}
use Rattle.paw_game.specs.Game.{GameLists}
use Rattle.paw_reading.specs.declared.frames.OpenLoop.{OpenLoop}
use Rattle.paw_process.specs.declared.machine.TheConstants.{MOST_FRAMES}
use Rattle.paw_state.specs.declared.fields.FrameField.{FrameField}
use Rattle.paw_state.specs.declared.fields.Fields.{Fields}
use Rattle.paw_state.specs.declared.position_field.PositionField.{PositionField}
use Rattle.paw_state.specs.declared.fields.TheConstants.{PLACES, SAVED, SEED, PROMPT, FRAMES, LOOPING, EARLIER, KEPT}
use Rattle.paw_state.specs.Fields.{fault_from, number_fields, prompt_fields, looping_fields, pending_fields, inside}
use Rattle.paw_state.specs.inner.Faults.{first, places_fault, position_fault, frame_fields_fault, kept_fault}
use Rattle.paw_state.specs.inner.Shapes.{Shape, one_byte, two_byte, eight_byte, array, times}
use Rattle.paw_state.specs.inner.Shapes.{field, last_field, made_of}

-- ---- shapes ----

-- The frame of these parts.
abbrev pub frame_with : ℕ → ℕ → ℕ → ℕ → FrameField
frame_with table entry at acted = record { table = table; entry = entry; at = at; acted = acted }

-- A frame: table, entry, condact, and 1 where an action was carried out.
abbrev pub frame_shape : Shape FrameField
frame_shape = made_of frame_with
    (field (λ f. f.table) one_byte
    (field (λ f. f.entry) two_byte
    (field (λ f. f.at) one_byte
    (last_field (λ f. f.acted) one_byte))))

-- The loop of these parts.
abbrev pub loop_with : ℕ → ℕ → ℕ → ℕ → ℕ → ℕ → OpenLoop
loop_with level table entry at place last =
    record { level = level; table = table; entry = entry; at = at; place = place; last = last }

-- The open loop: level, table, entry, condact, place, last object.
abbrev pub loop_shape : Shape OpenLoop
loop_shape = made_of loop_with
    (field (λ l. l.level) one_byte
    (field (λ l. l.table) one_byte
    (field (λ l. l.entry) two_byte
    (field (λ l. l.at) one_byte
    (field (λ l. l.place) one_byte
    (last_field (λ l. l.last) one_byte))))))

-- The position of these parts.
abbrev pub position_with : ℕ → Bytes → Bytes → PositionField
position_with there flags places = record { there = there; flags = flags; places = places }

-- A position that may be there: whether it is, its flags, and its places.
abbrev pub position_shape : Shape PositionField
position_shape = made_of position_with
    (field (λ h. h.there) one_byte
    (field (λ h. h.flags) (array FLAG_COUNT)
    (last_field (λ h. h.places) (array OBJECT_LIMIT))))

-- The fields of these parts.
abbrev pub fields_with : Bytes → Bytes → PositionField → ℕ → ℕ → ℕ → ℕ → ℕ → List FrameField → ℕ → OpenLoop
    → ℕ → ℕ → Bytes → ℕ → List PositionField → Fields
fields_with flags places saved seed draws events prompt count rows looping turning earlier pending line piece kept =
    record {
      flags = flags;
      places = places;
      saved = saved;
      seed = seed;
      draws = draws;
      events = events;
      prompt = prompt;
      count = count;
      rows = rows;
      looping = looping;
      turning = turning;
      earlier = earlier;
      pending = pending;
      line = line;
      piece = piece;
      kept = kept;
    }

-- The fields of a state.
abbrev pub fields_shape : Shape Fields
fields_shape = made_of fields_with
    (field (λ f. f.flags) (array FLAG_COUNT)
    (field (λ f. f.places) (array OBJECT_LIMIT)
    (field (λ f. f.saved) position_shape
    (field (λ f. f.seed) eight_byte
    (field (λ f. f.draws) eight_byte
    (field (λ f. f.events) eight_byte
    (field (λ f. f.prompt) one_byte
    (field (λ f. f.count) one_byte
    (field (λ f. f.rows) (times MOST_FRAMES frame_shape)
    (field (λ f. f.looping) one_byte
    (field (λ f. f.turning) loop_shape
    (field (λ f. f.earlier) one_byte
    (field (λ f. f.pending) one_byte
    (field (λ f. f.line) (array LINE_LIMIT)
    (field (λ f. f.piece) two_byte
    (last_field (λ f. f.kept) (times POSITION_COUNT position_shape)))))))))))))))))

-- The bytes after the length of the last piece, which a state of version 1 doesn't have: those of the kept positions.
abbrev pub after_piece : Fields → Bytes
after_piece f = flat_map position_shape.bytes f.kept

-- The bytes of a state's fields.
abbrev pub field_bytes : Fields → Bytes
field_bytes f = fields_shape.bytes f

-- The fields in these bytes, each at its offset.
abbrev pub fields_at : Bytes → Fields
fields_at bytes = fields_shape.value bytes 0

-- ---- faults ----

-- The first fault of the parts of a state, each at its offset.
abbrev pub parts_fault : GameLists → Fields → Option ℕ
parts_fault g f = first (
    places_fault g PLACES f.places
    ∷ position_fault g SAVED f.saved
    ∷ fault_from g SEED (number_fields f)
    ∷ fault_from g PROMPT (prompt_fields f)
    ∷ frame_fields_fault g (unwrap_or (inside f) 0) None f.count FRAMES f.rows
    ∷ fault_from g LOOPING (looping_fields f)
    ∷ fault_from g EARLIER (pending_fields f)
    ∷ kept_fault g KEPT f.kept
    ∷ [])
