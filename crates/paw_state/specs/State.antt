-- What a session keeps of a game that is played, its fields and bytes, and the rules that it follows.
use Rattle.std.specs.Prelude.{◌≡◌, ℕ, ◌-◌, ◌^◌, ◌<◌, ◌≤◌, List, [], ◌∷◌, ◌++◌, Option, Some, None, length, map, is_some}
use Rattle.std.specs.Prelude.{All, IfSome, if◌then◌else◌}
use Rattle.std.specs.Option.{unwrap_or}
unfoldable pub use Rattle.paw_base.specs.Bytes.{zeros}
use Rattle.paw_base.specs.Bytes.{Bytes, Text, Texts}
use Rattle.paw_base.specs.declared.limits.TheConstants.{LINE_LIMIT, OBJECT_LIMIT, FLAG_COUNT}
use Rattle.paw_game.specs.Game.{GameLists}
use Rattle.paw_world.specs.World.{World, Position, IsWorld}
use Rattle.paw_phrase.specs.Pending.{PendingLine}
use Rattle.paw_effects.specs.declared.act.Prompt.{Prompt}
use Rattle.paw_effects.specs.declared.act.Prompt.TheVariants as prompt
use Rattle.paw_effects.specs.Worlds.{IsOf}
pub use Rattle.paw_effects.specs.Standing.{AreBytes}
use Rattle.paw_reading.specs.declared.frames.Frame.{Frame}
use Rattle.paw_reading.specs.Run.{Run}
use Rattle.paw_process.specs.declared.machine.TheConstants.{MOST_FRAMES}
use Rattle.paw_process.specs.declared.kept.Frames.{Frames}
use Rattle.paw_process.specs.Kept.{frames_at}
use Rattle.paw_state.specs.declared.fields.FrameField.{FrameField}
use Rattle.paw_state.specs.declared.fields.Fields.{Fields}
use Rattle.paw_state.specs.declared.position_field.PositionField.{PositionField}
use Rattle.paw_state.specs.Fields.{bytes_of, state_fields, fault_from}

-- What a session keeps of play: the world; the frames of the open tables; the pending line; the prompt; the number of
-- lines taken; and the length of the last piece.
pub record State : Type 0 where
  pub world : World
  pub frames : Frames
  pub pending : PendingLine
  pub prompt : Prompt
  pub events : ℕ
  pub piece : ℕ

-- ---- what a session keeps of a run ----

-- The piece that was closed last; empty where none was closed.
abbrev pub last_piece : Texts → Text
last_piece [] = []
last_piece (piece ∷ []) = piece
last_piece (piece ∷ next ∷ pieces) = last_piece (next ∷ pieces)

-- The state of a run that waits at a prompt with these open frames, the outermost first, after this number of lines.
abbrev pub state_at : ℕ → Prompt → List Frame → Run → State
state_at lines at path r = record {
  world = r.world;
  frames = frames_at path r.turning;
  pending = record { bytes = r.pending; earlier = r.earlier };
  prompt = at;
  events = lines;
  piece = length (last_piece r.pieces);
}

-- ---- its fields ----

-- These bytes, filled up with zeros to a length of n.
abbrev pub filled_with_zeros : ℕ → Bytes → Bytes
filled_with_zeros n bytes = bytes ++ zeros (n - length bytes)

-- The fields of a position, with its flags and places; all of them 0 where there is no position.
abbrev pub position_field_of : Option Position → PositionField
position_field_of None = record { there = 0; flags = zeros FLAG_COUNT; places = zeros OBJECT_LIMIT }
position_field_of (Some q) = record { there = 1; flags = q.flags; places = filled_with_zeros OBJECT_LIMIT q.places }

-- The code of a prompt, from 0 to 4.
abbrev pub prompt_code : Prompt → ℕ
prompt_code prompt.Main = 0
prompt_code prompt.Quit = 1
prompt_code prompt.Again = 2
prompt_code prompt.Key = 3
prompt_code prompt.Over = 4

-- The fields of a frame, with 1 where an action was carried out.
abbrev pub frame_field_of : Frame → FrameField
frame_field_of f = record { table = f.table; entry = f.entry; at = f.at; acted = (if f.acted then 1 else 0) }

-- The fields of a state; the one for a loop is 1 where a loop is open.
abbrev pub fields_of : State → Fields
fields_of s = record {
  flags = s.world.flags;
  places = filled_with_zeros OBJECT_LIMIT s.world.places;
  saved = position_field_of s.world.saved;
  kept = map position_field_of s.world.kept;
  seed = s.world.seed;
  draws = s.world.draws;
  events = s.events;
  prompt = prompt_code s.prompt;
  count = s.frames.count;
  rows = map frame_field_of s.frames.rows;
  looping = (if is_some s.frames.turning then 1 else 0);
  turning = unwrap_or s.frames.turning (record { level = 0; table = 0; entry = 0; at = 0; place = 0; last = 0 });
  earlier = s.pending.earlier;
  pending = length s.pending.bytes;
  line = filled_with_zeros LINE_LIMIT s.pending.bytes;
  piece = s.piece;
}

-- The bytes of a state.
abbrev pub state_bytes : State → Bytes
state_bytes s = bytes_of (state_fields (fields_of s))

-- ---- its rules ----

-- The rules of a state: the world is the game's, and sound; there is room for eleven frames; at most 255 bytes are
-- pending; and each of its fields follows its rule.
pub record IsValidState (g : GameLists) (s : State) : Type 0 where
  pub world : IsOf g s.world
  pub sound : IsWorld s.world
  pub rows : length s.frames.rows ≡ MOST_FRAMES
  pub line : length s.pending.bytes ≤ LINE_LIMIT
  pub fields : fault_from g 0 (state_fields (fields_of s)) ≡ None

-- The flags and the places of a position, where there is one, are bytes.
abbrev pub HoldsBytes : Option Position → Type 0
HoldsBytes o = IfSome o (λ q. AreBytes q.flags × AreBytes q.places)

-- The numbers of a state fit the fields that they are written to: bytes, and numbers of two and eight bytes.
pub record FitsFields (s : State) : Type 0 where
  pub flags : AreBytes s.world.flags
  pub places : AreBytes s.world.places
  pub saved : HoldsBytes s.world.saved
  pub kept : All HoldsBytes s.world.kept
  pub seed : s.world.seed < 2 ^ 64
  pub draws : s.world.draws < 2 ^ 64
  pub events : s.events < 2 ^ 64
  pub earlier : s.pending.earlier < 256
  pub line : AreBytes s.pending.bytes
  pub piece : s.piece < 2 ^ 16
