-- What a session keeps of a game that is played, and the rules that it follows: words that contracts between crates and
-- proofs use besides those of specs/State.antt.
use Rattle.std.specs.Option.{unwrap_or}
use Rattle.std.specs.Prelude.{◌≡◌, ℕ, ◌+◌, ◌*◌, ◌≤◌, [], Option, None, length, reverse, All, IfNone}
use Rattle.paw_base.specs.Bytes.{Bytes}
use Rattle.paw_base.specs.declared.limits.TheConstants.{LINE_LIMIT, READ_LIMIT, EVENT_LIMIT}
use Rattle.paw_game.specs.Game.{GameLists}
use Rattle.paw_world.specs.World.{World, IsWorld}
use Rattle.paw_phrase.specs.Pending.{PendingLine}
use Rattle.paw_effects.specs.declared.act.Prompt.{Prompt}
use Rattle.paw_effects.specs.Worlds.{IsOf}
use Rattle.paw_effects.specs.inner.Worlds.{ArePlacesOf, StandsIn}
use Rattle.paw_process.specs.inner.OpenTables.{OpenTables}
use Rattle.paw_process.specs.declared.machine.TheConstants.{MOST_FRAMES}
use Rattle.paw_process.specs.Kept.{waiting_code}
use Rattle.paw_process.specs.inner.Kept.{machine_kept}
use Rattle.paw_process.specs.inner.Kept.{frames_fault}
use Rattle.paw_process.specs.declared.kept.Frames.{Frames}
use Rattle.paw_reading.specs.declared.frames.Frame.{Frame}
use Rattle.paw_reading.specs.declared.frames.OpenLoop.{OpenLoop}
use Rattle.paw_reading.specs.Run.{Run}
use Rattle.paw_state.specs.declared.fields.Fields.{Fields}
use Rattle.paw_state.specs.declared.parts.Restored.{Restored}
use Rattle.paw_state.specs.Fields.{prompt_of}
use Rattle.paw_state.specs.State.{State, last_piece, state_at, frame_field_of}
use Rattle.paw_state.specs.inner.Fields.{frame_shape}
use Rattle.paw_state.specs.inner.Parts.{world_in, frames_in, pending_in}

-- The state of a game that waits at a prompt with these parts, its tables as they are kept.
abbrev pub state_with : World → Frames → PendingLine → Prompt → ℕ → ℕ → State
state_with w frames p at events piece =
    record { world = w; frames = frames; pending = p; prompt = at; events = events; piece = piece }

-- The state of a game that waits at a prompt with these parts.
abbrev pub state_of : World → OpenTables → PendingLine → Prompt → ℕ → ℕ → State
state_of w m p at events piece = state_with w (machine_kept m) p at events piece

-- The state of a run is that of the parts that it shows.
abbrev pub StateOfParts : Type 0
StateOfParts =
    (line_count : ℕ) (at : Prompt) (m : OpenTables) (r : Run) → r.turning ≡ m.turning →
    state_at line_count at (reverse m.frames) r
    ≡ state_of r.world m (record { bytes = r.pending; earlier = r.earlier })
    at line_count (length (last_piece r.pieces))

-- The state of these fields.
abbrev pub state_in : GameLists → Fields → State
state_in g f = record {
  world = world_in g f;
  frames = frames_in f;
  pending = pending_in f;
  prompt = prompt_of f.prompt;
  events = f.events;
  piece = f.piece;
}

-- The state of parts that were read.
abbrev pub state_read : Restored → State
state_read r = state_of r.world r.machine r.pending r.prompt r.events r.piece

-- The loop, or one that is all 0 where there is none.
abbrev pub loop_or_zeros : Option OpenLoop → OpenLoop
loop_or_zeros o = unwrap_or o (record { level = 0; table = 0; entry = 0; at = 0; place = 0; last = 0 })

-- The bytes of a frame.
abbrev pub frame_bytes : Frame → Bytes
frame_bytes f = frame_shape.bytes (frame_field_of f)

-- ---- its rules, one by one ----

-- The rules of a state: the world is the game's, and sound, with each object at a place, now, in the saved position and
-- in the kept ones; at most 1,000,000,000 lines were taken; the words drawn are at most 200,000 for each line, and
-- 200,000 for the piece before the first; the open tables and the open loop are such as a game waits in at the prompt,
-- with room for eleven frames; at most 255 bytes are pending, and none where no table is open.
pub record FollowsEachRule (g : GameLists) (s : State) : Type 0 where
  pub world : IsOf g s.world
  pub sound : IsWorld s.world
  pub places : ArePlacesOf g s.world.places × (StandsIn g s.world.saved × All (StandsIn g) s.world.kept)
  pub events : s.events ≤ EVENT_LIMIT
  pub draws : s.world.draws ≤ READ_LIMIT * (s.events + 1)
  pub rows : length s.frames.rows ≡ MOST_FRAMES
  pub frames : frames_fault g s.prompt s.frames ≡ None
  pub line : length s.pending.bytes ≤ LINE_LIMIT
  pub pending : IfNone (waiting_code s.prompt) (s.pending.bytes ≡ [])
