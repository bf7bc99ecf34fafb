-- What the fields of a state stand for.
use Rattle.std.specs.Prelude.{◌≡◌, ℕ, ◌==◌, Option, Some, None, length, map, take, if◌then◌else◌}
use Rattle.paw_game.specs.Game.{GameLists}
use Rattle.paw_world.specs.World.{World, Position}
use Rattle.paw_phrase.specs.Pending.{PendingLine}
use Rattle.paw_reading.specs.declared.frames.Frame.{Frame}
use Rattle.paw_reading.specs.declared.frames.OpenLoop.{OpenLoop}
use Rattle.paw_process.specs.declared.kept.Frames.{Frames}
use Rattle.paw_state.specs.declared.fields.FrameField.{FrameField}
use Rattle.paw_state.specs.declared.fields.Fields.{Fields}
use Rattle.paw_state.specs.declared.position_field.PositionField.{PositionField}

-- The position, if it is there: its flags, and the places of this number of objects.
abbrev pub position_in : ℕ → PositionField → Option Position
position_in objects h = if h.there == 0 then None else Some (record { flags = h.flags; places = take objects h.places })

-- The world of the game with these flags, places, positions and draws.
abbrev pub world_in : GameLists → Fields → World
world_in g f = record {
  facts = map (λ o. o.facts) g.objects;
  locations = length g.locations;
  flags = f.flags;
  places = take (length g.objects) f.places;
  saved = position_in (length g.objects) f.saved;
  kept = map (position_in (length g.objects)) f.kept;
  seed = f.seed;
  draws = f.draws;
}

-- The frame that these fields say.
abbrev pub frame_in : FrameField → Frame
frame_in r = record { table = r.table; entry = r.entry; at = r.at; acted = (r.acted == 1) }

-- The open loop, if there is one.
abbrev pub open_loop_in : Fields → Option OpenLoop
open_loop_in f = if f.looping == 0 then None else Some f.turning

-- The frames of the open tables, and the open loop.
abbrev pub frames_in : Fields → Frames
frames_in f = record { count = f.count; rows = map frame_in f.rows; turning = open_loop_in f }

-- The pending bytes, and the earlier verb.
abbrev pub pending_in : Fields → PendingLine
pending_in f = record { bytes = take f.pending f.line; earlier = f.earlier }

-- The flags and the places of a position become those of the world, now and saved.
abbrev pub SetsSaved : PositionField → World → World → Type 0
SetsSaved h old new =
    new ≡ record old {
      flags = h.flags;
      places = take (length old.places) h.places;
      saved = Some (record { flags = h.flags; places = take (length old.places) h.places });
    }
