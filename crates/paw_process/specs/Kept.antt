-- What is kept of a machine that waits, and words of the rules that it follows.
use Rattle.std.specs.Prelude.{ℕ, ◌-◌, ◌==◌, ◌&&◌, Bool, false, List, ◌++◌, Option, Some, None, length, replicate}
use Rattle.std.specs.Prelude.{nat_lt, nat_le}
use Rattle.std.specs.Option.{option_map_or}
use Rattle.paw_base.specs.declared.parts.Condact.{Condact}
use Rattle.paw_base.specs.declared.tables.TheConstants.{FRAME_TABLE}
use Rattle.paw_reading.specs.declared.frames.Frame.{Frame}
use Rattle.paw_reading.specs.declared.frames.OpenLoop.{OpenLoop}
pub use Rattle.paw_reading.specs.Waits.{waiting_code}
use Rattle.paw_process.specs.declared.machine.TheConstants.{MOST_FRAMES}
use Rattle.paw_process.specs.declared.kept.Frames.{Frames}

-- The frames of a path, the outermost first, filled up with unused frames to the most that may be open, and its loop.
abbrev pub frames_at : List Frame → Option OpenLoop → Frames
frames_at path turning =
    let unused : Frame = record { table = 0; entry = 0; at = 0; acted = false } in record {
      count = length path;
      rows = path ++ replicate (MOST_FRAMES - length path) unused;
      turning = turning;
    }

-- ---- words of their rules ----

-- Whether this table may be open: the outermost is 0, 1 or 2 (FRAME_TABLE), and any other is the one that is called.
abbrev pub may_open : Option ℕ → ℕ → Bool
may_open None t = nat_le t FRAME_TABLE
may_open (Some u) t = t == u

-- Whether a condact is there and has this code.
abbrev pub has_code : ℕ → Option Condact → Bool
has_code code o = option_map_or (λ c. c.code == code) o false

-- The first parameter of a condact; 0 where there is none.
abbrev pub parameter_of : Option Condact → ℕ
parameter_of o = option_map_or (λ c. c.a) o 0

-- Whether the number of open tables fits: one to eleven where a machine waits inside tables, and none otherwise.
abbrev pub count_fits : Option ℕ → ℕ → Bool
count_fits None n = n == 0
count_fits (Some code) n = nat_lt 0 n && nat_le n MOST_FRAMES
