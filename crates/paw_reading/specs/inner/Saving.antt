-- The positions that a game keeps: words that contracts between crates and proofs use besides those of
-- specs/Saving.antt.
use Rattle.std.specs.Prelude.{◌≡◌, List, replicate, Option, None}
use Rattle.paw_base.specs.Bytes.{Lines, Seed}
use Rattle.paw_base.specs.declared.limits.TheConstants.{POSITION_COUNT}
use Rattle.paw_world.specs.World.{Position}
use Rattle.paw_effects.specs.Story.{Story}
use Rattle.paw_effects.specs.declared.act.Prompt.{Prompt}
use Rattle.paw_reading.specs.declared.frames.Frame.{Frame}
use Rattle.paw_reading.specs.Run.{Run}
use Rattle.paw_reading.specs.Turn.{Ending, WaitsAt, Halted, Unended, reading, going_on_from}
use Rattle.paw_reading.specs.Saving.{NeverSaves}

-- Four positions, none of which is there.
abbrev pub no_positions : List (Option Position)
no_positions = replicate POSITION_COUNT None

-- Where the reading waits, or play has ended for good, these positions are kept.
abbrev pub EndsKeeping : List (Option Position) → Ending → Type 0
EndsKeeping kept (WaitsAt p path r) = r.world.kept ≡ kept
EndsKeeping kept (Halted halt r) = r.world.kept ≡ kept
EndsKeeping kept Unended = Unit {0}

-- ---- the laws ----

-- No reading of a game that never saves keeps a position.
abbrev pub ReadingsKeepNoPosition : Type 0
ReadingsKeepNoPosition =
    (g : Story) (seed : Seed) (es : Lines) → NeverSaves g.game → EndsKeeping no_positions (reading g seed es)

-- Going on in such a game leaves the kept positions as they are.
abbrev pub GoingOnLeavesPositions : Type 0
GoingOnLeavesPositions =
    (g : Story) (p : Prompt) (path : List Frame) (r : Run) → NeverSaves g.game →
    EndsKeeping r.world.kept (going_on_from g p path r)
