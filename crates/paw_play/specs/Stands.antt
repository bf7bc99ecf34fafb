-- What the bytes of a store stand for, and a reading from one of its pieces on.
use Rattle.std.specs.Prelude.{ℕ, suc, ◌^◌, ◌<◌, ◌≤◌, ◌++◌, length, drop, All}
use Rattle.paw_base.specs.Bytes.{Bytes, Lines, Seed}
use Rattle.paw_base.specs.declared.limits.TheConstants.{EVENT_LIMIT}
use Rattle.paw_effects.specs.Story.{Story}
use Rattle.paw_reading.specs.Run.{Run}
use Rattle.paw_reading.specs.Turn.{Ending, WaitsAt, Halted, Unended, reading}
use Rattle.paw_reading.specs.Bounds.{IsLine, ValidStory}
use Rattle.paw_journal.specs.Session.{Digests, recover}
use Rattle.paw_play.specs.Session.{IsOfStory, IsKept}
use Rattle.paw_play.specs.Walk.{EndingOf}

-- The bytes of a store stand for these lines of a story that was begun with this seed: the lines aren't too many for a
-- session, and the bytes hold one of the story, with these digests, that keeps the reading of them all.
pub record Stands (g : Story) (seed : Seed) (es : Lines) (bytes : Bytes) : Type 0 where
  pub few : length es ≤ EVENT_LIMIT
  pub digests : Digests
  pub belongs : IsOfStory g digests
  pub keeps : IsKept digests (length es) (reading g seed es) (recover bytes)

-- A valid story is played with a seed of 64 bits and these lines, each of at most 255 bytes.
pub record IsPlayedWith (g : Story) (seed : Seed) (es : Lines) : Type 0 where
  pub valid : ValidStory g
  pub fits : seed < 2 ^ 64
  pub lines : All IsLine es

-- ---- a reading from one of its pieces on ----

-- The run with its closed pieces from number n on, and the steps of the pieces from number n + 1 on.
abbrev pub since_piece : ℕ → Run → Run
since_piece n r = record r { pieces = drop n r.pieces; traces = drop (suc n) r.traces }

-- The same ending, with its run from closed piece n on.
abbrev pub ending_since : ℕ → Ending → Ending
ending_since n (WaitsAt p path r) = WaitsAt p path (since_piece n r)
ending_since n (Halted halt r) = Halted halt (since_piece n r)
ending_since n Unended = Unended

-- The reading of the lines es and of more lines, from the last piece of es on.
abbrev pub reading_since : Story → Seed → Lines → EndingOf
reading_since g seed es lines = ending_since (length es) (reading g seed (es ++ lines))
