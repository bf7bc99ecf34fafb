-- What the reading of a table takes, as the bound on a whole play rests on it.
use Rattle.std.specs.Prelude.{◌≡◌, ℕ, ◌+◌, ◌≤◌, ◌<◌, true, [], ◌∷◌, None, length, All}
use Rattle.paw_base.specs.declared.limits.TheConstants.{READ_LIMIT, PIECE_LIMIT}
use Rattle.paw_base.specs.declared.messages.TheConstants.{GOODBYE_MESSAGE}
use Rattle.paw_base.specs.declared.tables.TheConstants.{DESCRIBED_TABLE, FRAME_TABLE}
use Rattle.paw_game.specs.Game.{GameLists}
use Rattle.paw_effects.specs.Story.{Story}
use Rattle.paw_effects.specs.inner.Standing.{IsWorldOf}
use Rattle.paw_reading.specs.Bounds.{IsLine, ValidStory}
use Rattle.paw_reading.specs.Run.{Run}
use Rattle.paw_reading.specs.declared.halt.Halt.TheVariants as halt
use Rattle.paw_reading.specs.Reading.{Redescribes, Restarts, Halts, Out, Left, Waits, Stopped, table_read}
use Rattle.paw_check.specs.Measures.{most_said}
use Rattle.paw_check.specs.Prints.{most_text}
use Rattle.paw_check.specs.Costs.{most_cost}
use Rattle.paw_check.specs.Verbs.{is_among}
use Rattle.paw_check.specs.Verdicts.{call_too_deep, circle_of_descriptions}
use Rattle.paw_check.specs.Promise.{PiecesWithin}

-- ---- what stands before and after a table ----

-- A bound that pieces may reach: it is within the limits of a piece, and leaves room for the goodbye of a game that is
-- over, which stands in a piece of its own.
pub record IsBound (condacts text : ℕ) (g : GameLists) : Type 0 where
  pub reads : condacts ≤ READ_LIMIT
  pub bytes : text ≤ PIECE_LIMIT
  pub goodbye : most_said g GOODBYE_MESSAGE ≤ text

-- A run outside tables, or one that has just left them: it is in a world of its game, at most `pending` bytes of its
-- line are left, no loop is open, the lines to come are lines, and each closed piece is within the bound.
pub record IsReadyWithin (condacts text pending : ℕ) (g : GameLists) (r : Run) : Type 0 where
  pub world : IsWorldOf g r.world
  pub earlier : r.earlier < 256
  pub line : length r.pending ≤ pending
  pub loop : r.turning ≡ None
  pub lines : All IsLine r.events
  pub closed : PiecesWithin condacts text r

-- The open piece has at most this many bytes, and at most this many condacts were read for it.
pub record HasUsed (reads bytes : ℕ) (r : Run) : Type 0 where
  pub read : length r.read ≤ reads
  pub current : length r.current ≤ bytes

-- ---- how a table ends ----

-- The most condacts that are read while a table is.
abbrev pub reads_of : GameLists → ℕ → ℕ
reads_of g t = most_cost g (λ c. 1) t

-- The most bytes that are printed while a table is read.
abbrev pub table_text : GameLists → ℕ → ℕ
table_text g t = most_cost g (most_text g) t

-- A table is left, or describes the location again, with at most this much of the open piece used, and no more of the
-- line left than before. Or the game starts anew after an answer: then nothing of the open piece is used, and nothing
-- of the line is left. Or it waits, or the game is over. Each piece that it closed is within the bound. No piece is
-- spent, and no call is too deep.
abbrev pub TableWithin : (condacts text pending : ℕ) → GameLists → (reads bytes : ℕ) → Out → Type 0
TableWithin condacts text pending g reads bytes (Left acted r) =
    IsReadyWithin condacts text pending g r × HasUsed reads bytes r
TableWithin condacts text pending g reads bytes (Waits p path r) = PiecesWithin condacts text r
TableWithin condacts text pending g reads bytes (Stopped Redescribes r) =
    IsReadyWithin condacts text pending g r × HasUsed reads bytes r
TableWithin condacts text pending g reads bytes (Stopped Restarts r) =
    IsReadyWithin condacts text 0 g r × HasUsed 0 0 r
TableWithin condacts text pending g reads bytes (Stopped (Halts halt.Over) r) = PiecesWithin condacts text r
TableWithin condacts text pending g reads bytes (Stopped (Halts _) r) = ⊥

-- Where no call is too deep, each table of a turn is read within the bound: from a run that has used a part of the open
-- piece, where that part and what the table takes are within it.
abbrev pub TablesWithin : Type 0
TablesWithin =
    (g : Story) (condacts text pending reads bytes t : ℕ) (r : Run) → ValidStory g → call_too_deep g.game ≡ None →
    IsBound condacts text g.game → t ≤ FRAME_TABLE → IsReadyWithin condacts text pending g.game r →
    HasUsed reads bytes r →
    reads + reads_of g.game t ≤ condacts → bytes + table_text g.game t ≤ text →
    TableWithin condacts text pending g.game (reads + reads_of g.game t) (bytes + table_text g.game t)
    (table_read g t r)

-- ---- tables that don't describe again ----

-- The location isn't described again.
abbrev pub LeavesDescribed : Out → Type 0
LeavesDescribed (Stopped Redescribes r) = ⊥
LeavesDescribed _ = Unit {0}

-- Where no condact that may describe the location again is reached from the table that is read after a description and
-- the one of time frames, these two never describe it again.
abbrev pub TablesLeaveDescribed : Type 0
TablesLeaveDescribed =
    (g : Story) (t : ℕ) (r : Run) → ValidStory g → circle_of_descriptions g.game ≡ None →
    is_among (DESCRIBED_TABLE ∷ FRAME_TABLE ∷ []) t ≡ true → r.turning ≡ None → LeavesDescribed (table_read g t r)
