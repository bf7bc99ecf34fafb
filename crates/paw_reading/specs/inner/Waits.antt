-- Where a run may wait: words that contracts between crates and proofs use besides those of specs/Waits.antt.
use Rattle.std.specs.Prelude.{◌≡◌, ◌≢◌, ℕ, suc, ◌<◌, ◌≤◌, List, [], ◌∷◌, Option, Some}
use Rattle.std.specs.Prelude.{None, length, map, slice_get, IfSome, IsTrue, All}
use Rattle.paw_base.specs.Bytes.{Lines, Seed}
use Rattle.paw_base.specs.declared.codes.TheConstants.{PROCESS, DOALL}
use Rattle.paw_base.specs.declared.limits.TheConstants.{LEVEL_LIMIT}
use Rattle.paw_base.specs.declared.parts.Condact.{Condact}
use Rattle.paw_game.specs.Game.{GameLists}
use Rattle.paw_game.specs.Tables.{condact_at}
use Rattle.paw_game.specs.Valid.{is_place}
use Rattle.paw_effects.specs.declared.act.Prompt.{Prompt}
use Rattle.paw_effects.specs.declared.act.Prompt.TheVariants as prompt
use Rattle.paw_effects.specs.inner.Standing.{IsWorldOf}
use Rattle.paw_effects.specs.Story.{Story}
use Rattle.paw_reading.specs.declared.frames.Frame.{Frame}
use Rattle.paw_reading.specs.declared.frames.OpenLoop.{OpenLoop}
use Rattle.paw_reading.specs.Run.{Run}
use Rattle.paw_reading.specs.Bounds.{IsLine, ValidStory}
use Rattle.paw_reading.specs.inner.Bounds.{IsBounded}
use Rattle.paw_reading.specs.declared.halt.Halt.TheVariants as halt
use Rattle.paw_reading.specs.Turn.{Ending, WaitsAt, Halted, reading, first_table, going_on_from}
use Rattle.paw_reading.specs.Waits.{waiting_code}

-- A condact with this code stands at this frame.
pub record IsAt (g : GameLists) (code t e k : ℕ) : Type 0 where
  pub condact : Condact
  pub stands : condact_at g t e k ≡ Some condact
  pub is : condact.code ≡ code

-- A PROCESS stands at the frame, and calls this table.
pub record IsCallOf (g : GameLists) (u : ℕ) (f : Frame) : Type 0 where
  pub condact : Condact
  pub stands : condact_at g f.table f.entry f.at ≡ Some condact
  pub process : condact.code ≡ PROCESS
  pub called : condact.a ≡ u

-- Each frame but the last stands at a call of the next one's table, and the last at a condact with this code.
abbrev pub LeadsTo : GameLists → ℕ → List Frame → Type 0
LeadsTo g code [] = ⊥
LeadsTo g code (f ∷ []) = IsAt g code f.table f.entry f.at
LeadsTo g code (f ∷ h ∷ path) = IsCallOf g h.table f × LeadsTo g code (h ∷ path)

-- The tables that are open, the outermost first.
abbrev pub tables_of : List Frame → List ℕ
tables_of path = map (λ f. f.table) path

-- A loop of one of these tables, by its level: it was opened by a DOALL, goes over the objects at a place of the game,
-- and took one of the game's objects last.
pub record IsLoopIn (g : GameLists) (tables : List ℕ) (l : OpenLoop) : Type 0 where
  pub level : slice_get tables l.level ≡ Some l.table
  pub doall : IsAt g DOALL l.table l.entry l.at
  pub place : IsTrue (is_place (length g.locations) l.place)
  pub last : l.last < length g.objects

-- A loop of the outermost level belongs to this table.
abbrev pub IsLoopOf : ℕ → Option OpenLoop → Type 0
IsLoopOf t turning = IfSome turning (λ l. l.level ≡ 0 → l.table ≡ t)

-- Tables are open from 0, 1 or 2 to a condact with this code, eleven at most, and the loop is one of theirs.
pub record AreOpenTo (g : GameLists) (code : ℕ) (path : List Frame) (turning : Option OpenLoop) : Type 0 where
  pub few : length path ≤ suc LEVEL_LIMIT
  pub outermost : first_table path ≤ 2
  pub leads : LeadsTo g code path
  pub loop : IfSome turning (IsLoopIn g (tables_of path))

-- Tables are open to this condact; without one nothing is open.
abbrev pub AreOpenAt : GameLists → Option ℕ → List Frame → Option OpenLoop → Type 0
AreOpenAt g None path turning = (path ≡ []) × (turning ≡ None)
AreOpenAt g (Some code) path turning = AreOpenTo g code path turning

-- The frames and the loop of a run that waits at this prompt, or is over: in tables it waits at the prompt's condact.
abbrev pub AreFramesAndLoop : GameLists → Prompt → List Frame → Option OpenLoop → Type 0
AreFramesAndLoop g p path turning = AreOpenAt g (waiting_code p) path turning

-- With no table open nothing is left of the line.
abbrev pub IsLineTaken : List Frame → Run → Type 0
IsLineTaken path r = path ≡ [] → r.pending ≡ []

-- A run stands as it may at its prompt: its world is the game's; what is left of the line has at most 255 bytes, and
-- with no table open nothing is left; the earlier verb is a byte; and the open piece is empty, with nothing read in it.
pub record StandsRightly (g : GameLists) (p : Prompt) (path : List Frame) (r : Run) : Type 0 where
  pub world : IsWorldOf g r.world
  pub frames : AreFramesAndLoop g p path r.turning
  pub line : IsLineTaken path r
  pub pending : IsLine r.pending
  pub earlier : r.earlier < 256
  pub piece : r.current ≡ []
  pub read : r.read ≡ []

-- A reading that waits, or is over, stands as it may.
abbrev pub StopsRightly : GameLists → Ending → Type 0
StopsRightly g (WaitsAt p path r) = (p ≢ prompt.Over) × StandsRightly g p path r
StopsRightly g (Halted halt.Over r) = StandsRightly g prompt.Over [] r
StopsRightly g _ = Unit {0}

-- ---- the laws ----

-- Each reading of a valid story stops rightly.
abbrev pub ReadingsStopRightly : Type 0
ReadingsStopRightly =
    (g : Story) (seed : Seed) (es : Lines) → ValidStory g → All IsLine es → StopsRightly g.game (reading g seed es)

-- Going on from where a run stands as it may stops rightly.
abbrev pub GoingOnStopsRightly : Type 0
GoingOnStopsRightly =
    (g : Story) (p : Prompt) (path : List Frame) (r : Run) → ValidStory g → All IsLine r.events →
    StandsRightly g.game p path r → StopsRightly g.game (going_on_from g p path r)

-- A reading that waits, or is over, stays within the bounds.
abbrev pub StopsBounded : Seed → ℕ → Ending → Type 0
StopsBounded seed n (WaitsAt p path r) = IsBounded seed n r
StopsBounded seed n (Halted halt.Over r) = IsBounded seed n r
StopsBounded seed n _ = Unit {0}

-- Each reading of a valid story stays within the bounds.
abbrev pub ReadingsAreBounded : Type 0
ReadingsAreBounded =
    (g : Story) (seed : Seed) (es : Lines) → ValidStory g → All IsLine es → StopsBounded seed 0 (reading g seed es)

-- Going on from where a run stands as it may, within the bounds, stays within them.
abbrev pub GoingOnIsBounded : Type 0
GoingOnIsBounded =
    (g : Story) (seed : Seed) (n : ℕ) (p : Prompt) (path : List Frame) (r : Run) → ValidStory g → All IsLine r.events →
    StandsRightly g.game p path r → IsBounded seed n r → StopsBounded seed n (going_on_from g p path r)
