-- How taking lines and showing pieces may end, and what it leaves.
use Rattle.std.specs.Prelude.{◌≡◌, ℕ, zero, suc, ◌+◌, ◌<◌, ◌≤◌, List, [], ◌++◌, length, take, drop, map}
use Rattle.paw_base.specs.Bytes.{Lines, Text}
use Rattle.std.specs.Prelude.{Option, Some, None, MatchOption}
use Rattle.paw_base.specs.declared.limits.TheConstants.{EVENT_LIMIT, LINE_LIMIT}
use Rattle.paw_stage.specs.Stage.{Standing}
use Rattle.paw_stage.specs.declared.StageCall.TheVariants as call
use Rattle.paw_effects.specs.declared.act.Prompt.{Prompt}
use Rattle.paw_reading.specs.declared.frames.Frame.{Frame}
use Rattle.paw_reading.specs.Run.{Run}
use Rattle.paw_reading.specs.declared.halt.Halt.{Halt}
use Rattle.paw_reading.specs.declared.halt.Halt.TheVariants as halt
use Rattle.paw_reading.specs.Turn.{Ending, WaitsAt, Halted, text_of}
use Rattle.paw_play.specs.declared.PlayEnd.{PlayEnd}
use Rattle.paw_play.specs.declared.PlayEnd.TheVariants as end

-- What ended play for good, by how playing ended; nothing where playing ended for another reason.
abbrev pub end_halt : PlayEnd → Option Halt
end_halt end.Ended = Some halt.Over
end_halt (end.Spent kind) = Some (halt.Spent kind)
end_halt (end.TooDeep table) = Some (halt.TooDeep table)
end_halt _ = None

-- How a reading ends, as a function of its lines: one from the start of a game, or one that goes on from a state.
abbrev pub EndingOf : Type 0
EndingOf = Lines → Ending

-- The first n lines, each cut to its first 255 bytes.
abbrev pub first_lines : ℕ → Lines → Lines
first_lines n lines = map (take LINE_LIMIT) (take n lines)

-- What stands once n more lines were taken, and this text was shown besides; all else stays.
abbrev pub with_lines_taken : Standing → ℕ → Text → Standing
with_lines_taken old n text = record old { lines = drop n old.lines; asked = old.asked + n; shown = old.shown ++ text }

-- The first n lines were taken, the reading of them ends this way, and the text of its closed pieces was shown.
pub record TakesLines (whole : EndingOf) (old new : Standing) (n : ℕ) (e : Ending) : Type 0 where
  pub reading : whole (first_lines n old.lines) ≡ e
  pub there : n ≤ length old.lines
  pub stands : new ≡ with_lines_taken old n (text_of e)

-- The text of the reading of the first n lines.
abbrev pub text_for : EndingOf → Lines → ℕ → Text
text_for whole lines n = text_of (whole (first_lines n lines))

-- The text of the reading of all but the last of n lines; before the first line none was shown.
abbrev pub text_before : EndingOf → Lines → ℕ → Text
text_before whole lines zero = []
text_before whole lines (suc n) = text_for whole lines n

-- The first n lines were taken, and a first part of the text of their reading was shown: the text for all but the last
-- line, and a part of the piece that the last line brings, a piece that isn't empty.
pub record PartShown (whole : EndingOf) (old new : Standing) (n : ℕ) : Type 0 where
  pub shown : Text
  pub rest : Text
  pub part : shown ++ rest ≡ text_for whole old.lines n
  pub last : Text
  pub before : shown ≡ text_before whole old.lines n ++ last
  pub grows : length (text_before whole old.lines n) < length (text_for whole old.lines n)
  pub there : n ≤ length old.lines
  pub stands : new ≡ with_lines_taken old n shown

-- The first n lines were taken, and the reading of them waits.
abbrev pub WalkWaits : EndingOf → Standing → Standing → ℕ → Type 0
WalkWaits whole old new n =
    (p : Prompt) × (path : List Frame) × (r : Run) × TakesLines whole old new n (WaitsAt p path r)

-- At most this many lines were taken, and the last of them ended the reading for good this way.
abbrev pub WalkHalts : EndingOf → ℕ → Standing → Standing → Halt → Type 0
WalkHalts whole most old new halt =
    (n : ℕ) × (n ≤ most) × (r : Run) × (r.events ≡ []) × TakesLines whole old new n (Halted halt r)

-- How a walk that may take this many lines ends, and what it leaves. No line is taken after the one that ends it. None
-- is asked for beyond this many: where the player still waits then, the walk is Long. Where memory was lacking, nothing
-- was taken or shown.
abbrev pub Walks : EndingOf → ℕ → Standing → Standing → PlayEnd → Type 0
Walks whole most old new end.InputEnded = (length old.lines < most) × WalkWaits whole old new (length old.lines)
Walks whole most old new (end.Long events) = (events ≡ EVENT_LIMIT) × WalkWaits whole old new most
Walks whole most old new (end.Outside call.Ask) = (n : ℕ) × (n < most) × WalkWaits whole old new n
Walks whole most old new (end.Outside call.Show) = (n : ℕ) × (n ≤ most) × PartShown whole old new n
Walks whole most old new end.Memory = new ≡ old
Walks whole most old new o = MatchOption (end_halt o) ⊥ (WalkHalts whole most old new)
