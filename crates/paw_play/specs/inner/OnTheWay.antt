-- What stands on the way, inside a call.
use Rattle.std.specs.Prelude.{◌≡◌, ℕ, suc, ◌+◌, ◌<◌, ◌≤◌, List, ◌++◌, length, take, drop}
use Rattle.std.specs.Prelude.{◌-◌, reverse, Option, Some, None, Result, Ok, Err, MatchOption, if◌then◌else◌}
use Rattle.std.specs.Option.{option_map}
use Rattle.std.specs.List.{concat}
use Rattle.std.specs.Fn.{Shared}
use Rattle.paw_base.specs.declared.limits.TheConstants.{EVENT_LIMIT}
use Rattle.paw_stage.specs.Disk.{IsStable}
use Rattle.paw_stage.specs.Stage.{Standing}
use Rattle.paw_stage.specs.declared.StageCall.TheVariants as call
use Rattle.paw_game.specs.Game.{GameLists}
use Rattle.paw_routines.specs.Routines.{AreAnswersOf}
use Rattle.paw_routines.specs.declared.routines.Routines.{Routines}
use Rattle.paw_effects.specs.Story.{Story, story_of}
use Rattle.paw_effects.specs.declared.act.Prompt.{Prompt}
use Rattle.paw_reading.specs.Run.{StepRow}
use Rattle.paw_reading.specs.declared.halt.Halt.{Halt}
use Rattle.paw_reading.specs.declared.halt.Halt.TheVariants as halt
use Rattle.paw_reading.specs.Turn.{reading, going_on_from}
use Rattle.paw_turn.specs.inner.Player.{step_halt, brings_piece, PlayerView, run_at, IsSeated}
use Rattle.paw_turn.specs.inner.Parts.{prompt_at, IsStanding}
use Rattle.paw_turn.specs.declared.Step.{Step}
use Rattle.paw_turn.specs.declared.Step.TheVariants as step
use Rattle.paw_base.specs.Bytes.{Lines, Name, RoutineAnswers, Text, Texts}
use Rattle.paw_journal.specs.Session.{Digests, Recovered, Shown, recover, kept_digests}
use Rattle.paw_journal.specs.Session.{session_committed, made_session}
use Rattle.paw_journal.specs.inner.Store.{InStore, CrashLeavesSuch, IsOldOrNew, IsUnmadeOr}
use Rattle.paw_journal.specs.inner.Writes.{SameDigests}
use Rattle.paw_journal.specs.inner.Journal.{IsAtRest}
use Rattle.paw_journal.specs.declared.store.Attached.{Attached}
use Rattle.paw_journal.specs.declared.refusal.JournalRefusal.{JournalRefusal}
use Rattle.paw_journal.specs.declared.refusal.JournalRefusal.TheVariants as refusal
use Rattle.paw_play.specs.declared.PlayEnd.{PlayEnd}
use Rattle.paw_play.specs.declared.PlayEnd.TheVariants as end
use Rattle.paw_play.specs.Walk.{end_halt, EndingOf, first_lines, text_before, with_lines_taken, Walks}
use Rattle.paw_play.specs.Played.{PlayedSession}
use Rattle.paw_play.specs.Keeping.{RestsWith}
use Rattle.paw_play.specs.Play.{PlaysOn}
use Rattle.paw_play.specs.inner.Open.{IsOpen}
pub use Rattle.paw_play.specs.inner.Open.{seat_state, seat_base}
use Rattle.paw_play.specs.inner.ShowSteps.{ShowSteps, HaveSteps, NotesShown, shown_pieces, with_shown_steps}

-- ---- a walk ----

-- The walk is at a prompt: n lines were taken, these pieces were shown, with their prefaces, and whatever lines come,
-- the reading of all goes on from the player.
pub record IsWalking {F : Type 0} (showing : ShowSteps) (g : Story) (whole : EndingOf) (old now : Standing)
    (seat : PlayerView F)
    (n : ℕ) : Type 0 where
  pub prompt : Prompt
  pub waits : seat.last ≡ step.Waits prompt
  pub pieces : Texts
  pub traces : List (List StepRow)
  pub each : HaveSteps showing pieces traces
  pub keeps : NotesShown showing seat.machine.steps.most
  pub goes_on : (more : Lines) →
      whole (first_lines n old.lines ++ more)
      ≡ going_on_from g prompt (reverse seat.machine.frames) (run_at seat pieces traces more)
  pub there : n ≤ length old.lines
  pub stands : now ≡ with_lines_taken old n (concat (shown_pieces showing pieces traces))

-- The end of playing that a halt is.
abbrev pub end_of_halt : Halt → PlayEnd
end_of_halt halt.Over = end.Ended
end_of_halt (halt.Spent kind) = end.Spent kind
end_of_halt (halt.TooDeep table) = end.TooDeep table

-- How playing ends at a line that brings no piece.
abbrev pub end_if_no_piece : Step → Option PlayEnd
end_if_no_piece s = if brings_piece s then None else option_map end_of_halt (step_halt s)

-- What showing a line's piece does: it is shown where the player waits or is over, and where it is over no other line
-- may be asked for; nothing is shown of a piece that is spent or of a call too deep; or a part is shown of a piece that
-- isn't empty, and the call failed.
abbrev pub ShowsStep : Standing → Standing → Text → Step → Option PlayEnd → Type 0
ShowsStep old new piece s None = (p : Prompt) × (s ≡ step.Waits p) × (new ≡ record old { shown = old.shown ++ piece })
ShowsStep old new piece s (Some end.Ended) = (s ≡ step.Ended) × (new ≡ record old { shown = old.shown ++ piece })
ShowsStep old new piece s (Some (end.Outside call.Show)) =
    IsStanding s × (0 < length piece) × (n : ℕ) × (new ≡ record old { shown = old.shown ++ take n piece })
ShowsStep old new piece s (Some o) = MatchOption (end_halt o) ⊥ (λ halt. (step_halt s ≡ Some halt) × (new ≡ old))

-- After n lines the walk is at a prompt, or has ended this way.
abbrev pub WalksTo : {F : Type 0} → ShowSteps → Story → EndingOf → ℕ → Standing → Standing → PlayerView F → ℕ →
    Option PlayEnd → Type 0
WalksTo showing g whole most first now seat n None = IsWalking showing g whole first now seat n
WalksTo showing g whole most first now seat n (Some o) = Walks (with_shown_steps showing whole) most first now o

-- ---- a session ----

-- The session is open after the first n lines, and the text for all of them but the last was shown: its last piece
-- isn't shown yet.
pub record IsPlaying {F : Type 0} (g : Story) (s : PlayedSession) (first now : Standing) (seat : PlayerView F)
    (piece : Text) (n : ℕ) : Type 0 where
  pub opened : IsOpen g s n (first_lines n first.lines) seat (text_before s.whole first.lines n) piece now.disk.bytes
  pub lines : now.lines ≡ drop n first.lines
  pub asked : now.asked ≡ first.asked + n
  pub shown : now.shown ≡ first.shown ++ text_before s.whole first.lines n
  pub rests : RestsWith s first now n

-- After one more line the session is open, or playing on has ended this way.
abbrev pub PlaysLineTo : {A F : Type 0} → Story → PlayedSession → ℕ → Standing → Standing → PlayerView F → Text →
    Result A PlayEnd → Type 0
PlaysLineTo g s n first now seat piece (Ok a) = IsPlaying g s first now seat piece (suc n)
PlaysLineTo g s n first now seat piece (Err o) = PlaysOn s (EVENT_LIMIT - s.before) first now o

-- What showing the last piece of an open session does: it is shown where the player waits, where the game is over, and
-- where the session has all its lines; or a part is shown of a piece that isn't empty, and the call failed.
abbrev pub ShowsOpen : Standing → Standing → Text → Step → ℕ → Option PlayEnd → Type 0
ShowsOpen old new piece s events None = (s ≡ step.Waits (prompt_at s)) × (events < EVENT_LIMIT)
    × (new ≡ record old { shown = old.shown ++ piece })
ShowsOpen old new piece s events (Some end.Ended) = (s ≡ step.Ended) × (new ≡ record old { shown = old.shown ++ piece })
ShowsOpen old new piece s events (Some (end.Long most)) = (s ≡ step.Waits (prompt_at s)) × (EVENT_LIMIT ≤ events)
    × (most ≡ EVENT_LIMIT) × (new ≡ record old { shown = old.shown ++ piece })
ShowsOpen old new piece s events (Some (end.Outside call.Show)) =
    (0 < length piece) × (n : ℕ) × (new ≡ record old { shown = old.shown ++ take n piece })
ShowsOpen old new piece s events (Some _) = ⊥

-- The store of this name is attached and at rest, and its file holds its bytes.
pub record IsRestingStore (name : Name) (s : Standing) : Type 0 where
  pub attached : s.attached ≡ Some name
  pub stable : IsStable s.disk
  pub file : s.files name ≡ Some s.disk.bytes

-- How playing ends where a session isn't found.
abbrev pub end_of : JournalRefusal → PlayEnd
end_of (refusal.Unmade n mark) = end.Refused (refusal.Unmade n mark)
end_of (refusal.Damaged part at) = end.Refused (refusal.Damaged part at)
end_of (refusal.WrongGame kept found) = end.Refused (refusal.WrongGame kept found)
end_of (refusal.WrongRoutines kept found) = end.Refused (refusal.WrongRoutines kept found)
end_of (refusal.Outside c) = end.Outside c

-- ---- a player and its session, between calls ----

-- The player still plays the same game with the same routines, and drew at most this many numbers.
pub record StillPlays {F : Type 0} (draws : ℕ) (old new : PlayerView F) : Type 0 where
  pub seated : IsSeated new
  pub game : new.game ≡ old.game
  pub routines : new.routines ≡ old.routines
  pub drew : new.world.draws ≤ draws

-- A store was attached that is at rest and has this length.
pub record IsAttached (at : Attached) (s : Standing) : Type 0 where
  pub rests : IsAtRest s
  pub long : at.length ≡ length s.disk.bytes

-- ---- facts about what is under way ----

-- A fact about the game's story, whatever answers stand for its routines.
abbrev pub EachStory : {F : Type 0} → Shared F (ℕ × (ℕ × Unit {0})) ℕ → Routines F → GameLists →
    (Story → Type 0) → Type 0
EachStory calls routines game Holds = (X : RoutineAnswers) → AreAnswersOf calls routines X → Holds (story_of game X)

-- A fact about each session that is open with this player, after this number of lines in all: n were taken since
-- `first` stood.
abbrev pub EachPlaying : {F : Type 0} → Story → PlayerView F → Text → ℕ → Standing →
    (PlayedSession → ℕ → Standing → Type 0) → Type 0
EachPlaying g seat piece events now Holds =
    (s : PlayedSession) (n : ℕ) (first : Standing) → IsPlaying g s first now seat piece n → events ≡ s.before + n →
    Holds s n first

-- What the session of a store shows after this player was committed to it, with this number of lines.
abbrev pub shown_then : {F : Type 0} → ℕ → PlayerView F → Standing → Recovered
shown_then events seat s = Shown (kept_digests s.disk.bytes) (seat_state events seat) seat.piece

-- The player was committed to the session.
abbrev pub Commits : {F : Type 0} → ℕ → PlayerView F → Standing → Standing → Type 0
Commits events seat old new = recover new.disk.bytes ≡ shown_then events seat old

-- The store's bytes are what the commit of the player makes of what they were.
abbrev pub Writes : {F : Type 0} → ℕ → PlayerView F → Standing → Standing → Type 0
Writes events seat old new = new.disk.bytes ≡ session_committed (seat_base events seat) seat.piece old.disk.bytes

-- The player was committed to the session: the store's bytes are what the commit makes of them, and they show the
-- player. The session has the digests that it had.
pub record CommitsPlayer {F : Type 0} (events : ℕ) (seat : PlayerView F) (old new : Standing) : Type 0 where
  pub exact : Writes events seat old new
  pub shown : Commits events seat old new
  pub digests : SameDigests old new

-- The player was made to a session with these digests: the store's bytes are those of a session that is newly made, and
-- they show the player.
pub record MakesPlayer {F : Type 0} (whose : Digests) (seat : PlayerView F) (old new : Standing) : Type 0 where
  pub exact : new.disk.bytes ≡ made_session whose (seat_base 0 seat) seat.piece
  pub shown : recover new.disk.bytes ≡ Shown whose (seat_state 0 seat) seat.piece
  pub digests : kept_digests new.disk.bytes ≡ whose

-- A moment at which a crash leaves no session, or the player.
abbrev pub InMake : {F : Type 0} → Digests → PlayerView F → Standing → Standing → Type 0
InMake digests seat old m = InStore old (CrashLeavesSuch (IsUnmadeOr (Shown digests (seat_state 0 seat) seat.piece))) m

-- A moment at which a crash leaves what the session showed before, or the player.
abbrev pub InCommit : {F : Type 0} → ℕ → PlayerView F → Standing → Standing → Type 0
InCommit events seat old m =
    InStore old (CrashLeavesSuch (IsOldOrNew (recover old.disk.bytes) (shown_then events seat old))) m
