-- A session that is open: what its begin, its resume and each of its lines lead to. It stands in the attached store and
-- with a player, whichever calls of the stage bring the lines and show the pieces.
use Rattle.std.specs.Prelude.{◌≡◌, ◌⊎◌, ℕ, suc, ◌+◌, ◌-◌, ◌*◌, ◌<◌, ◌≤◌, false, List, [], ◌∷◌, ◌++◌, length, reverse}
use Rattle.std.specs.Prelude.{take}
use Rattle.std.specs.Prelude.{Option, Result, Ok, Err, MatchOption}
use Rattle.std.specs.Fn.{Shared}
use Rattle.sha2.specs.Sha256.{sha256}
use Rattle.paw_base.specs.Bytes.{Bytes, Line, Lines, Name, RoutineAnswers, Text, Texts, zeros}
use Rattle.paw_base.specs.declared.limits.TheConstants.{EVENT_LIMIT, READ_LIMIT}
use Rattle.paw_game.specs.Game.{GameLists}
use Rattle.paw_game.specs.Image.{image}
use Rattle.paw_stage.specs.Stage.{Standing}
use Rattle.paw_stage.specs.AcrossCalls.{IsOneOf}
use Rattle.paw_stage.specs.declared.StageCall.TheVariants as call
use Rattle.paw_routines.specs.Measure.{measure}
use Rattle.paw_routines.specs.Routines.{AreAnswersOf, HaveAnswers}
use Rattle.paw_routines.specs.declared.routines.Routines.{Routines}
use Rattle.paw_effects.specs.Story.{Story}
use Rattle.paw_effects.specs.declared.act.Prompt.{Prompt}
use Rattle.paw_effects.specs.declared.act.Prompt.TheVariants as prompt
use Rattle.paw_reading.specs.Run.{Run, StepRow}
use Rattle.paw_reading.specs.declared.frames.Frame.{Frame}
use Rattle.paw_reading.specs.declared.halt.Halt.{Halt}
use Rattle.paw_reading.specs.declared.halt.Halt.TheVariants as halt
use Rattle.paw_reading.specs.Reading.{closes_piece}
use Rattle.paw_reading.specs.Turn.{Ending, WaitsAt, Halted, going_on_from, text_of, pieces_of}
use Rattle.paw_turn.specs.inner.Player.{PlayerView, IsSeated, IsStanding, run_at, prompt_at}
use Rattle.paw_turn.specs.declared.Step.{Step}
use Rattle.paw_turn.specs.declared.Step.TheVariants as step
use Rattle.paw_journal.specs.Session.{Digests, Recovered, Shown, IsUnmade, recover, kept_digests, state_length}
use Rattle.paw_journal.specs.Session.{base_length, session_committed}
use Rattle.paw_journal.specs.Journal.{writing_calls}
use Rattle.paw_journal.specs.inner.Store.{InStore, CrashLeavesSuch}
use Rattle.paw_journal.specs.inner.Journal.{KeptIn}
use Rattle.paw_journal.specs.inner.Room.{Room}
use Rattle.paw_state.specs.inner.State.{state_of}
use Rattle.paw_state.specs.State.{State, IsValidState, FitsFields, last_piece, state_at}
use Rattle.paw_state.specs.Fit.{Fit, Unfit}
use Rattle.paw_play.specs.declared.PlayEnd.{PlayEnd}
use Rattle.paw_play.specs.declared.PlayEnd.TheVariants as end
use Rattle.paw_play.specs.declared.open.OpenSession.{OpenSession}
use Rattle.paw_play.specs.Session.{story_digests, IsOfStory, IsKept, IsPlayed, kept_bytes}
use Rattle.paw_play.specs.Walk.{EndingOf, end_halt}
use Rattle.paw_play.specs.Played.{PlayedSession, ShowsState, from_state}
use Rattle.paw_play.specs.Play.{Refuses}
use Rattle.paw_play.specs.Written.{base_after, bytes_before}

-- ---- what is kept of a player ----

-- The bytes of the state of a player, after this number of lines of its session.
abbrev pub seat_state : {F : Type 0} → ℕ → PlayerView F → Bytes
seat_state events p = kept_bytes (state_of p.world p.machine p.pending (prompt_at p.last) events (length p.piece))

-- The same as they are written: filled up with zeros.
abbrev pub seat_base : {F : Type 0} → ℕ → PlayerView F → Bytes
seat_base events p = seat_state events p ++ zeros (base_length - state_length)

-- ---- the reading so far ----

-- Whatever lines follow, the reading of them goes on from the player at its prompt, with these pieces closed; or the
-- game is over.
abbrev pub ReadsOn : {F : Type 0} → Story → EndingOf → Step → PlayerView F → Texts → List (List StepRow) → Type 0
ReadsOn g whole (step.Waits p) seat pieces traces = (lines : Lines) →
    whole lines ≡ going_on_from g p (reverse seat.machine.frames) (run_at seat pieces traces lines)
ReadsOn g whole step.Ended seat pieces traces = (lines : Lines) →
    whole lines ≡ Halted halt.Over (run_at seat pieces traces lines)
ReadsOn g whole _ seat pieces traces = ⊥

-- The player has played these lines: their reading goes on from it. The last piece is this one, and this text came
-- before.
pub record HasPlayed {F : Type 0} (g : Story) (whole : EndingOf) (taken : Lines) (seat : PlayerView F)
    (earlier piece : Text) : Type 0 where
  pub pieces : Texts
  pub traces : List (List StepRow)
  pub goes_on : ReadsOn g (λ lines. whole (taken ++ lines)) seat.last seat pieces traces
  pub text : text_of (whole taken) ≡ earlier ++ piece
  pub last : last_piece (pieces_of (whole taken)) ≡ piece

-- The reading of these lines waits.
abbrev pub WaitsAfter : EndingOf → Lines → Type 0
WaitsAfter whole taken = (p : Prompt) × (path : List Frame) × (r : Run) × (whole taken ≡ WaitsAt p path r)

-- The reading of these lines ends for good this way, with this text, and none of them is left.
abbrev pub HaltsAfter : EndingOf → Lines → Text → Halt → Type 0
HaltsAfter whole taken text halt =
    (r : Run) × (whole taken ≡ Halted halt r) × (r.events ≡ []) × (text_of (Halted halt r) ≡ text)

-- A session with these digests keeps the reading once it shows the player after this number of lines.
abbrev pub HoldsPlayer : {F : Type 0} → EndingOf → Lines → PlayerView F → Type 0
HoldsPlayer whole taken seat = (digests : Digests) (events : ℕ) →
    IsKept digests events (whole taken) (Shown digests (seat_state events seat) seat.piece)

-- Where a reading has stopped after this number of lines, its state follows all rules of the game.
abbrev pub StopsAtState : GameLists → ℕ → Ending → Type 0
StopsAtState g n (WaitsAt p path r) = IsValidState g (state_at n p path r) × FitsFields (state_at n p path r)
StopsAtState g n (Halted halt.Over r) = IsValidState g (state_at n prompt.Over [] r) × FitsFields (state_at n prompt.Over [] r)
StopsAtState g n _ = Unit {0}

-- ---- the session ----

-- The session shows the first n lines, which are these.
abbrev pub KeepsAfter : PlayedSession → ℕ → Lines → Recovered → Type 0
KeepsAfter s n taken r = IsKept s.digests (s.before + n) (s.whole taken) r

-- The session is open: n lines were taken, which are these; the player has played them, and the store keeps them. They
-- stop at a state of the game.
pub record IsOpen {F : Type 0} (g : Story) (s : PlayedSession) (n : ℕ) (taken : Lines) (seat : PlayerView F)
    (earlier piece : Text) (bytes : Bytes) : Type 0 where
  pub played : HasPlayed g s.whole taken seat earlier piece
  pub keeps : KeepsAfter s n taken (recover bytes)
  pub digests : kept_digests bytes ≡ s.digests
  pub stops : StopsAtState g.game (s.before + n) (s.whole taken)

-- The bytes of a store once the session's reading of n lines, which are these, was committed.
abbrev pub bytes_with_commit : PlayedSession → ℕ → Lines → Bytes → Bytes
bytes_with_commit s n taken bytes =
    session_committed (base_after (s.before + n) (s.whole taken)) (last_piece (pieces_of (s.whole taken))) bytes

-- A line that isn't taken, or of which no piece is kept, by how playing ends: the game is over, or the session has all
-- the lines that it may have; or the reading with the line ends for good before its piece is closed.
abbrev pub StopsAt : EndingOf → ℕ → Lines → Line → PlayEnd → Type 0
StopsAt whole events taken line end.Ended = HaltsAfter whole taken (text_of (whole taken)) halt.Over
StopsAt whole events taken line (end.Long most) = (EVENT_LIMIT ≤ events) × (most ≡ EVENT_LIMIT) × WaitsAfter whole taken
StopsAt whole events taken line (end.Spent kind) = (events < EVENT_LIMIT) × WaitsAfter whole taken
    × HaltsAfter whole (taken ++ line ∷ []) (text_of (whole taken)) (halt.Spent kind)
StopsAt whole events taken line (end.TooDeep table) = (events < EVENT_LIMIT) × WaitsAfter whole taken
    × HaltsAfter whole (taken ++ line ∷ []) (text_of (whole taken)) (halt.TooDeep table)
StopsAt whole events taken line _ = ⊥

-- What the player's line leads to, by how playing ends, if it does: for each reading that goes on from the player.
abbrev pub PlaysNext : {F : Type 0} → Story → ℕ → Line → PlayerView F → PlayerView F → Option PlayEnd → Type 0
PlaysNext g events line seat next o = (whole : EndingOf) (taken : Lines) (earlier piece : Text) →
    HasPlayed g whole taken seat earlier piece → MatchOption o
    ((events < EVENT_LIMIT) × WaitsAfter whole taken
    × HasPlayed g whole (taken ++ line ∷ []) next (text_of (whole taken)) next.piece
    × HoldsPlayer whole (taken ++ line ∷ []) next
    × (StopsAtState g.game events (whole taken) → StopsAtState g.game (events + 1) (whole (taken ++ line ∷ []))))
    (StopsAt whole events taken line)

-- What a line of an open session leads to: it was taken, and its piece is committed; or it wasn't. Where a call failed
-- the moments say what stands.
abbrev pub TakesLineTo : {A F : Type 0} → Story → PlayedSession → ℕ → Lines → Line → Standing → Standing →
    PlayerView F → Text → Result A PlayEnd → Type 0
TakesLineTo g s n taken line old new seat piece (Ok a) = (s.before + n < EVENT_LIMIT) × WaitsAfter s.whole taken
    × IsOpen g s (suc n) (taken ++ line ∷ []) seat (text_of (s.whole taken)) piece new.disk.bytes
    × (new.disk.bytes ≡ bytes_with_commit s (suc n) (taken ++ line ∷ []) old.disk.bytes)
TakesLineTo g s n taken line old new seat piece (Err (end.Outside c)) = IsOneOf writing_calls c
TakesLineTo g s n taken line old new seat piece (Err o) = StopsAt s.whole (s.before + n) taken line o

-- The session shows the line too, and its piece comes after the text before it: the session could take a line, and with
-- this one stops at a state of the game again.
abbrev pub HoldsNext : Story → PlayedSession → ℕ → Lines → Line → Recovered → Type 0
HoldsNext g s n taken line r = KeepsAfter s (suc n) (taken ++ line ∷ []) r
    × ((more : Text) × (text_of (s.whole (taken ++ line ∷ [])) ≡ text_of (s.whole taken) ++ more))
    × (s.before + n < EVENT_LIMIT) × WaitsAfter s.whole taken
    × StopsAtState g.game (s.before + suc n) (s.whole (taken ++ line ∷ []))

-- A moment at which a line is taken: whatever a crash leaves of the store keeps the lines before it, or it too.
abbrev pub InTaking : Story → PlayedSession → ℕ → Lines → Line → Standing → Standing → Type 0
InTaking g s n taken line old m =
    InStore old (CrashLeavesSuch (λ r. KeepsAfter s n taken r ⊎ HoldsNext g s n taken line r)) m

-- Play ends before the piece before the first line is closed.
abbrev pub StopsAtOnce : EndingOf → PlayEnd → Type 0
StopsAtOnce whole o = MatchOption (end_halt o) ⊥ (λ halt. (closes_piece halt ≡ false) × HaltsAfter whole [] [] halt)

-- What the piece before the first line leads to, by how playing ends, if it does.
abbrev pub PlaysFirst : {F : Type 0} → Story → EndingOf → PlayerView F → Option PlayEnd → Type 0
PlaysFirst g whole next o =
    MatchOption o (HasPlayed g whole [] next [] next.piece × HoldsPlayer whole [] next) (StopsAtOnce whole)

-- What beginning a session in the attached store, which is empty, leads to: it is open, and no line was taken; or play
-- ended before the piece before the first line was closed. Where a call failed the moments say what stands.
abbrev pub BeginsTo : {A F : Type 0} → Story → PlayedSession → Standing → PlayerView F → Text → Result A PlayEnd →
    Type 0
BeginsTo g s new seat piece (Ok a) = IsOpen g s 0 [] seat [] piece new.disk.bytes × (new.disk.bytes ≡ bytes_before s [])
BeginsTo g s new seat piece (Err (end.Outside c)) = IsOneOf writing_calls c
BeginsTo g s new seat piece (Err o) = StopsAtOnce s.whole o

-- A moment at which a session is begun, whose piece before the first line is closed: whatever a crash leaves of the
-- store is no session, or keeps no lines yet.
abbrev pub InBeginning : PlayedSession → Standing → Standing → Type 0
InBeginning s old m =
    InStore old (CrashLeavesSuch (λ r. (IsPlayed (s.whole []) × IsUnmade r) ⊎ KeepsAfter s 0 [] r)) m

-- What resuming the session of these bytes of the attached store leads to: it is open where they show a state of the
-- game; or it is refused, or shows no state. Where a call failed nothing is stated.
abbrev pub ResumesTo : {F : Type 0} → Story → Bytes → PlayerView F → Text → Result OpenSession PlayEnd → Type 0
ResumesTo g bytes seat piece (Ok o) =
    IsOfStory g (kept_digests bytes) × (st : State) × ShowsState g.game (kept_digests bytes) bytes st piece
    × (o.events ≡ st.events)
    × ((name : Name) → IsOpen g (from_state g st piece (kept_digests bytes) name) 0 [] seat [] piece bytes)
ResumesTo g bytes seat piece (Err (end.Refused r)) = Refuses (story_digests g) bytes r
ResumesTo g bytes seat piece (Err (end.State at)) =
    IsOfStory g (kept_digests bytes) × (state : Bytes) × (last : Text)
    × (recover bytes ≡ Shown (kept_digests bytes) (take state_length state) last)
    × ¬ Fit g.game state × Unfit g.game state at
ResumesTo g bytes seat piece (Err (end.Outside c)) = c ≡ call.Read
ResumesTo g bytes seat piece (Err _) = ⊥

-- ---- what it is played with ----

-- These bytes are the digest of the routines.
abbrev pub IsMeasureOf : {F : Type 0} → Shared F (ℕ × (ℕ × Unit {0})) ℕ → Routines F → Bytes → Type 0
IsMeasureOf calls routines rules = (X : RoutineAnswers) → AreAnswersOf calls routines X → rules ≡ measure X

-- These bytes are the digests of a game's image and of the routines.
pub record AreDigestsOf {F : Type 0} (calls : Shared F (ℕ × (ℕ × Unit {0})) ℕ) (g : GameLists) (routines : Routines F)
    (game rules : Bytes) : Type 0 where
  pub digest : game ≡ sha256 (image g)
  pub measured : IsMeasureOf calls routines rules

-- A player that a session may be opened with: it is seated, its routines have answers, and these are the digests of
-- what it plays with.
pub record IsPrepared {F : Type 0} (calls : Shared F (ℕ × (ℕ × Unit {0})) ℕ) (game rules : Bytes) (seat : PlayerView F)
    : Type 0 where
  pub seated : IsSeated seat
  pub answers : HaveAnswers calls seat.routines
  pub digests : AreDigestsOf calls seat.game seat.routines game rules

-- A player with which a session that has taken this number of lines is open: it stands at a prompt, or the game is over.
pub record MayTake {F : Type 0} (calls : Shared F (ℕ × (ℕ × Unit {0})) ℕ) (events : ℕ) (seat : PlayerView F)
    : Type 0 where
  pub seated : IsSeated seat
  pub answers : HaveAnswers calls seat.routines
  pub standing : IsStanding seat.last
  pub drew : seat.world.draws ≤ READ_LIMIT * (events + 1)
  pub few : events ≤ EVENT_LIMIT

-- A player that is seated, at the game and with the routines that it had.
pub record StaysSeated {F : Type 0} (old new : PlayerView F) : Type 0 where
  pub seated : IsSeated new
  pub game : new.game ≡ old.game
  pub routines : new.routines ≡ old.routines

-- A session has taken this number of lines. Where a stage says what stands, its store is at rest and holds it.
pub record HoldsSession (tells : Type 0) (n : ℕ) (room : Room) (now : Standing) (session : OpenSession) : Type 0 where
  pub events : session.events ≡ n
  pub kept : tells → KeptIn session.journal room now
