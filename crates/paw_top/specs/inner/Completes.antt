-- How a command ends where nothing outside fails: words of a law that follows from what is said of each command.
use Rattle.std.specs.Prelude.{◌≡◌, ℕ, [], ◌∷◌, length, Result, Ok, Err, Some, nat_le, if◌then◌else◌}
use Rattle.paw_base.specs.Bytes.{Bytes, Name, RoutineAnswers, Seed, Text}
use Rattle.paw_base.specs.declared.fault.SourceFault.{SourceFault}
use Rattle.paw_game.specs.Game.{GameLists}
use Rattle.paw_effects.specs.Story.{Story, story_of}
use Rattle.paw_grammar.specs.Spells.{game_spelled}
use Rattle.paw_stage.specs.Stage.{Standing}
use Rattle.paw_state.specs.State.{State}
use Rattle.paw_journal.specs.Session.{Digests, Shown, recover}
use Rattle.paw_journal.specs.declared.refusal.SessionPart.TheVariants as part
use Rattle.paw_journal.specs.declared.refusal.JournalRefusal.{JournalRefusal}
use Rattle.paw_reading.specs.declared.halt.Halt.{Halt}
use Rattle.paw_reading.specs.Turn.{Ending, WaitsAt, Halted, Unended, reading}
use Rattle.paw_trial.specs.Trial.{trial_reading}
use Rattle.paw_wrap.specs.declared.columns.TheConstants.{WRAP_LIMIT}
use Rattle.paw_play.specs.Play.{Refuses, store_bytes}
use Rattle.paw_play.specs.Played.{ShowsState}
use Rattle.paw_play.specs.Session.{IsOfStory, story_digests}
use Rattle.paw_top.specs.Compile.{Compiles}
use Rattle.paw_top.specs.Completes.{IsUnhindered}
use Rattle.paw_top.specs.Check.{Checks}
use Rattle.paw_top.specs.Decompile.{Decompiles}
use Rattle.paw_top.specs.Ends.{outcome_of_halt, refused_as}
use Rattle.paw_play.specs.ImageFiles.{Holds, HoldsDamage}
use Rattle.paw_top.specs.inner.Loads.{HoldsNone}
use Rattle.paw_top.specs.Shows.{Wraps}
use Rattle.paw_top.specs.Sessions.{PlaysNewIn, PlaysAgainIn}
use Rattle.paw_top.specs.Tries.{Tries}
use Rattle.paw_top.specs.Walk.{WalksAs, reading_traced}
use Rattle.paw_top.specs.declared.outcome.Outcome.{Outcome}
use Rattle.paw_top.specs.declared.outcome.Outcome.TheVariants as outcome
use Rattle.paw_top.specs.declared.outcome.MemoryAt.{MemoryAt}

-- This is the answer that is due, or memory was lacking.
abbrev pub Comes : Outcome → Outcome → Type 0
Comes answer (outcome.Memory at) = Unit {0}
Comes answer o = o ≡ answer

-- The file was refused as no image, with the offset of its first damage, or memory was lacking.
abbrev pub IsDamaged : Standing → Name → Outcome → Type 0
IsDamaged old name (outcome.ImageDamaged at) = HoldsDamage old name at
IsDamaged old name (outcome.Memory at) = Unit {0}
IsDamaged old name _ = ⊥

-- A source that spells a game is compiled, and any other is refused for its fault.
abbrev pub CompletesSource : Result GameLists SourceFault → Outcome → Type 0
CompletesSource (Ok g) o = Comes outcome.Done o
CompletesSource (Err fault) o = Comes (outcome.SourceRefused fault) o

-- Where the source is there, it is compiled or refused.
abbrev pub CompletesCompile : Name → Standing → Outcome → Type 0
CompletesCompile source old o = (bytes : Bytes) → old.files source ≡ Some bytes → CompletesSource (game_spelled bytes) o

-- Play has ended for good, no line was left, the session was full, or memory was lacking.
pub data IsWalked : Outcome → Type 0 where
  halted : (halt : Halt) → IsWalked (outcome_of_halt halt)
  out_of_lines : IsWalked outcome.InputEnded
  full : (events : ℕ) → IsWalked (outcome.Long events)
  no_memory : (at : MemoryAt) → IsWalked (outcome.Memory at)

-- A new session is played in an empty store, and a store with bytes is refused.
abbrev pub CompletesNew : Bytes → Outcome → Type 0
CompletesNew [] o = IsWalked o
CompletesNew (b ∷ bytes) o = Comes (outcome.Occupied (length (b ∷ bytes))) o

-- A session of the story that shows a state of its game is played on, and any other store is refused.
pub record CompletesAgain (g : Story) (bytes : Bytes) (o : Outcome) : Type 0 where
  pub shown : (d : Digests) (st : State) (piece : Text) → IsOfStory g d → ShowsState g.game d bytes st piece →
      IsWalked o
  pub refused : (r : JournalRefusal) → Refuses (story_digests g) bytes r → Comes (refused_as r) o
  pub no_state : (d : Digests) (state piece : Bytes) → IsOfStory g d → recover bytes ≡ Shown d state piece →
      ((st : State) → ¬ ShowsState g.game d bytes st piece) →
      (at : ℕ) × Comes (outcome.SessionDamaged part.State at) o

-- Where the image is there, such an answer follows from its game; where the file is no image, it is refused.
pub record CompletesImage (name : Name) (Such : GameLists → Outcome → Type 0) (old : Standing)
    (o : Outcome) : Type 0 where
  pub image : (g : GameLists) → Holds old name g → Such g o
  pub other : HoldsNone old name → IsDamaged old name o

-- The answer that a trial is due, by how the reading of its lines ends.
abbrev pub due : Ending → Outcome
due (WaitsAt p path r) = outcome.Done
due (Halted halt r) = outcome_of_halt halt
due Unended = outcome.Done

-- Where the text is there, it is shown, or refused where it is too long.
abbrev pub CompletesWrap : Name → Standing → Outcome → Type 0
CompletesWrap name old o = (bytes : Bytes) → old.files name ≡ Some bytes →
    Comes (if nat_le (length bytes) WRAP_LIMIT then outcome.Done else outcome.TextTooLong) o

-- How a command ends where nothing outside fails and the file that it loads is there: it does its work, or refuses the
-- file or the store, or memory was lacking.
pub record EachCompletes : Type 0 where
  pub compile : (source target : Name) (old new : Standing) (o : Outcome) → Compiles source target old new o →
      IsUnhindered o → CompletesCompile source old o
  pub decompile : (image : Name) (old new : Standing) (o : Outcome) → Decompiles image old new o →
      IsUnhindered o → CompletesImage image (λ g. Comes outcome.Done) old o
  pub walk : (answers : RoutineAnswers) (image : Name) (seed : Seed) (old new : Standing) (o : Outcome) →
      WalksAs reading answers image seed old new o → IsUnhindered o → CompletesImage image (λ g. IsWalked) old o
  pub play : (answers : RoutineAnswers) (image store : Name) (seed : Seed) (old new : Standing) (o : Outcome) →
      PlaysNewIn answers image store seed old new o →
      IsUnhindered o → CompletesImage image (λ g. CompletesNew (store_bytes old store)) old o
  pub resume : (answers : RoutineAnswers) (image store : Name) (old new : Standing) (o : Outcome) →
      PlaysAgainIn answers image store old new o →
      IsUnhindered o → CompletesImage image (λ g. CompletesAgain (story_of g answers) (store_bytes old store)) old o
  pub trace : (answers : RoutineAnswers) (image : Name) (seed : Seed) (old new : Standing) (o : Outcome) →
      WalksAs reading_traced answers image seed old new o → IsUnhindered o → CompletesImage image (λ g. IsWalked) old o
  pub trial : (n : ℕ) (old new : Standing) (o : Outcome) → Tries n old new o →
      IsUnhindered o → Comes (due (trial_reading n)) o
  pub check : (image : Name) (old new : Standing) (o : Outcome) → Checks image old new o →
      IsUnhindered o → CompletesImage image (λ g. Comes outcome.Done) old o
  pub wrap : (width : ℕ) (text : Name) (old new : Standing) (o : Outcome) → Wraps width text old new o →
      IsUnhindered o → CompletesWrap text old o
