-- How hosting ends, and what it leaves.
use Rattle.std.specs.Prelude.{◌≡◌, ℕ, ◌+◌, ◌<◌, ◌≤◌, length, drop, None}
use Rattle.paw_base.specs.Bytes.{Name, RoutineAnswers, Seed}
use Rattle.paw_game.specs.Game.{GameLists}
use Rattle.paw_effects.specs.Story.{Story, story_of}
use Rattle.paw_stage.specs.Stage.{Standing}
use Rattle.paw_stage.specs.AcrossCalls.{IsOneOf}
use Rattle.paw_stage.specs.declared.StageCall.TheVariants as call
use Rattle.paw_play.specs.Calls.{session_calls}
use Rattle.paw_play.specs.ImageFiles.{Holds, HoldsDamage}
use Rattle.paw_host.specs.Replies.{Sessions}
use Rattle.paw_host.specs.Promise.{InHost, Answered, BeginsWith}
use Rattle.paw_host.specs.declared.outcome.HostOutcome.{HostOutcome}
use Rattle.paw_host.specs.declared.outcome.HostOutcome.TheVariants as outcome
use Rattle.paw_host.specs.declared.lines.TheConstants.{HOST_LIMIT}

-- The first n lines were taken, in order.
pub record HasTaken (old new : Standing) (n : ℕ) : Type 0 where
  pub there : n ≤ length old.lines
  pub lines : new.lines ≡ drop n old.lines
  pub asked : new.asked ≡ old.asked + n

-- How taking lines ends, whatever files there are: all lines were taken, and they are fewer than the host takes; or as
-- many as it takes were taken, and the next one would be asked for; or one of its calls failed; or memory was lacking
-- before the first line was asked for.
abbrev pub Ends : Standing → Standing → HostOutcome → Type 0
Ends old new outcome.InputEnded = (length old.lines < HOST_LIMIT) × HasTaken old new (length old.lines)
Ends old new (outcome.Long lines) = (lines ≡ HOST_LIMIT) × HasTaken old new HOST_LIMIT
Ends old new (outcome.Outside c) = IsOneOf session_calls c
Ends old new outcome.Memory = new ≡ old
Ends old new _ = ⊥

-- How taking lines ends, and what it leaves. Where a call failed, what stands then is a moment of the host.
abbrev pub Hosts : Story → Seed → Sessions → Standing → Standing → HostOutcome → Type 0
Hosts g seed first old new outcome.InputEnded = Answered g seed first old new (length old.lines)
Hosts g seed first old new (outcome.Long lines) = (lines ≡ HOST_LIMIT) × Answered g seed first old new HOST_LIMIT
Hosts g seed first old new (outcome.Outside c) = InHost g seed first old new
Hosts g seed first old new outcome.Memory = new ≡ old
Hosts g seed first old new _ = ⊥

-- How hosting the game of an image file ends, with these answers of routines, whatever sessions there are; or why it
-- isn't hosted, with nothing changed.
pub data HostsFile (answers : RoutineAnswers) (name : Name) (seed : Seed) (old new : Standing) : HostOutcome →
    Type 0 where
  hosts : (g : GameLists) (o : HostOutcome) → Holds old name g → Ends old new o →
      ((first : Sessions) → BeginsWith (story_of g answers) first old →
      Hosts (story_of g answers) seed first old new o) →
      HostsFile answers name seed old new o
  damaged : (at : ℕ) → HoldsDamage old name at → new ≡ old →
      HostsFile answers name seed old new (outcome.ImageDamaged at)
  absent : old.files name ≡ None → new ≡ old → HostsFile answers name seed old new (outcome.Outside call.LoadAbsent)
  failed : new ≡ old → HostsFile answers name seed old new (outcome.Outside call.Load)
  without_memory : new ≡ old → HostsFile answers name seed old new outcome.Memory

-- What stands at each moment of hosting; `Come` says that all its moments are of this kind.
abbrev pub HostsAtEachMoment : ((Standing → Type 0) → Type 0) → RoutineAnswers → Name → Seed → Standing → Type 0
HostsAtEachMoment Come answers name seed old = (g : GameLists) (first : Sessions) → Holds old name g →
    BeginsWith (story_of g answers) first old → Come (InHost (story_of g answers) seed first old)
