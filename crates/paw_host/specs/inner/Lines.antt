-- What stands on the way from line to line.
use Rattle.std.specs.Prelude.{◌≡◌, ◌≢◌, ℕ, suc, ◌+◌, ◌<◌, ◌^◌, true, [], ◌∷◌, length, take, All, Option, Some, None, Result}
use Rattle.std.specs.Prelude.{OnOk}
use Rattle.paw_base.specs.Bytes.{Line, Name, Seed, Text}
use Rattle.paw_effects.specs.Story.{Story}
use Rattle.paw_effects.specs.Standing.{AreBytes}
use Rattle.paw_stage.specs.Stage.{Standing}
use Rattle.paw_stage.specs.declared.Stage.{Ghosts}
use Rattle.paw_stage.specs.declared.StageCall.{StageCall}
use Rattle.paw_play.specs.inner.Calls.{DoneWithMoments}
use Rattle.paw_host.specs.Names.{Request, is_name, store_name}
use Rattle.paw_host.specs.Replies.{Sessions, reply_to, sessions_with, sessions_after}
use Rattle.paw_host.specs.Promise.{MayBe, AllStore, BeginsWith, EachLeft, Answered, InHost, attached_with, MayAttach}
use Rattle.paw_host.specs.Hosts.{Hosts}
use Rattle.paw_host.specs.Outcomes.{host_failure}
use Rattle.paw_host.specs.inner.Store.{Rests}
use Rattle.paw_host.specs.declared.outcome.HostOutcome.{HostOutcome}
use Rattle.paw_host.specs.declared.outcome.HostOutcome.TheVariants as outcome

-- The call that failed, if an outcome has come.
abbrev pub host_failure_so_far : Option HostOutcome → Option StageCall
host_failure_so_far None = None
host_failure_so_far (Some o) = host_failure o

-- Each of the sessions may be.
abbrev pub AllMay : Story → Sessions → Type 0
AllMay g sessions = (name : Name) → is_name name ≡ true → MayBe g (sessions name)

-- No line is taken.
pub record SameLines (old new : Standing) : Type 0 where
  pub lines : new.lines ≡ old.lines
  pub asked : new.asked ≡ old.asked

-- One line is taken, or none was left. Where a call failed nothing is stated.
abbrev pub TakesTo : Standing → Standing → Option HostOutcome → Type 0
TakesTo old new None = (line : Line) × (old.lines ≡ line ∷ new.lines) × (new.asked ≡ old.asked + 1)
TakesTo old new (Some outcome.InputEnded) = (old.lines ≡ []) × (new ≡ old)
TakesTo old new (Some (outcome.Outside c)) = Unit {0}
TakesTo old new (Some _) = ⊥

-- This file isn't that of the name that is asked for.
abbrev pub IsNotFor : Option Request → Name → Type 0
IsNotFor request file = (r : Request) → request ≡ Some r → file ≢ store_name r.name

-- What a line asks for is done: the files are those of the sessions after it, and no other file has changed.
pub record IsDone (g : Story) (after : Sessions) (request : Option Request) (old new : Standing) : Type 0 where
  pub lines : new.lines ≡ old.lines
  pub asked : new.asked ≡ old.asked
  pub shown : new.shown ≡ old.shown
  pub files : (f : Name) → IsNotFor request f → new.files f ≡ old.files f
  pub stores : AllStore g after new
  pub attached : new.attached ≡ attached_with request old.attached

-- A moment at which a line's request is carried out.
pub record InWork (g : Story) (seed : Seed) (before after : Sessions) (request : Option Request) (old : Standing)
    (m : Standing) : Type 0 where
  pub asked : m.asked ≡ old.asked
  pub shown : m.shown ≡ old.shown
  pub files : (f : Name) → IsNotFor request f → m.files f ≡ old.files f
  pub left : EachLeft g seed before after m
  pub attached : MayAttach request old.attached m.attached

-- The first n lines were answered, and the host waits for the next one.
pub record IsServing (g : Story) (seed : Seed) (first : Sessions) (old now : Standing) (n : ℕ) : Type 0 where
  pub answered : Answered g seed first old now n
  pub may : AllMay g (sessions_after g seed first (take n old.lines))
  pub rests : Rests now

-- After one line more the host waits for the next one; or no line was left. Where a call failed the moments say what
-- stands.
abbrev pub ServesTo : Story → Seed → Sessions → Standing → Standing → ℕ → Option HostOutcome → Type 0
ServesTo g seed first old new n None = IsServing g seed first old new (suc n)
ServesTo g seed first old new n (Some outcome.InputEnded) =
    (n ≡ length old.lines) × IsServing g seed first old new n
ServesTo g seed first old new n (Some (outcome.Outside c)) = Unit {0}
ServesTo g seed first old new n (Some _) = ⊥

-- What is asked for is done, and the reply is made.
abbrev pub AnswersRequest : Story → Seed → Sessions → Option Request → Text → Standing → Standing → Type 0
AnswersRequest g seed sessions request text old new =
    (text ≡ reply_to g seed sessions request) × IsDone g (sessions_with g seed sessions request) request old new

-- A moment at which a line's request is carried out.
abbrev pub Doing : Story → Seed → Sessions → Option Request → Standing → Standing → Type 0
Doing g seed sessions request old m = InWork g seed sessions (sessions_with g seed sessions request) request old m

-- For all sessions that may be: what is asked for is done where no call failed, and each moment is one of that.
abbrev pub DoesRequest : {S A E : Type 0} → Ghosts S → S → S → Story → Seed → Option Request → Text → Result A E →
    Type 0
DoesRequest stage old new g seed request text result =
    (sessions : Sessions) → AllMay g sessions → AllStore g sessions (stage.standing old) →
    DoneWithMoments stage old new
    (OnOk result (AnswersRequest g seed sessions request text (stage.standing old) (stage.standing new)))
    (Doing g seed sessions request (stage.standing old))

-- For all sessions with which it may begin: how the host ends, and that each moment is one of its own.
abbrev pub HostsWithMoments : {S : Type 0} → Ghosts S → S → S → Story → Seed → HostOutcome → Type 0
HostsWithMoments stage old new g seed result = (first : Sessions) → BeginsWith g first (stage.standing old) →
    DoneWithMoments stage old new (Hosts g seed first (stage.standing old) (stage.standing new) result)
    (InHost g seed first (stage.standing old))

-- For each host that waits for a line, and has answered n of the lines that there were when it started: what one line
-- more does, and that each moment is one of the host.
abbrev pub ServesLine : {S : Type 0} → Ghosts S → S → S → Story → Seed → Option HostOutcome → Type 0
ServesLine stage old new g seed result = (first : Sessions) (start : Standing) (n : ℕ) → seed < 2 ^ 64 →
    All AreBytes start.lines → IsServing g seed first start (stage.standing old) n →
    DoneWithMoments stage old new (ServesTo g seed first start (stage.standing new) n result) (InHost g seed first start)
