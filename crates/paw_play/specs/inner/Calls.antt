-- The calls of a stage that playing makes: words that contracts between crates and proofs use besides those of
-- specs/Calls.antt.
use Rattle.std.specs.Prelude.{Option, Some, None, Result, Ok, Err}
use Rattle.paw_stage.specs.declared.Stage.{Ghosts}
use Rattle.paw_stage.specs.declared.StageCall.{StageCall}
use Rattle.paw_stage.specs.Stage.{Standing}
use Rattle.paw_stage.specs.AcrossCalls.{EachMoment}
use Rattle.paw_journal.specs.declared.refusal.JournalRefusal.TheVariants as refusal
use Rattle.paw_play.specs.declared.PlayEnd.{PlayEnd}
use Rattle.paw_play.specs.declared.PlayEnd.TheVariants as end

-- A store is never refused for a call that failed: such an end is Outside.
abbrev pub IsNotForCall : PlayEnd → Type 0
IsNotForCall (end.Refused (refusal.Outside c)) = ⊥
IsNotForCall _ = Unit {0}

-- The call that failed, by how playing ended.
abbrev pub call_of_end : PlayEnd → Option StageCall
call_of_end (end.Outside c) = Some c
call_of_end (end.Refused (refusal.Outside c)) = Some c
call_of_end _ = None

-- The same where playing may go on.
abbrev pub failed_so_far : Option PlayEnd → Option StageCall
failed_so_far None = None
failed_so_far (Some o) = call_of_end o

-- The call that failed, where playing has ended only if there is no answer.
abbrev pub end_failed_or : {A : Type 0} → Result A PlayEnd → Option StageCall
end_failed_or (Ok a) = None
end_failed_or (Err o) = call_of_end o

-- What calls promise: `Done` of what they gave, and `Inside` of each moment of them, at which a crash may come.
pub record DoneWithMoments {S : Type 0} (g : Ghosts S) (old new : S) (Done : Type 0) (Inside : Standing → Type 0)
    : Type 0 where
  pub meaning : Done
  pub any_moment : EachMoment g old new Inside
