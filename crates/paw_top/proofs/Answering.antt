-- Answers that name a call that failed.
use Rattle.std.proofs.Common.{◌≡◌, ◌∙◌, ◌++◌, List, None, refl, sym, ap, subst}
use Rattle.std.specs.Prelude.{Result}
use Rattle.paw_base.specs.declared.fault.SourceFault.{SourceFault}
use Rattle.paw_game.specs.Game.{GameLists}
use Rattle.paw_stage.specs.declared.Stage.{Ghosts}
use Rattle.paw_stage.specs.declared.StageCall.{StageCall}
use Rattle.paw_stage.specs.AcrossCalls.{FailsOnlyBy}
use Rattle.paw_journal.specs.declared.refusal.JournalRefusal.TheVariants as refusal
use Rattle.paw_play.specs.inner.Calls.{call_of_end}
use Rattle.paw_play.specs.declared.PlayEnd.{PlayEnd}
use Rattle.paw_play.specs.declared.PlayEnd.TheVariants as end
use Rattle.paw_stage.specs.Loads.{load_calls}
use Rattle.paw_top.specs.Answers.{failed_call}
use Rattle.paw_top.specs.inner.Compile.{IsRefusal}
use Rattle.paw_top.specs.Ends.{outcome_of}
use Rattle.paw_top.specs.declared.outcome.Outcome.{Outcome}
use Rattle.paw_top.specs.declared.outcome.Outcome.TheVariants as outcome
use Rattle.paw_journal.proofs.Serving.{behind, serves_among, serves_then}

-- The call that playing ended for is the one that is answered.
failed_same : (o : PlayEnd) → failed_call (outcome_of o) ≡ call_of_end o
failed_same (end.Refused (refusal.Outside c)) = refl
failed_same _ = refl

-- A game that is loaded and then played.
pub played_serves : {S : Type 0} {g : Ghosts S} {old mid new : S} (calls : List StageCall) (o : PlayEnd) (p : Outcome) → p ≡ outcome_of o →
    FailsOnlyBy g load_calls None old mid → FailsOnlyBy g calls (call_of_end o) mid new → FailsOnlyBy g (load_calls ++ calls) (failed_call p) old new
played_serves {S} {g} {old} {mid} {new} calls o p e first last =
    subst (λ f. FailsOnlyBy g (load_calls ++ calls) f old new) (sym (ap failed_call e ∙ failed_same o))
    (serves_then g _ _ _ old mid new first (serves_among g calls _ _ mid new (behind load_calls calls) last))

-- A source that is refused made no call fail.
pub refused_faulted : (read : Result GameLists SourceFault) (o : Outcome) → IsRefusal read o → failed_call o ≡ None
refused_faulted read (outcome.SourceRefused fault) h = refl
refused_faulted read (outcome.Memory at) h = refl
refused_faulted read _ h = absurd h
