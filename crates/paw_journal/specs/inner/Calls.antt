-- What a call of the journal does to the stage: what holds after it, and at each moment inside it.
use Rattle.std.specs.Prelude.{◌≡◌, [], ◌∷◌, Option, Result}
use Rattle.paw_stage.specs.declared.Stage.{Ghosts}
use Rattle.paw_stage.specs.declared.StageCall.{StageCall}
use Rattle.paw_stage.specs.declared.StageCall.TheVariants as call
use Rattle.paw_stage.specs.Stage.{Standing, Still}
use Rattle.paw_stage.specs.AcrossCalls.{FailsOnlyBy, IfTelling}
use Rattle.paw_stage.specs.inner.AcrossCalls.{OnSuccess, AtEachMoment}
use Rattle.paw_journal.specs.Journal.{writing_calls}
use Rattle.paw_journal.specs.inner.Journal.{failed_stage_call}
use Rattle.paw_journal.specs.inner.Store.{ChangesStoreOnly}

-- A call that writes to the attached store. Only a write or a sync may have failed, and all but the store stays as it
-- was. `Post` holds after the call where it was done, and `Crash` at each moment inside it, at which a crash may come:
-- both by what stood before.
pub record WritesStore {S A : Type 0} (g : Ghosts S) (result : Result A StageCall)
    (Post Crash : Standing → Standing → Type 0) (old new : S) : Type 0 where
  pub serves : FailsOnlyBy g writing_calls (failed_stage_call result) old new
  pub beside : IfTelling g old new ChangesStoreOnly
  pub post : OnSuccess g old new result Post
  pub crash : AtEachMoment g old new Crash

-- A call that only reads: only a read may have failed, and all stands as before, at each moment inside it too.
pub record ReadsStore {S : Type 0} (g : Ghosts S) (failed : Option StageCall) (old new : S) : Type 0 where
  pub serves : FailsOnlyBy g (call.Read ∷ []) failed old new
  pub still : g.Tells old → g.standing new ≡ g.standing old
  pub crash : AtEachMoment g old new Still
