-- What calls leave of a stage, one after the other.
use Rattle.std.proofs.Common.{◌≡◌, ◌↔◌, List, [], ◌∷◌, ◌++◌, inl, inr, sym, subst}
use Rattle.std.specs.Prelude.{Option, Some, None}
use Rattle.paw_stage.specs.declared.StageCall.{StageCall}
use Rattle.paw_stage.specs.declared.Stage.{Ghosts}
use Rattle.paw_stage.specs.Stage.{CountsFailure}
use Rattle.paw_stage.specs.AcrossCalls.{IsOneOf, FailsOnlyBy}
use Rattle.paw_stage.proofs.Counted.{CountsFailure_same, CountsFailure_on}

-- ---- lists ----

-- One of a list of one.
pub the_only_one : {A : Type 0} (x y : A) → IsOneOf (y ∷ []) x → x ≡ y
the_only_one x y (inl e) = e
the_only_one x y (inr h) = absurd h

-- What is one of these is one of a longer list.
pub in_front : {A : Type 0} (few more : List A) (x : A) → IsOneOf few x → IsOneOf (few ++ more) x
in_front [] more x h = absurd h
in_front (y ∷ few) more x (inl e) = inl e
in_front (y ∷ few) more x (inr h) = inr (in_front few more x h)

-- Or before.
pub behind : {A : Type 0} (more few : List A) (x : A) → IsOneOf few x → IsOneOf (more ++ few) x
behind [] few x h = h
behind (y ∷ more) few x h = inr (behind more few x h)

-- ---- calls ----

-- No call.
pub serves_none : {S : Type 0} (g : Ghosts S) (calls : List StageCall) (s : S) → FailsOnlyBy g calls None s s
serves_none g calls s = record { tells = (λ t. t, λ t. t); counts_failure = CountsFailure_same (g.failures s); among = tt }

-- A call that didn't fail.
pub serves_done : {S : Type 0} (g : Ghosts S) (old new : S) → g.Tells old ↔ g.Tells new → CountsFailure None (g.failures old) (g.failures new) →
    FailsOnlyBy g [] None old new
serves_done g old new t f = record { tells = t; counts_failure = f; among = tt }

-- Calls that are among more.
pub serves_among : {S : Type 0} (g : Ghosts S) (few many : List StageCall) (failed : Option StageCall) (old new : S) →
    ((c : StageCall) → IsOneOf few c → IsOneOf many c) → FailsOnlyBy g few failed old new → FailsOnlyBy g many failed old new
serves_among g few many None old new h s = record { tells = s.tells; counts_failure = s.counts_failure; among = tt }
serves_among g few many (Some c) old new h s = record { tells = s.tells; counts_failure = s.counts_failure; among = h c s.among }

-- Calls none of which failed, and then an answer that names none.
pub serves_still : {S : Type 0} (g : Ghosts S) (few many : List StageCall) (failed : Option StageCall) (old new : S) → failed ≡ None →
    FailsOnlyBy g few None old new → FailsOnlyBy g many failed old new
serves_still g few many failed old new e s =
    subst (λ f. FailsOnlyBy g many f old new) (sym e) (record { tells = s.tells; counts_failure = s.counts_failure; among = tt })

-- Calls none of which failed, and then others.
pub serves_then : {S : Type 0} (g : Ghosts S) (first next : List StageCall) (failed : Option StageCall) (old mid new : S) →
    FailsOnlyBy g first None old mid → FailsOnlyBy g next failed mid new → FailsOnlyBy g next failed old new
serves_then g first next failed old mid new a b = record {
  tells = (λ t. b.tells.0 (a.tells.0 t), λ t. a.tells.1 (b.tells.1 t));
  counts_failure = CountsFailure_on failed (g.failures old) (g.failures mid) (g.failures new) a.counts_failure b.counts_failure;
  among = b.among;
}
