use Rattle.std.proofs.Common.{OnErr, Result, Ok, Err, sym}
use Rattle.paw_game.specs.Valid.{Valid}
use Rattle.paw_game.proofs.Faults.{Valid-from_no_fault, no_fault-from_Valid}
use Rattle.paw_game.proofs.game.Game.new.Goals as goal

OnErr-from : {T E : Type 0} (r : Result T E) (P : Type 0) → P → OnErr r P
OnErr-from (Ok x) P h = tt
OnErr-from (Err e) P h = h

pub invariant_of-result : goal.invariant_of-result
invariant_of-result c = Valid-from_no_fault c.args.parts (sym c.in_ok-check.ensures.value)

pub returns-clause-valid : goal.returns-clause-valid
returns-clause-valid c = Valid-from_no_fault c.args.parts (sym c.in_ok-check.ensures.value)

pub returns-in_err-check-clause-refused : goal.returns-in_err-check-clause-refused
returns-in_err-check-clause-refused c =
    OnErr-from c.from_residual.result (Valid c.args.parts → ⊥)
    (λ valid. let none = no_fault-from_Valid c.args.parts valid in cc (c.in_err-check.ensures.value))
