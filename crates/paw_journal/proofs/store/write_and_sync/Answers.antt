use Rattle.std.proofs.Common.{inl, inr, subst}
use Rattle.paw_stage.specs.Stage.{Standing, InSync}
use Rattle.paw_journal.proofs.Calls.{writes_failed, writes_then}
use Rattle.paw_journal.proofs.Moved.{written_synced}
use Rattle.paw_journal.proofs.store.write_and_sync.Goals as goal

pub returns-in_err-write-clause-call : goal.returns-in_err-write-clause-call
returns-in_err-write-clause-call g c = writes_failed c.from_residual.ensures.1 c.in_err-write.ensures.call (λ tells m. inl)

pub returns-clause-call : goal.returns-clause-call
returns-clause-call g c =
    let s : Standing = g.S.Stage.standing c.args.stage.now in
    let t : Standing = g.S.Stage.standing c.write.new.stage in
    writes_then c.in_ok-write.ensures.call c.sync.ensures.call
    (λ tells wrote synced. written_synced c.args.at c.args.bytes.now s t _ wrote synced)
    (λ tells m. inl)
    (λ tells wrote beside m moved. inr (subst (λ u. InSync u m) wrote moved))
