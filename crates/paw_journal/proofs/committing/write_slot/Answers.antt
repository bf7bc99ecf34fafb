use Rattle.std.proofs.Common.{ap, ◌∙◌}
use Rattle.paw_stage.specs.Disk.{put_at}
use Rattle.paw_stage.specs.Stage.{Standing}
use Rattle.paw_journal.specs.declared.layout.Slot.{Slot}
use Rattle.paw_journal.specs.Session.{slot}
use Rattle.paw_journal.specs.inner.Journal.{IsAtRest}
use Rattle.paw_journal.specs.inner.Writes.{IsSpare, IsFilling}
use Rattle.paw_journal.specs.inner.Room.{slot_number}
use Rattle.paw_journal.specs.declared.layout.TheConstants.{PIECE_AT}
use Rattle.paw_journal.proofs.Calls.{writes_failed, writes_then}
use Rattle.paw_journal.proofs.Chooses.{slot_small}
use Rattle.paw_journal.proofs.Fills.{filling_none, in_filling_sync, parts_then, filled_stable, slot_long}
use Rattle.paw_journal.proofs.Puts.{rewritten_long}
use Rattle.paw_journal.proofs.committing.write_slot.Goals as goal

-- Nothing was written yet.
begins : (w : Slot) (s : Standing) → IsAtRest s → IsSpare (slot_number w) s.disk.bytes → IsFilling (slot_number w) s s
begins w s rests spare = filling_none (slot_number w) s (slot_small w) rests.stable spare.made spare.other

pub returns-in_err-write_part-clause-call : goal.returns-in_err-write_part-clause-call
returns-in_err-write_part-clause-call g c =
    writes_failed c.from_residual.ensures.1 c.in_err-write_part.ensures.call
    (λ tells m i. i _ (begins c.args.which _ (c.requires.rests tells) (c.requires.spare tells)))

pub returns-in_err-write_part-2-clause-call : goal.returns-in_err-write_part-2-clause-call
returns-in_err-write_part-2-clause-call g c =
    writes_failed c.from_residual-in_err-write_part-2.ensures.1
    (parts_then c.in_ok-write_part.ensures.call c.in_err-write_part-2.ensures.call)
    (λ tells m i. i _ (begins c.args.which _ (c.requires.rests tells) (c.requires.spare tells)))

pub returns-in_err-write_part-3-clause-call : goal.returns-in_err-write_part-3-clause-call
returns-in_err-write_part-3-clause-call g c =
    writes_failed c.from_residual-in_err-write_part-3.ensures.1
    (parts_then (parts_then c.in_ok-write_part.ensures.call c.in_ok-write_part-2.ensures.call) c.in_err-write_part-3.ensures.call)
    (λ tells m i. i _ (begins c.args.which _ (c.requires.rests tells) (c.requires.spare tells)))

pub returns-clause-call : goal.returns-clause-call
returns-clause-call g c =
    let k = slot_number c.args.which in
    let s : Standing = g.S.Stage.standing c.args.stage.now in
    let t : Standing = g.S.Stage.standing c.write_part-3.new.stage in
    writes_then
    (parts_then (parts_then c.in_ok-write_part.ensures.call c.in_ok-write_part-2.ensures.call) c.in_ok-write_part-3.ensures.call)
    c.sync.ensures.call
    (λ tells filled synced.
    filled_stable k _ s t _ (filled.filling s (begins c.args.which s (c.requires.rests tells) (c.requires.spare tells)))
    (rewritten_long c.args.draft.at c.args.draft.records c.args.bytes.now c.args.piece.now _ c.requires.inside c.requires.short
    (slot_long k s.disk.bytes (slot_small c.args.which) (c.requires.spare tells).made.long))
    (filled.written
    ∙ ap (λ h. put_at 0 h (put_at PIECE_AT c.args.piece.now (put_at c.args.draft.at c.args.bytes.now (slot k s.disk.bytes))))
    c.head_of.ensures.value) synced)
    (λ tells m i. i s (begins c.args.which s (c.requires.rests tells) (c.requires.spare tells)))
    (λ tells filled beside m.
    in_filling_sync k s t m (filled.filling s (begins c.args.which s (c.requires.rests tells) (c.requires.spare tells))))
