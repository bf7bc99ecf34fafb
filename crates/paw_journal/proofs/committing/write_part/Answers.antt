use Rattle.std.proofs.Common.{◌≡◌, ◌+◌, ◌*◌, ◌∙◌, length, sym, eqb-true, arith}
use Rattle.paw_journal.specs.inner.Room.{slot_number}
use Rattle.paw_journal.specs.Session.{header_length, slot_length}
use Rattle.paw_journal.proofs.Calls.{writes_none, writes_weaker}
use Rattle.paw_journal.proofs.Chooses.{slot_small}
use Rattle.paw_journal.proofs.Fills.{filling_wrote, in_filling_write, wrote_slot, wrote_nothing}
use Rattle.paw_journal.proofs.committing.write_part.Goals as goal

pub returns-then-is_empty-clause-call : goal.returns-then-is_empty-clause-call
returns-then-is_empty-clause-call g c =
    let e : length c.args.bytes.now ≡ 0 = eqb-true (length c.args.bytes.now) 0 (sym c.is_empty.ensures ∙ c.if-is_empty.true) in
    writes_none (λ tells. record {
      filling = λ first h. h;
      written = wrote_nothing _ _ _ _ (slot_small c.args.which) (c.requires.long tells) e c.requires.inside;
    })

pub returns-clause-call : goal.returns-clause-call
returns-clause-call g c =
    let s = g.S.Stage.standing c.args.stage.now in
    let t = g.S.Stage.standing c.write.new.stage in
    let e : c.start.result + c.args.at ≡ header_length + slot_length * slot_number c.args.which + c.args.at =
    omega (arith, c.start.ensures.value) in
    writes_weaker c.write.ensures.call
    (λ tells w. record {
      filling = λ first h. filling_wrote _ _ _ _ first s t h e c.requires.inside w;
      written = wrote_slot _ _ _ _ s t (slot_small c.args.which) (c.requires.long tells) e c.requires.inside w;
    })
    (λ tells m i first h. in_filling_write _ _ _ _ first s m h e c.requires.inside i)
