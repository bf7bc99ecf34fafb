use Rattle.paw_host.proofs.Cited.{◌∙◌, [], sym, subst, arith, Standing, IsAtRest, story_of, OpenSession, Stores}
use Rattle.paw_host.proofs.{Leaving.on_ok_said, Leaving.grown_length, Leaving.promised, Played.text_refused, Played.text_taken, Played.text_in_file}
use Rattle.paw_host.proofs.answer.answer_text.Goals as goal

-- ---- a piece ----

pub returns-in-Ok-clause-short : goal.returns-in-Ok-clause-short
returns-in-Ok-clause-short g c =
    let grown = c.push_piece.ensures.value (omega (arith, c.requires.room, c.in-Ok.ensures.short)) in
    omega (arith, grown_length c.args.reply.now c.take.new.room.piece c.push_piece.new.reply grown, c.in-Ok.ensures.short)

pub returns-in-Ok-clause-leaves : goal.returns-in-Ok-clause-leaves
returns-in-Ok-clause-leaves g c =
    record { serves = c.in-Ok.ensures.serves; beside = c.take.ensures.beside; left = λ tells. (c.in-Ok.ensures.holds.kept tells).rests }

pub returns-in-Ok-clause-promises : goal.returns-in-Ok-clause-promises
returns-in-Ok-clause-promises g c = λ tells X answers seed named s plays stores count opened.
    let old : Standing = g.S.Stage.standing c.args.stage.now in
    promised (c.in-Ok.ensures.promises tells X answers s 0 [] [] opened (omega (arith, count)))
    (λ taken. text_taken plays seed c.args.text.now OpenSession c.in-Ok.field-0 old (g.S.Stage.standing c.take.new.stage) c.take.new.player
    c.take.new.room.piece c.args.reply.now c.push_piece.new.reply taken
    (c.push_piece.ensures.value (omega (arith, c.requires.room, c.in-Ok.ensures.short))))
    (λ m i. text_in_file plays seed c.args.text.now old m stores opened.keeps i)

-- ---- none ----

pub returns-in-Err-clause-leaves : goal.returns-in-Err-clause-leaves
returns-in-Err-clause-leaves g c = record {
  serves = rw c.push_end.ensures.failed c.in-Err.ensures.serves;
  beside = c.take.ensures.beside;
  left = λ tells. on_ok_said c.push_end.result c.push_end.ensures.says (λ none said.
      subst (λ q. IsAtRest (g.S.Stage.standing q)) (sym (c.in-Err.ensures.still (sym c.push_end.ensures.failed ∙ none))) (c.requires.kept tells).rests);
}

pub returns-in-Err-clause-promises : goal.returns-in-Err-clause-promises
returns-in-Err-clause-promises g c = λ tells X answers seed named s plays stores count opened.
    let old : Standing = g.S.Stage.standing c.args.stage.now in
    promised (c.in-Err.ensures.promises tells X answers s 0 [] [] opened (omega (arith, count)))
    (λ taken. on_ok_said c.push_end.result c.push_end.ensures.says (λ none said.
    let fine = sym c.push_end.ensures.failed ∙ none in
    rw (text_refused plays seed c.args.text.now OpenSession old (g.S.Stage.standing c.take.new.stage) c.take.new.player c.take.new.room.piece
    c.in-Err.end taken fine) (record {
      body = said;
      stores = subst (λ q. Stores (story_of c.args.player.now.game X) named (g.S.Stage.standing q).disk.bytes) (sym (c.in-Err.ensures.still fine)) stores;
    })))
    (λ m i. text_in_file plays seed c.args.text.now old m stores opened.keeps i)
