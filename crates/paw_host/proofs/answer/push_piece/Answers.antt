use Rattle.paw_host.proofs.Cited.{◌++◌, ◌∙◌, ap, arith, length}
use Rattle.paw_host.proofs.answer.push_piece.Goals as goal

pub returns : goal.returns
returns c = record {
  value = λ fits. c.push.ensures.value (omega (arith, fits, ap length c.piece.ensures.value)) ∙ ap (λ p. c.args.reply.now ++ p) c.piece.ensures.value;
}
