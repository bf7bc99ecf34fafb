use Rattle.paw_host.proofs.Cited.{◌++◌, ◌∙◌, ap, arith}
use Rattle.paw_host.proofs.Leaving.{grown_length}
use Rattle.paw_host.proofs.answer.push_end.Goals as goal

pub returns-in-Ok-clause-says : goal.returns-in-Ok-clause-says
returns-in-Ok-clause-says c =
    c.push.ensures.value (omega (arith, c.requires.room, c.in-Ok.ensures.short)) ∙ ap (λ w. c.args.reply.now ++ w) c.in-Ok.ensures.word

pub returns-in-Ok-clause-short : goal.returns-in-Ok-clause-short
returns-in-Ok-clause-short c =
    let grown = c.push.ensures.value (omega (arith, c.requires.room, c.in-Ok.ensures.short)) in
    omega (arith, grown_length c.args.reply.now c.in-Ok.word.now c.push.new.self grown, c.in-Ok.ensures.short)
