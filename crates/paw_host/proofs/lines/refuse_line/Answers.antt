use Rattle.paw_host.proofs.Cited.{◌++◌, ◌∙◌, ap, arith, codes}
use Rattle.paw_host.proofs.lines.refuse_line.Goals as goal

pub returns : goal.returns
returns c = record {
  value = c.push.ensures.value (omega (arith, c.begin_reply.ensures.short)) ∙ ap (λ x. x ++ codes "bad line\n") c.begin_reply.ensures.value;
}
