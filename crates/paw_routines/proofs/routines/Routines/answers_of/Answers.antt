use Rattle.std.proofs.Common.{◌≡◌, ◌+◌, ◌∙◌, set, subst, arith}
use Rattle.std.proofs.lemmas.List.{length-set}
use Rattle.paw_routines.proofs.Measures.{AreValues, answer_more, all_answers}
use Rattle.paw_routines.proofs.routines.Routines.answers_of.Goals as goal

pub loop-x-preserved : goal.loop-x-preserved
loop-x-preserved g c = (
  length-set c.loop-x.own c.loop-x.x c.f.result ∙ c.loop-x.invariant.0,
  λ X stand. answer_more g.F.Fn c.args.self.now.f c.args.self.now.count X stand c.args.n c.loop-x.x c.loop-x.own c.f.result
      c.requires.is_routine (omega arith) c.f.type_inv c.loop-x.invariant.0 c.f.ensures (c.loop-x.invariant.1 X stand),
)

pub returns-2 : goal.returns-2
returns-2 g c = record {
  value = λ X stand.
      let own = set c.loop-x.own c.loop-x.x c.f.result in
      let last : c.loop-x.x + 1 ≡ 256 = omega arith in
      let values = answer_more g.F.Fn c.args.self.now.f c.args.self.now.count X stand c.args.n c.loop-x.x c.loop-x.own c.f.result
      c.requires.is_routine (omega arith) c.f.type_inv c.loop-x.invariant.0 c.f.ensures (c.loop-x.invariant.1 X stand) in
      all_answers g.F.Fn c.args.self.now.f c.args.self.now.count X stand c.args.n own c.requires.is_routine
      (length-set c.loop-x.own c.loop-x.x c.f.result ∙ c.loop-x.invariant.0) (subst (λ k. AreValues X c.args.n k own) last values);
}
