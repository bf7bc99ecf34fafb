use Rattle.std.proofs.Common.{◌≡◌, ◌-◌, [], ◌∷◌, refl, arith}
use Rattle.std.proofs.lemmas.Result.{err_from_is_err_and}
use Rattle.paw_image.proofs.EachLoop.{exits_go_on, exits_end, exits_are_done}
use Rattle.paw_image.proofs.MarkLaws.{no_marks, one_more}
use Rattle.paw_image.proofs.exits.pass_exits.Goals as goal

pub loop-init : goal.loop-init
loop-init c = let all : c.args.count - 0 ≡ c.args.count = omega arith in ([], no_marks, rw all refl)

pub returns-in_err-verb : goal.returns-in_err-verb
returns-in_err-verb c =
    let p = err_from_is_err_and c.from_residual.result c.from_residual.ensures.1 in
    let verbs = c.loop.invariant.0 in
    record {
      gives =
          rw (p.1, p.2)
          (exits_end c.args.rules.now verbs c.args.count c.loop.counter c.loop.rest.now _ c.in_err-verb.field-0.0
          c.loop-test.true (c.in_err-verb.ensures.gives verbs c.loop.invariant.1) c.loop.invariant.2);
    }

pub loop-preserved : goal.loop-preserved
loop-preserved c =
    let verbs = c.loop.invariant.0 in
    let verb = c.in_ok-verb.verb in (
      verb ∷ verbs,
      one_more c.loop.marks verbs verb c.loop.invariant.1,
      exits_go_on c.args.rules.now verbs c.args.count c.loop.counter c.loop.rest.now _ verb c.in_ok-verb.after.now
          c.loop-test.true (c.in_ok-verb.ensures.gives verbs c.loop.invariant.1) c.loop.invariant.2,
    )

pub returns : goal.returns
returns c =
    record { gives = exits_are_done c.args.rules.now c.loop.invariant.0 c.args.count c.loop.counter c.loop.rest.now _ c.loop-test.false c.loop.invariant.2 }
