use Rattle.paw_stage.proofs.Prefixes.{passed_call, passed_file}
use Rattle.paw_stage.proofs.replay.end_of.Goals as goal
use Rattle.paw_stage.proofs.replay.end_of.Goals.{then-is_call+else-before-eq0, else-is_call}

pub loop-k-preserved : goal.loop-k-preserved
loop-k-preserved c =
    let calls = c.args.calls.now in
    elim c.if-is_call.branch [
      | then-is_call+else-before-eq0 w ↦
          passed_call calls c.args.number c.loop-k.k c.loop-k.before c.if-is_call.before _ c.is_call.result
          c.loop-k-test.true c.is_call.ensures.value w.if-is_call.true w.if-before-eq0.false w.before-is c.loop-k.invariant
      | else-is_call w ↦
          passed_file calls c.args.number c.loop-k.k c.loop-k.before c.if-is_call.before _ c.is_call.result
          c.loop-k-test.true c.is_call.ensures.value w.if-is_call.false w.before-is c.loop-k.invariant
    ]
