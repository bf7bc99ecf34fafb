use Rattle.std.proofs.Common.{◌+◌, ap, ◌∙◌, arith, rules}
use Rattle.paw_game.specs.Valid.{is_place}
use Rattle.paw_state.specs.inner.Faults.{rule}
use Rattle.paw_state.proofs.Scans.{stops, goes_on, at_end}
use Rattle.paw_state.proofs.checks.all_places.Goals as goal

pub returns-in_err-rule : goal.returns-in_err-rule
returns-in_err-rule c =
    let h = stops (is_place c.args.locations) c.args.at c.loop-i.i _ c.args.places.now c.loop-i-test.true c.loop-i.invariant
    (c.in_err-rule.ensures.value ∙ ap (rule (c.args.at + c.loop-i.i)) c.is_place.ensures.value) in
    record { value = rw (← h) (search rules) }

pub loop-i-preserved : goal.loop-i-preserved
loop-i-preserved c =
    goes_on (is_place c.args.locations) c.args.at c.loop-i.i c.args.places.now (omega arith) c.loop-i.invariant
    (c.in_ok-rule.ensures.value ∙ ap (rule (c.args.at + c.loop-i.i)) c.is_place.ensures.value)

pub returns : goal.returns
returns c = record { value = at_end (is_place c.args.locations) c.args.at c.loop-i.i c.args.places.now (omega arith) c.loop-i.invariant }
