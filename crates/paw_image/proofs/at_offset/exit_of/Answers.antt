use Rattle.std.proofs.Common.{◌≡◌, ◌-◌, ◌+◌, Some, refl, sym, ◌∙◌}
use Rattle.std.proofs.lemmas.Bool.{eq-eqb, ne_eqb}
use Rattle.paw_image.specs.inner.Rows.{exit_in}
use Rattle.paw_image.proofs.ExitLoop.{exit_next}
use Rattle.paw_image.proofs.at_offset.exit_of.Goals as goal

pub returns-then-exit-verb : goal.returns-then-exit-verb
returns-then-exit-verb c =
    let exit = c.in_ok-exit.exit in
    let step = exit_next c.args.verb c.args.count c.loop.counter c.loop.rest.now (exit, c.in_ok-exit.after.now)
    c.loop-test.true (sym c.in_ok-exit.ensures.value) in
    let found : exit_in c.args.verb (c.args.count - c.loop.counter) c.loop.rest.now ≡ Some exit.to =
    step ∙ rw (eq-eqb exit.verb c.args.verb c.if-exit-verb.true) refl in
    record { value = sym found ∙ c.loop.invariant }

pub loop-preserved : goal.loop-preserved
loop-preserved c =
    let exit = c.in_ok-exit.exit in
    let step = exit_next c.args.verb c.args.count c.loop.counter c.loop.rest.now (exit, c.in_ok-exit.after.now)
    c.loop-test.true (sym c.in_ok-exit.ensures.value) in
    let found : exit_in c.args.verb (c.args.count - c.loop.counter) c.loop.rest.now
    ≡ exit_in c.args.verb (c.args.count - (c.loop.counter + 1)) c.in_ok-exit.after.now =
    step ∙ rw (ne_eqb exit.verb c.args.verb c.if-exit-verb.false) refl in
    sym found ∙ c.loop.invariant
