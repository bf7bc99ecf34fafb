use Rattle.std.proofs.Common.{◌+◌, ◌-◌, ◌∙◌, length, drop, sym, add-one, take_all, length-drop, le_of_eq}
use Rattle.paw_effects.proofs.Underscores.{same_whole, same_without, replaced_at}
use Rattle.paw_effects.proofs.text.split_at_underscore.Goals as goal

pub returns-then-not-contains-clause-none : goal.returns-then-not-contains-clause-none
returns-then-not-contains-clause-none c = λ name.
    same_without name c.args.text.now (sym c.contains.ensures.value ∙ c.if-not-contains.true)

pub returns-in_err-at-clause-none : goal.returns-in_err-at-clause-none
returns-in_err-at-clause-none c = rw c.from_residual.ensures (λ name. same_whole name c.args.text.now c.in_err-at.ensures)

pub returns-clause-some : goal.returns-clause-some
returns-clause-some c name =
    let text = c.args.text.now in
    let at = c.in_ok-at.at in
    rw (take_all (length text - (at + 1)) (drop (at + 1) text) (le_of_eq (length-drop (at + 1) text)), add-one at)
    (replaced_at name text at c.in_ok-at.ensures.0.high c.in_ok-at.ensures.0.before c.in_ok-at.ensures.1)
