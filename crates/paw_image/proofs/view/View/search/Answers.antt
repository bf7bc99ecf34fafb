use Rattle.std.proofs.Common.{List, ap, sym, ◌∙◌}
use Rattle.std.specs.Prelude.{slice_get}
use Rattle.paw_image.specs.declared.offsets.TableIndex.{TableIndex}
use Rattle.paw_image.proofs.ViewLaws.{match_read, no_match_read, ordered_at}
use Rattle.paw_image.proofs.view.View.search.Goals as goal

pub returns-in_err-index : goal.returns-in_err-index
returns-in_err-index c =
    let none = ap (λ (ts : List TableIndex). slice_get ts c.args.table) (sym c.deref.ensures.value)
    ∙ sym c.in_err-index.ensures.value in
    let is = no_match_read c.self.invariant c.args.table none c.args.from c.args.verb c.args.noun in
    record { value = c.from_residual.ensures ∙ sym (rw c.self.view_is at is) }

pub next_in-requires : goal.next_in-requires
next_in-requires c =
    let at = ap (λ (ts : List TableIndex). slice_get ts c.args.table) (sym c.deref.ensures.value)
    ∙ sym c.in_ok-index.ensures.value in
    let ordered = ordered_at _ _ c.args.table c.in_ok-index.index.now c.self.invariant.ordered at in
    record { sorted = ordered.sorted }

pub returns : goal.returns
returns c =
    let at = ap (λ (ts : List TableIndex). slice_get ts c.args.table) (sym c.deref.ensures.value)
    ∙ sym c.in_ok-index.ensures.value in
    let found = match_read c.self.invariant c.args.table c.in_ok-index.index.now at c.args.from c.args.verb c.args.noun
    c.next_in.result c.next_in.ensures.least in
    record { value = rw c.self.view_is at found }
