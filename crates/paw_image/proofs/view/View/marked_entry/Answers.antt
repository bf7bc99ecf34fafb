use Rattle.std.proofs.Common.{List, ℕ, sym, ap, ◌∙◌}
use Rattle.std.specs.Prelude.{slice_get}
use Rattle.paw_image.specs.declared.offsets.TableIndex.{TableIndex}
use Rattle.paw_image.proofs.ViewLaws.{no_index_read, no_place_read, condact_by_index, counts_by_index, milestones_by_index}
use Rattle.paw_image.proofs.view.View.marked_entry.Goals as goal

pub returns-in_err-index-clause-none : goal.returns-in_err-index-clause-none
returns-in_err-index-clause-none c =
    let none = ap (λ (ts : List TableIndex). slice_get ts c.args.table) (sym c.deref.ensures.value)
    ∙ sym c.in_err-index.ensures.value in
    let no_entry = no_index_read c.self.invariant c.args.table c.args.entry none in
    rw c.from_residual.ensures (rw c.self.view_is at no_entry)

pub returns-in_err-offset-clause-none : goal.returns-in_err-offset-clause-none
returns-in_err-offset-clause-none c =
    let there = ap (λ (ts : List TableIndex). slice_get ts c.args.table) (sym c.deref.ensures.value)
    ∙ sym c.in_ok-index.ensures.value in
    let none = ap (λ (ps : List ℕ). slice_get ps c.args.entry) (sym c.deref-2.ensures.value)
    ∙ sym c.in_err-offset.ensures.value in
    let no_entry = no_place_read c.self.invariant c.args.table c.in_ok-index.index.now there c.args.entry none in
    rw c.from_residual-in_err-offset.ensures (rw c.self.view_is at no_entry)

pub returns : goal.returns
returns c =
    let there = ap (λ (ts : List TableIndex). slice_get ts c.args.table) (sym c.deref.ensures.value)
    ∙ sym c.in_ok-index.ensures.value in
    let begins = ap (λ (ps : List ℕ). slice_get ps c.args.entry) (sym c.deref-2.ensures.value)
    ∙ sym c.in_ok-offset.ensures.value in
    let index = c.in_ok-index.index.now in
    let offset = c.in_ok-offset.offset in
    record {
      milestones = rw c.self.view_is at (milestones_by_index c.self.invariant c.args.table index there c.args.entry offset begins);
      stands = rw c.self.view_is at (λ (k : ℕ). condact_by_index c.self.invariant c.args.table index there c.args.entry k offset begins);
      count = rw c.self.view_is at (counts_by_index c.self.invariant c.args.table index there c.args.entry offset begins);
      none = tt;
    }
