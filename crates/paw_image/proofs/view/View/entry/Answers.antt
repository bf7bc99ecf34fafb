use Rattle.std.proofs.Common.{[], sym, ap, ◌∙◌}
use Rattle.std.specs.Prelude.{slice_get}
use Rattle.std.specs.Option.{option_copied, option_map, unwrap_or}
use Rattle.paw_game.specs.Image.{entry_image}
use Rattle.paw_image.specs.inner.Offsets.{entries_of, TableOffsets}
use Rattle.paw_image.proofs.ViewLaws.{entry_read, no_entry_read}
use Rattle.paw_image.proofs.view.View.entry.Goals as goal

pub returns-in_err-offset : goal.returns-in_err-offset
returns-in_err-offset c =
    let none = ap (λ (ps : TableOffsets). slice_get (unwrap_or (slice_get ps c.args.table) []) c.args.number)
    (sym (ap entries_of c.deref.ensures.value ∙ c.self.invariant.tables)) ∙ sym c.in_err-offset.ensures.value in
    let is = ap (option_map entry_image) (no_entry_read c.self.inside.bytes.now c.args.table c.args.number none) in
    record { value = ap option_copied c.from_residual.ensures ∙ sym (rw c.self.view_is at is) }

pub returns : goal.returns
returns c =
    let at = ap (λ (ps : TableOffsets). slice_get (unwrap_or (slice_get ps c.args.table) []) c.args.number)
    (sym (ap entries_of c.deref.ensures.value ∙ c.self.invariant.tables)) ∙ sym c.in_ok-offset.ensures.value in
    let found = c.entry_in.ensures.value ∙ entry_read c.self.inside.bytes.now c.self.invariant.image c.args.table c.args.number c.in_ok-offset.offset at in
    record { value = rw c.self.view_is at found }
