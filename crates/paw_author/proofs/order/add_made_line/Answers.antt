use Rattle.std.proofs.Common.{◌++◌, refl, sym, ap, ◌∙◌, append-nil}
use Rattle.std.proofs.lemmas.Option.{slice_get-map, slice_get_past}
use Rattle.paw_author.specs.Fragments.{LinesInParts}
use Rattle.paw_author.proofs.order.add_made_line.Goals as goal

pub returns-else-index-headers : goal.returns-else-index-headers
returns-else-index-headers c = record {
  value = sym (append-nil c.args.out.now.items)
      ∙ sym (ap (λ (more : LinesInParts). c.args.out.now.items ++ more)
      (rw (slice_get-map (λ header. header.now) c.args.headers.now c.args.index, slice_get_past c.args.headers.now c.args.index c.if-index-headers.false) refl));
}
