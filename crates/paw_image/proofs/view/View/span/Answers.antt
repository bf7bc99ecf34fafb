use Rattle.std.proofs.Common.{ℕ, Option, sym, ap, ◌∙◌}
use Rattle.paw_game.specs.inner.Tables.{text_at}
use Rattle.paw_image.specs.inner.Views.{game_read, text_span}
use Rattle.paw_image.proofs.ViewLaws.{span_read, text_begins}
use Rattle.paw_image.proofs.view.View.span.Goals as goal

pub returns-in_err-offset : goal.returns-in_err-offset
returns-in_err-offset c =
    let text = text_at (game_read c.args.self.now) c.args.part c.args.number in
    record { value = c.from_residual.ensures ∙ ap (λ (o : Option ℕ). text_span o text) c.in_err-offset.ensures.value }

pub text_in-text-requires : goal.text_in-text-requires
text_in-text-requires c =
    let image = rw c.self.view_is at c.self.invariant.image in
    record {
      there = rw c.self.view_is
          (text_begins c.args.self.now image c.args.part c.args.number c.in_ok-offset.offset (sym c.in_ok-offset.ensures.value));
    }

pub returns : goal.returns
returns c =
    let bytes = c.args.self.now in
    let image = rw c.self.view_is at c.self.invariant.image in
    let found = rw c.self.view_is at c.text_in-text.ensures.value in
    record {
      value =
          sym (span_read bytes image c.args.part c.args.number c.in_ok-offset.offset c.text_in-text.result.now
          (sym c.in_ok-offset.ensures.value) found);
    }
