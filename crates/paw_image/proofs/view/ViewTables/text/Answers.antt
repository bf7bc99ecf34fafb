use Rattle.std.proofs.Common.{sym, ap, ◌∙◌}
use Rattle.std.specs.Option.{option_copied}
use Rattle.paw_game.proofs.ValidGames.{text-short, text_follows}
use Rattle.paw_image.specs.inner.Views.{game_read}
use Rattle.paw_image.proofs.RowStartLaws.{no_text_of_part}
use Rattle.paw_image.proofs.ViewLaws.{text_begins, text_read}
use Rattle.paw_image.proofs.view.ViewTables.text.Goals as goal

pub returns-in_err-offset-clause-value : goal.returns-in_err-offset-clause-value
returns-in_err-offset-clause-value c =
    ap option_copied c.from_residual.ensures ∙ sym (no_text_of_part (game_read c.args.self.now) c.args.part c.args.number (sym c.in_err-offset.ensures.value))

pub text_in-requires : goal.text_in-requires
text_in-requires c =
    let image = rw c.self.view_is at c.self.invariant.image in
    record {
      there = rw c.self.view_is
          (text_begins c.args.self.now image c.args.part c.args.number c.in_ok-offset.offset (sym c.in_ok-offset.ensures.value));
    }

pub returns : goal.returns
returns c =
    let bytes = c.args.self.now in
    let image = rw c.self.view_is at c.self.invariant.image in
    let read = rw c.self.view_is at c.text_in.ensures.value in
    let is = sym read ∙ text_read bytes image c.args.part c.args.number c.in_ok-offset.offset (sym c.in_ok-offset.ensures.value) in
    record {
      value = is;
      short = text-short c.text_in.result.now (text_follows (game_read bytes) image.valid c.args.part c.args.number c.text_in.result.now (sym is));
    }
