use Rattle.std.proofs.Common.{List, ℕ, sym, ap, ◌∙◌}
use Rattle.std.specs.Prelude.{slice_get}
use Rattle.paw_game.proofs.ValidGames.{IfSome-from, exit-leads}
use Rattle.paw_image.specs.inner.Views.{game_read}
use Rattle.paw_image.proofs.RowStartLaws.{exit_there, no_exit}
use Rattle.paw_image.proofs.ViewLaws.{lists_of}
use Rattle.paw_image.proofs.view.ViewTables.exit.Goals as goal

pub returns-in_err-offset-clause-value : goal.returns-in_err-offset-clause-value
returns-in_err-offset-clause-value c =
    let bytes = c.self.inside.bytes.now in
    let none = ap (λ (ps : List ℕ). slice_get ps c.args.location) (sym (c.deref.ensures.value ∙ c.self.invariant.exits)) ∙ sym c.in_err-offset.ensures.value in
    let is = no_exit (game_read bytes) c.args.verb c.args.location none in
    c.from_residual.ensures ∙ sym (rw c.self.view_is at is)

pub returns : goal.returns
returns c =
    let bytes = c.self.inside.bytes.now in
    let at = ap (λ (ps : List ℕ). slice_get ps c.args.location) (sym (c.deref.ensures.value ∙ c.self.invariant.exits))
    ∙ sym c.in_ok-offset.ensures.value in
    let there =
    exit_there bytes (game_read bytes) (lists_of bytes c.self.invariant.image) c.args.verb c.args.location
    c.in_ok-offset.offset at in
    let is = rw c.self.view_is at (c.exit_at.ensures.value ∙ there) in
    let valid = (rw c.self.view_is at c.self.invariant.image).valid in
    let leads = exit-leads (game_read c.args.self.now) valid c.args.location c.args.verb in
    record { value = is; leads = IfSome-from _ c.exit_at.result _ is leads }
