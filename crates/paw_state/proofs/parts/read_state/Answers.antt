use Rattle.std.proofs.Common.{◌≡◌, ◌≤◌, length, refl, sym, ap, ◌∙◌, Some, None}
use Rattle.std.specs.Prelude.{Result, Ok, Err, IsOk, IsErr, IfErr}
use Rattle.std.proofs.lemmas.Result.{err_from_is_err_and}
use Rattle.paw_base.specs.Bytes.{Bytes}
use Rattle.paw_base.specs.declared.layout.TheConstants.{STATE_LENGTH}
use Rattle.paw_game.specs.Game.{GameLists}
use Rattle.paw_state.specs.declared.StateFault.{StateFault}
use Rattle.paw_state.specs.declared.fields.Fields.{Fields}
use Rattle.paw_state.specs.inner.Fields.{fields_at}
use Rattle.paw_state.specs.inner.Fields.{parts_fault}
use Rattle.paw_state.specs.inner.State.{state_in}
use Rattle.paw_state.specs.State.{AreBytes}
use Rattle.paw_state.specs.Fit.{Unfit}
use Rattle.paw_state.specs.inner.Fit.{unfit}
use Rattle.paw_state.specs.inner.Fit.{state_read}
use Rattle.paw_state.proofs.Told.{piece_read}
use Rattle.paw_state.proofs.Lawful.{fit_has_none, unfit_parts, none_is_fit, is_unfit, long_state, is_read}
use Rattle.paw_state.proofs.parts.read_state.Goals as goal

not_both : {A E : Type 0} → (r : Result A E) → IsErr r → IsOk r → ⊥
not_both (Ok x) h k = cc
not_both (Err e) h k = cc

named : {A : Type 0} → (g : GameLists) (bytes : Bytes) (r : Result A StateFault) (e : StateFault) → r ≡ Err e → Unfit g bytes e.at
    → IfErr r (λ f. Unfit g bytes f.at)
named g bytes r e is h = rw is h

none_from : (g : GameLists) (f : Fields) (bytes : Bytes) → STATE_LENGTH ≤ length bytes → AreBytes bytes → None ≡ parts_fault g f →
    f ≡ fields_at bytes
    → unfit g bytes ≡ None
none_from g f bytes n b h e = unfit_parts g bytes n b ∙ sym (h ∙ ap (parts_fault g) e)

pub returns-in_err-check-clause-fit : goal.returns-in_err-check-clause-fit
returns-in_err-check-clause-fit g c =
    let game = g.T.Tables.game c.args.tables.now in
    let e : Some c.in_err-check.field-0.0.at ≡ unfit game c.args.bytes.now = c.in_err-check.ensures.value
    ∙ (ap (parts_fault game) c.at-fields.ensures.value ∙ sym (unfit_parts game c.args.bytes.now c.at-fields.ensures.room c.at-fields.ensures.bytes)) in (
      λ ok. absurd (not_both c.from_residual.result c.from_residual.ensures.0 ok),
      λ fit. let none = fit_has_none game c.args.bytes.now c.check.ensures.valid fit in cc,
    )

pub returns-in_err-check-clause-fault : goal.returns-in_err-check-clause-fault
returns-in_err-check-clause-fault g c =
    let game = g.T.Tables.game c.args.tables.now in
    let e : Some c.in_err-check.field-0.0.at ≡ unfit game c.args.bytes.now = c.in_err-check.ensures.value
    ∙ (ap (parts_fault game) c.at-fields.ensures.value ∙ sym (unfit_parts game c.args.bytes.now c.at-fields.ensures.room c.at-fields.ensures.bytes)) in
    let p = err_from_is_err_and c.from_residual.result c.from_residual.ensures.1 in
    named game c.args.bytes.now c.from_residual.result p.0 p.1 (is_unfit game c.args.bytes.now p.0.at c.at-fields.ensures.room
    c.at-fields.ensures.bytes (sym e ∙ ap (λ (f : StateFault). Some f.at) (sym p.2)))

pub returns-clause-read : goal.returns-clause-read
returns-clause-read g c =
    let game = g.T.Tables.game c.args.tables.now in
    let none = none_from game c.at-fields.result c.args.bytes.now c.at-fields.ensures.room c.at-fields.ensures.bytes
    c.in_ok-check.ensures.value c.at-fields.ensures.value in
    is_read game c.args.bytes.now c.restore_fields.result c.check.ensures.valid c.at-fields.ensures.room c.at-fields.ensures.bytes none
    (c.restore_fields.ensures.state ∙ ap (state_in game) c.at-fields.ensures.value) c.restore_fields.ensures.machine c.restore_fields.ensures.stands

pub returns-clause-fit : goal.returns-clause-fit
returns-clause-fit g c =
    let game = g.T.Tables.game c.args.tables.now in
    let none = none_from game c.at-fields.result c.args.bytes.now c.at-fields.ensures.room c.at-fields.ensures.bytes
    c.in_ok-check.ensures.value c.at-fields.ensures.value in
    (λ ok. none_is_fit game c.args.bytes.now c.check.ensures.valid c.at-fields.ensures.room c.at-fields.ensures.bytes none, λ fit. refl)

pub returns-clause-piece : goal.returns-clause-piece
returns-clause-piece g c =
    let game = g.T.Tables.game c.args.tables.now in
    let none = none_from game c.at-fields.result c.args.bytes.now c.at-fields.ensures.room c.at-fields.ensures.bytes
    c.in_ok-check.ensures.value c.at-fields.ensures.value in
    let r = is_read game c.args.bytes.now c.restore_fields.result c.check.ensures.valid c.at-fields.ensures.room c.at-fields.ensures.bytes none
    (c.restore_fields.ensures.state ∙ ap (state_in game) c.at-fields.ensures.value) c.restore_fields.ensures.machine c.restore_fields.ensures.stands in
    piece_read (state_read c.restore_fields.result) c.args.bytes.now r.are
    (long_state game (state_read c.restore_fields.result) c.check.ensures.valid r.valid r.fits) r.fits.piece
