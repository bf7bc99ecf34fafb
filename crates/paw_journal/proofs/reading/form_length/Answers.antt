use Rattle.std.proofs.Common.{◌∙◌, ap, sym, ℕ, Some, None}
use Rattle.std.specs.List.{slice_index_or}
use Rattle.std.specs.Slice.{IsItemAt}
use Rattle.std.proofs.lemmas.List.{get_or_past}
use Rattle.paw_base.specs.declared.layout.TheConstants.{FORM_LENGTHS}
use Rattle.paw_journal.specs.Session.{first_length}
use Rattle.paw_journal.proofs.Slots.{form_few}
use Rattle.paw_journal.proofs.reading.form_length.Goals as goal

pub returns-in-None-clause-value : goal.returns-in-None-clause-value
returns-in-None-clause-value c =
    let h : IsItemAt FORM_LENGTHS c.saturating_sub.result None = c.in-None.ensures.lookup in
    sym (get_or_past FORM_LENGTHS c.saturating_sub.result first_length h.3)
    ∙ ap (λ (n : ℕ). slice_index_or FORM_LENGTHS n first_length) c.saturating_sub.ensures

pub returns-in-Some-clause-few : goal.returns-in-Some-clause-few
returns-in-Some-clause-few c =
    let h : IsItemAt FORM_LENGTHS c.saturating_sub.result (Some c.in-Some.length) = c.in-Some.ensures.lookup in
    form_few c.saturating_sub.result c.in-Some.length.now h.1 h.3.0
