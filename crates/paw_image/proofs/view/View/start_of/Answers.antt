use Rattle.std.proofs.Common.{[], ℕ, Option, sym, ap, ◌∙◌}
use Rattle.std.specs.Prelude.{slice_get}
use Rattle.std.specs.Option.{option_map, unwrap_or}
use Rattle.std.proofs.lemmas.Option.{none-some}
use Rattle.paw_game.specs.declared.parts.Entry.{Entry}
use Rattle.paw_game.proofs.ValidGames.{head-small}
use Rattle.paw_image.specs.inner.Offsets.{entries_of, TableOffsets}
use Rattle.paw_image.specs.inner.Views.{game_read}
use Rattle.paw_image.proofs.CursorLaws.{left_whole}
use Rattle.paw_image.proofs.HereLaws.{stands_at_first}
use Rattle.paw_image.proofs.ViewLaws.{condact_read, counts_read, head_read, no_entry_read}
use Rattle.paw_image.proofs.view.View.start_of.Goals as goal

abbrev words_of : Option ((ℕ × ℕ) × ℕ) → Option (ℕ × ℕ)
words_of found = option_map {U = ℕ × ℕ} (λ (x : (ℕ × ℕ) × ℕ). x.0) found

pub returns-in_err-offset-clause-head : goal.returns-in_err-offset-clause-head
returns-in_err-offset-clause-head c =
    let none = ap (λ (ps : TableOffsets). slice_get (unwrap_or (slice_get ps c.args.table) []) c.args.entry)
    (sym (ap entries_of c.deref.ensures.value ∙ c.self.invariant.tables)) ∙ sym c.in_err-offset.ensures.value in
    let is = ap (option_map {U = ℕ × ℕ} (λ (en : Entry). (en.verb, en.noun))) (no_entry_read c.self.inside.bytes.now c.args.table c.args.entry none) in
    rw c.from_residual.ensures (sym (rw c.self.view_is at is))

pub head_in-left-requires : goal.head_in-left-requires
head_in-left-requires c =
    let bytes = c.self.inside.bytes.now in
    let at = ap (λ (ps : TableOffsets). slice_get (unwrap_or (slice_get ps c.args.table) []) c.args.entry)
    (sym (ap entries_of c.deref.ensures.value ∙ c.self.invariant.tables)) ∙ sym c.in_ok-offset.ensures.value in
    let counts = counts_read bytes c.self.invariant.image c.args.table c.args.entry c.in_ok-offset.offset at in
    record { there = λ none. none-some _ (sym none ∙ counts.1) }

pub returns-clause-head : goal.returns-clause-head
returns-clause-head c =
    let bytes = c.self.inside.bytes.now in
    let at = ap (λ (ps : TableOffsets). slice_get (unwrap_or (slice_get ps c.args.table) []) c.args.entry)
    (sym (ap entries_of c.deref.ensures.value ∙ c.self.invariant.tables)) ∙ sym c.in_ok-offset.ensures.value in
    rw c.self.view_is at (ap words_of (sym c.head_in-left.ensures.value)
    ∙ head_read bytes c.self.invariant.image c.args.table c.args.entry c.in_ok-offset.offset at)

pub returns-clause-stands : goal.returns-clause-stands
returns-clause-stands c =
    let bytes = c.self.inside.bytes.now in
    let at = ap (λ (ps : TableOffsets). slice_get (unwrap_or (slice_get ps c.args.table) []) c.args.entry)
    (sym (ap entries_of c.deref.ensures.value ∙ c.self.invariant.tables)) ∙ sym c.in_ok-offset.ensures.value in
    let there = λ (k : ℕ). condact_read bytes c.self.invariant.image c.args.table c.args.entry c.in_ok-offset.offset k at in
    let counts = counts_read bytes c.self.invariant.image c.args.table c.args.entry c.in_ok-offset.offset at in
    let head = c.head_in-left.ensures.value in
    record {
      condacts = rw c.self.view_is at (stands_at_first bytes c.args.table c.args.entry c.in_ok-offset.offset _ c.head_in-left.result.1 there head);
      there = rw c.self.view_is at (left_whole bytes c.args.table c.args.entry c.in_ok-offset.offset _ c.head_in-left.result.1 counts head);
    }

pub returns-clause-small : goal.returns-clause-small
returns-clause-small c =
    let bytes = c.self.inside.bytes.now in
    let at = ap (λ (ps : TableOffsets). slice_get (unwrap_or (slice_get ps c.args.table) []) c.args.entry)
    (sym (ap entries_of c.deref.ensures.value ∙ c.self.invariant.tables)) ∙ sym c.in_ok-offset.ensures.value in
    let head = ap words_of (sym c.head_in-left.ensures.value)
    ∙ head_read bytes c.self.invariant.image c.args.table c.args.entry c.in_ok-offset.offset at in
    head-small (game_read bytes) c.self.invariant.image.valid c.args.table c.args.entry _ (sym head)
