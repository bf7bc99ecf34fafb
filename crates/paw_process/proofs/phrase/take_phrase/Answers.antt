use Rattle.std.proofs.Common.{eqb-true, refl, sym, ◌∙◌}
use Rattle.std.proofs.lemmas.List.{nil_from_length}
use Rattle.paw_phrase.proofs.Phrases.{no_phrase}
use Rattle.paw_process.proofs.phrase.take_phrase.Goals as goal

pub returns-then-is_empty-clause-value : goal.returns-then-is_empty-clause-value
returns-then-is_empty-clause-value g c =
    let none = nil_from_length c.bytes.result.now (eqb-true _ 0 (sym c.is_empty.ensures ∙ c.if-is_empty.true)) in
    (no_phrase (g.T.Tables.game c.args.tables.now) c.args.pending.now.bytes _ _ _ (sym c.bytes.ensures.value ∙ none), refl, refl)
