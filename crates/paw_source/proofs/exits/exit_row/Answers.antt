use Rattle.std.proofs.Common.{◌≡◌, true, eqb, refl, sym, ap, ◌∙◌}
use Rattle.std.specs.List.{list_any}
use Rattle.paw_game.specs.declared.parts.Exit.{Exit}
use Rattle.paw_grammar.specs.GrammarRows.{exit_row}
use Rattle.paw_source.proofs.exits.exit_row.Goals as goal

pub returns-then-has_exit : goal.returns-then-has_exit
unfolding exit_row
returns-then-has_exit c =
    let rows = c.deref.ensures.value ∙ c.exits.view_is in
    let has : list_any (λ (x : Exit). eqb x.verb c.in_ok-verb.verb) c.args.exits.now ≡ true =
    ap (list_any (λ (x : Exit). eqb x.verb c.in_ok-verb.verb)) (sym rows) ∙ sym c.has_exit.ensures.value ∙ c.if-has_exit.true in
    record {
      gives = rw (c.in_ok-verb.ensures.gives, c.in_ok-to.ensures.gives, c.in_ok-end_line.ensures.gives, has) refl;
    }
