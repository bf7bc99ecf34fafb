use Rattle.std.proofs.Common.{sym, ◌∙◌}
use Rattle.paw_game.proofs.Matches.{match-is}
use Rattle.paw_image.specs.inner.Views.{game_read}
use Rattle.paw_image.proofs.MatchHere.{match_here, no_match_behind, match_has_head}
use Rattle.paw_image.proofs.Stands.{and_true}
use Rattle.paw_image.proofs.view.ViewTables.match_cursor.Goals as goal

pub returns-in_err-own_verb-clause-value : goal.returns-in_err-own_verb-clause-value
returns-in_err-own_verb-clause-value c =
    let g = game_read c.args.self.now in
    rw c.from_residual.ensures
    (sym (no_match_behind g c.args.table c.args.from c.args.verb c.args.noun (sym c.in_err-own_verb.ensures.head)))

pub returns-then-matches-2-clause-value : goal.returns-then-matches-2-clause-value
returns-then-matches-2-clause-value c =
    let g = game_read c.args.self.now in
    let own = c.in_ok-own_verb in
    let both = and_true _ _ (sym c.matches.ensures.value ∙ c.if-matches.true) (sym c.matches-then-matches.ensures.value ∙ c.if-matches-2.true) in
    rw own.ensures.entry
    (sym (match_here g c.args.table c.args.from c.args.verb c.args.noun own.own_verb own.own_noun (sym own.ensures.head) both))

pub returns-in_err-cursor-clause-value : goal.returns-in_err-cursor-clause-value
returns-in_err-cursor-clause-value c =
    absurd (match_has_head (game_read c.args.self.now) c.args.table c.args.from c.args.verb c.args.noun c.in_ok-entry.entry
    (sym c.in_ok-entry.ensures.value) (sym c.in_err-cursor.ensures.head))

pub returns-clause-reached : goal.returns-clause-reached
returns-clause-reached c =
    let g = game_read c.args.self.now in
    let found = match-is g c.args.table c.args.from c.args.verb c.args.noun c.in_ok-entry.entry (sym c.in_ok-entry.ensures.value) in
    rw c.in_ok-cursor.ensures.entry found.0
