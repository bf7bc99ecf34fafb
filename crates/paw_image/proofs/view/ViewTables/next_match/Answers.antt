use Rattle.std.proofs.Common.{sym}
use Rattle.paw_game.proofs.Matches.{match-matches}
use Rattle.paw_image.specs.inner.Views.{game_read}
use Rattle.paw_image.proofs.view.ViewTables.next_match.Goals as goal

pub returns-clause-matching : goal.returns-clause-matching
returns-clause-matching c =
    match-matches (game_read c.args.self.now) c.args.table c.args.from c.args.verb c.args.noun c.in_ok-cursor.cursor.entry
    (sym c.in_ok-cursor.ensures.value)
