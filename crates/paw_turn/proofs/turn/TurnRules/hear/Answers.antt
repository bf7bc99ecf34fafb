use Rattle.std.proofs.Common.{sym}
use Rattle.paw_effects.specs.Story.{story_of}
use Rattle.paw_turn.proofs.Answering.{ignored_plays}
use Rattle.paw_turn.proofs.turn.TurnRules.hear.Goals as goal

pub returns-then-is_ignored-clause-meaning : goal.returns-then-is_ignored-clause-meaning
returns-then-is_ignored-clause-meaning g c X answers =
    ignored_plays (story_of (g.T.Tables.game c.args.self.now.tables.now) X) c.args.prompt c.args.state.now c.args.line.now c.requires.ready.stands
    (sym c.if-is_ignored.ensures.value)

pub returns-in-Main-clause-meaning : goal.returns-in-Main-clause-meaning
returns-in-Main-clause-meaning g c X answers = rw c.in-Main.is (c.hear_line.ensures.meaning X)

pub returns-in-Again-clause-meaning : goal.returns-in-Again-clause-meaning
returns-in-Again-clause-meaning g c X answers = rw c.in-Again.is (c.hear_again.ensures.meaning X)
