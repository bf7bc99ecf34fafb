use Rattle.std.proofs.Common.{sym}
use Rattle.paw_effects.specs.Story.{story_of}
use Rattle.paw_turn.proofs.Hearing.{timeout_heard, line_heard}
use Rattle.paw_turn.specs.inner.Phases.{with_world_and_line}
use Rattle.paw_turn.proofs.turn.PlayState.hear_line.Goals as goal

pub returns-then-is_timeout-clause-meaning : goal.returns-then-is_timeout-clause-meaning
returns-then-is_timeout-clause-meaning g c X =
    timeout_heard (story_of (g.T.Tables.game c.args.tables.now) X)
    c.args.self.now c.say.new.self c.args.line.now c.set_timeout.new.world c.say.result c.requires.heard
    (sym c.if-is_timeout.ensures.value) c.set_timeout.ensures.value (c.say.ensures.meaning X) (cc)

pub returns-else-is_timeout-clause-meaning : goal.returns-else-is_timeout-clause-meaning
returns-else-is_timeout-clause-meaning g c X =
    line_heard (story_of (g.T.Tables.game c.args.tables.now) X) c.args.self.now
    (with_world_and_line c.set_timeout-else-is_timeout.new.world c.set.new.self c.args.self.now) c.args.line.now c.requires.heard
    (sym c.if-is_timeout.ensures.value) (cc)
