use Rattle.paw_effects.specs.Story.{story_of}
use Rattle.paw_turn.proofs.Describing.{described_reads, described_not}
use Rattle.paw_turn.proofs.turn.TurnRules.describe.Goals as goal

pub returns-then-show_view-clause-meaning : goal.returns-then-show_view-clause-meaning
returns-then-show_view-clause-meaning g c X answers =
    let p = c.if-show_view.ensures.puts in
    described_reads (story_of (g.T.Tables.game c.args.self.now.tables.now) X) c.args.state.now c.show_view.new.self c.read_table.new.state c.read_table.result
    c.describe.new.world c.describe.ensures.value p.1 (cc (p.0)) (c.read_table.ensures.meaning X answers)

pub returns-else-show_view-clause-meaning : goal.returns-else-show_view-clause-meaning
returns-else-show_view-clause-meaning g c X answers =
    rw c.halt_next.ensures.value
    (described_not (story_of (g.T.Tables.game c.args.self.now.tables.now) X) c.args.state.now c.show_view.new.self
    c.describe.new.world c.describe.ensures.value c.if-show_view.ensures.puts (cc))
