use Rattle.paw_effects.specs.Story.{story_of}
use Rattle.paw_turn.proofs.Reading.{read_on}
use Rattle.paw_turn.proofs.Falling.{table_falls}
use Rattle.paw_turn.proofs.turn.TurnRules.read_table.Goals as goal

pub returns-clause-meaning : goal.returns-clause-meaning
returns-clause-meaning g c X answers =
    let a = c.after_table in
    read_on (story_of (g.T.Tables.game c.args.self.now.tables.now) X)
    c.args.table c.args.state.now c.run_table-turned.new.state a.new.self c.run_table-turned.result a.result
    (c.run_table-turned.ensures.runs X answers) (a.ensures.meaning X) a.ensures.left

pub returns-clause-falls : goal.returns-clause-falls
returns-clause-falls g c =
    let a = c.after_table in
    table_falls c.args.table c.run_table-turned.result c.args.state.now c.run_table-turned.new.state a.new.self a.result
    c.run_table-turned.ensures.uses a.ensures.falls
