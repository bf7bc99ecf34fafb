use Rattle.paw_effects.specs.Story.{story_of}
use Rattle.paw_turn.proofs.Answering.{answer_plays}
use Rattle.paw_turn.proofs.turn.TurnRules.hear_answer.Goals as goal

pub returns-clause-meaning : goal.returns-clause-meaning
returns-clause-meaning g c X answers =
    let t = c.run_answered-turned in
    let a = c.after_table in
    answer_plays (story_of (g.T.Tables.game c.args.self.now.tables.now) X)
    c.args.prompt c.first_table-table.result c.args.state.now t.new.state a.new.self c.args.line.now t.result a.result
    c.requires.ready.awaits c.first_table-table.ensures.value (t.ensures.runs X answers) (a.ensures.meaning X) a.ensures.left
