use Rattle.paw_effects.specs.Story.{story_of}
use Rattle.std.proofs.Common.{suc}
use Rattle.paw_reading.specs.Turn.{AtPhrase, turn}
use Rattle.paw_turn.proofs.Reading.{time_frame_reads, response_reads, moves_read}
use Rattle.paw_turn.proofs.turn.TurnRules.phase.Goals as goal

pub returns-in-TimeFrame-clause-meaning : goal.returns-in-TimeFrame-clause-meaning
returns-in-TimeFrame-clause-meaning g c X answers =
    rw c.in-TimeFrame.is (time_frame_reads (story_of (g.T.Tables.game c.args.self.now.tables.now) X) c.args.state.now c.read_table.new.state c.read_table.result
    (c.read_table.ensures.meaning X answers))

pub returns-in-Response-clause-meaning : goal.returns-in-Response-clause-meaning
returns-in-Response-clause-meaning g c X answers =
    let r = c.read_table-in-Response in
    let own = story_of (g.T.Tables.game c.args.self.now.tables.now) X in
    rw c.in-Response.is (response_reads own c.args.state.now r.new.state r.result (r.ensures.meaning X answers))

pub returns-in-Describe-clause-meaning : goal.returns-in-Describe-clause-meaning
returns-in-Describe-clause-meaning g c X answers = rw c.in-Describe.is (c.describe.ensures.meaning X answers)

pub returns-in-Phrase-clause-meaning : goal.returns-in-Phrase-clause-meaning
returns-in-Phrase-clause-meaning g c X answers =
    let own = story_of (g.T.Tables.game c.args.self.now.tables.now) X in
    rw c.in-Phrase.is
    (moves_read own (λ n r. turn own (suc n) AtPhrase r)
    c.args.state.now c.phrase.new.self c.phrase.result
    (c.phrase.ensures.meaning X) c.phrase.ensures.machine)
