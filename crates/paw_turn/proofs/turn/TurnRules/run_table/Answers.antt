use Rattle.std.proofs.Common.{ap, ◌∙◌, arith}
use Rattle.paw_effects.specs.Story.{story_of}
use Rattle.paw_turn.specs.declared.turn.PlayState.{PlayState}
use Rattle.paw_turn.proofs.Reading.{begun_runs}
use Rattle.paw_turn.proofs.Falling.{uses}
use Rattle.paw_turn.proofs.Waiting.{table_stops}
use Rattle.paw_turn.proofs.turn.TurnRules.run_table.Goals as goal

pub returns-clause-runs : goal.returns-clause-runs
returns-clause-runs g c X answers =
    let new : PlayState = record { surroundings = c.run.new.surroundings; machine = c.run.new.self } in
    begun_runs (story_of (g.T.Tables.game c.args.self.now.tables.now) X) c.args.table c.args.state.now new
    c.begin.new.self c.run.result c.begin.ensures.value (c.run.ensures.meaning X answers)

pub returns-clause-uses : goal.returns-clause-uses
returns-clause-uses g c =
    let new : PlayState = record { surroundings = c.run.new.surroundings; machine = c.run.new.self } in
    uses (story_of (g.T.Tables.game c.args.self.now.tables.now) c.requires.may.answers.0) c.args.table c.args.state.now new
    c.run.result c.requires.may.read (returns-clause-runs g c c.requires.may.answers.0 c.requires.may.answers.1)

pub returns-clause-stops : goal.returns-clause-stops
returns-clause-stops g c =
    let new : PlayState = record { surroundings = c.run.new.surroundings; machine = c.run.new.self } in
    table_stops (story_of (g.T.Tables.game c.args.self.now.tables.now) c.requires.may.answers.0) c.args.table c.args.state.now new
    c.run.result c.requires.may.read c.requires.may.ready.closed
    (returns-clause-runs g c c.requires.may.answers.0 c.requires.may.answers.1) c.run.ensures.stopped

pub returns-clause-stays : goal.returns-clause-stays
returns-clause-stays g c =
    let same = ap (λ m. m.left) c.begin.ensures.value in
    record {
      world = c.run.ensures.after.game;
      left = (returns-clause-uses g c).left;
      draws = omega (arith, c.run.ensures.after.draws);
      most = c.run.ensures.after.most ∙ ap (λ m. m.steps.most) c.begin.ensures.value;
    }
