use Rattle.std.proofs.Common.{ap, sym, ◌∙◌, arith}
use Rattle.paw_effects.specs.Story.{story_of}
use Rattle.paw_reading.specs.Run.{begins_with, with_timeout}
use Rattle.paw_process.proofs.Readings.{moved_none}
use Rattle.paw_turn.specs.declared.turn.PlayState.{PlayState}
use Rattle.paw_turn.proofs.Answering.{answered_runs, answered_stops, runs_left}
use Rattle.paw_turn.proofs.turn.TurnRules.run_answered.Goals as goal

pub returns-clause-runs : goal.returns-clause-runs
returns-clause-runs g c X answers =
    let new : PlayState = record { surroundings = c.run.new.surroundings; machine = c.run.new.self } in
    answered_runs (story_of (g.T.Tables.game c.args.self.now.tables.now) X) c.args.prompt c.args.state.now new
    c.args.line.now c.set_timeout.new.world c.answer.new.self c.begins_with.result c.run.result
    c.requires.ready.awaits c.requires.ready.valid c.requires.ready.heard
    (sym (c.begins_with.ensures.value ∙ ap (begins_with 89) c.reply.ensures.value))
    (c.set_timeout.ensures.value ∙ ap (λ b. with_timeout b c.args.state.now.surroundings.world) c.is_timeout.ensures.value)
    c.answer.ensures.quit c.answer.ensures.key (ap (λ m. m.turning) c.answer.ensures.rest)
    (moved_none _ _ _ _ _ c.answer.ensures.rest) (c.run.ensures.meaning X answers)

pub returns-clause-stops : goal.returns-clause-stops
returns-clause-stops g c =
    let new : PlayState = record { surroundings = c.run.new.surroundings; machine = c.run.new.self } in
    answered_stops (story_of (g.T.Tables.game c.args.self.now.tables.now) c.requires.answers.0) c.args.prompt c.args.state.now new
    c.args.line.now c.run.result c.requires.ready.awaits c.requires.ready.read (returns-clause-runs g c c.requires.answers.0 c.requires.answers.1)
    c.run.ensures.stopped

pub returns-clause-stays : goal.returns-clause-stays
returns-clause-stays g c =
    let new : PlayState = record { surroundings = c.run.new.surroundings; machine = c.run.new.self } in
    let same = ap (λ m. m.left) c.answer.ensures.rest in
    record {
      world = c.run.ensures.after.game;
      left = runs_left (story_of (g.T.Tables.game c.args.self.now.tables.now) c.requires.answers.0) _ c.args.state.now new
          c.run.result c.requires.ready.read (returns-clause-runs g c c.requires.answers.0 c.requires.answers.1);
      draws = omega (arith, c.run.ensures.after.draws, c.set_timeout.ensures.only.draws);
      most = c.run.ensures.after.most ∙ ap (λ m. m.steps.most) c.answer.ensures.rest;
    }
