use Rattle.std.proofs.Common.{refl, sym, subst, ◌∷◌, Some, None, arith}
use Rattle.paw_effects.specs.Story.{story_of}
use Rattle.paw_process.proofs.AfterCondacts.{at_frame_same, stepped_at_frame}
use Rattle.paw_process.proofs.Readings.{reads_moved}
use Rattle.paw_process.proofs.Runs.{running_starts, running_on, running_ends}
use Rattle.paw_process.proofs.Works.{progresses}
use Rattle.paw_process.specs.inner.Meaning.{having, going_in}
use Rattle.paw_process.specs.inner.AfterCondact.{with_frame}
use Rattle.paw_process.specs.inner.OpenTables.{OpenTables}
use Rattle.paw_process.specs.inner.OpenTables.{below}
use Rattle.paw_process.specs.inner.Running.{IsRunning}
use Rattle.paw_process.proofs.machine.Machine.run.Goals as goal

pub loop-turned-init : goal.loop-turned-init
loop-turned-init g c =
    let game = g.T.Tables.game c.args.tables.now in
    let first = having c.args.surroundings.now c.args.self.now in
    record {
      running = subst (λ (m : OpenTables). IsRunning g.F.Fn c.args.routines.now game first (having c.args.surroundings.now m))
          (sym (at_frame_same c.args.self.now c.top-f.result c.top-f.ensures.value))
          (running_starts g.F.Fn c.args.routines.now game first c.requires.ready);
      held = c.requires.ready.reading;
    }

pub read_on-requires-clause-may : goal.read_on-requires-clause-may
read_on-requires-clause-may g c = record {
  ready = record { reading = c.loop-turned.invariant.held; game = c.loop-turned.invariant.running.after.game };
  answers = c.requires.answers;
  draws = omega (arith, c.loop-turned.invariant.running.after.draws, c.requires.draws);
}

pub read_on-requires-clause-entry : goal.read_on-requires-clause-entry
read_on-requires-clause-entry g c = c.loop-turned.invariant.running.reading.tables.top

pub loop-turned-smaller : goal.loop-turned-smaller
loop-turned-smaller g c =
    let now = having c.loop-turned.surroundings c.loop-turned.self in
    let new = having c.read_on.new.surroundings c.read_on.new.machine in
    let stepped = stepped_at_frame (g.T.Tables.game c.args.tables.now) now new c.read_on.new.f c.in-None.ensures.after c.in-None.ensures.in_table in
    progresses (with_frame c.loop-turned.f c.loop-turned.self) (with_frame c.read_on.new.f c.read_on.new.machine) stepped.stands
    (c.in-None.ensures.progress refl)

pub loop-turned-preserved : goal.loop-turned-preserved
loop-turned-preserved g c =
    let game = g.T.Tables.game c.args.tables.now in
    let first = having c.args.surroundings.now c.args.self.now in
    let f = c.loop-turned.f in
    let raw = having c.loop-turned.surroundings c.loop-turned.self in
    let now = having c.loop-turned.surroundings (with_frame f c.loop-turned.self) in
    let new = having c.read_on.new.surroundings (with_frame c.read_on.new.f c.read_on.new.machine) in
    let stepped = stepped_at_frame game raw (having c.read_on.new.surroundings c.read_on.new.machine) c.read_on.new.f c.in-None.ensures.after
    c.in-None.ensures.in_table in
    record {
      running = running_on g.F.Fn c.args.routines.now game first now new c.loop-turned.invariant.running
          (λ X answers.
          reads_moved (story_of game X) (going_in (story_of game X) (f ∷ below c.loop-turned.self.frames)) now c.loop-turned.self.frames None new
          (c.in-None.ensures.meaning X answers))
          stepped.stands (record { game = stepped.step.game; draws = stepped.step.draws; most = stepped.step.most });
      held = c.in-None.ensures.after.stands;
    }

pub returns-in-Some-clause-meaning : goal.returns-in-Some-clause-meaning
returns-in-Some-clause-meaning g c X answers =
    let game = g.T.Tables.game c.args.tables.now in
    let f = c.loop-turned.f in
    let now = having c.loop-turned.surroundings (with_frame f c.loop-turned.self) in
    let new = having c.read_on.new.surroundings c.read_on.new.machine in
    running_ends g.F.Fn c.args.routines.now game (having c.args.surroundings.now c.args.self.now) now c.in-Some.turned new
    c.loop-turned.invariant.running X answers
    (reads_moved (story_of game X) (going_in (story_of game X) (f ∷ below c.loop-turned.self.frames)) now c.loop-turned.self.frames
    (Some c.in-Some.turned) new (c.in-Some.ensures.meaning X answers))
