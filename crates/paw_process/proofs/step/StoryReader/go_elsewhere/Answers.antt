use Rattle.std.proofs.Common.{refl, ◌∙◌, ◌∷◌, length}
use Rattle.paw_base.specs.declared.fault.SpentKind.TheVariants as spent
use Rattle.paw_effects.specs.Story.{story_of}
use Rattle.paw_effects.specs.declared.act.Effect.TheVariants as effect
use Rattle.paw_reading.specs.declared.halt.Halt.TheVariants as halt
use Rattle.paw_process.proofs.Readings.{acted_as, call_at, loop_at, ask_at}
use Rattle.paw_process.proofs.Steps.{acted_redescribes, acted_spent}
use Rattle.paw_process.proofs.Stops.{goes_from, stops_halted}
use Rattle.paw_process.specs.inner.Meaning.{having, run_held}
use Rattle.paw_process.specs.inner.Moves.{acted_at}
use Rattle.paw_process.specs.inner.OpenTables.{below}
use Rattle.paw_process.proofs.step.StoryReader.go_elsewhere.Goals as goal

pub returns-in-Exit-clause-meaning : goal.returns-in-Exit-clause-meaning
returns-in-Exit-clause-meaning g c X r =
    let game = story_of (g.T.Tables.game c.args.self.now.tables.now) X in
    let now = run_held (having c.args.surroundings.now c.args.machine.now) r in
    goes_from game _ _ c.leave_level.result c.leave_level.new.machine.frames
    (run_held (having (record c.args.surroundings.now { world = c.leave_level.new.world }) c.leave_level.new.machine) r)
    (acted_as game (below c.args.machine.now.frames) c.args.f c.args.effect (effect.Exit c.in-Exit.acted) now c.in-Exit.is)
    (c.leave_level.ensures.meaning X now)

pub returns-in-Redescribe-clause-meaning : goal.returns-in-Redescribe-clause-meaning
returns-in-Redescribe-clause-meaning g c X r =
    let game = story_of (g.T.Tables.game c.args.self.now.tables.now) X in
    let now = run_held (having c.args.surroundings.now c.args.machine.now) r in
    rw (c.stop.ensures.value, c.stop.ensures.closed)
    (acted_as game (below c.args.machine.now.frames) c.args.f c.args.effect effect.Redescribe now c.in-Redescribe.is
    ∙ acted_redescribes game (below c.args.machine.now.frames) c.args.f now)

pub returns-in-Call-clause-meaning : goal.returns-in-Call-clause-meaning
returns-in-Call-clause-meaning g c X r =
    let game = story_of (g.T.Tables.game c.args.self.now.tables.now) X in
    let fs = below c.args.machine.now.frames in
    let now = run_held (having c.args.surroundings.now c.args.machine.now) r in
    goes_from game _ _ c.call.result c.call.new.self.frames (run_held (having c.args.surroundings.now c.call.new.self) r)
    (acted_as game fs c.args.f c.args.effect (effect.Call c.in-Call.table) now c.in-Call.is
    ∙ call_at game (c.args.f ∷ fs) c.args.f c.in-Call.table now refl)
    (rw c.set_top.ensures.value at (c.call.ensures.meaning game now))

pub returns-in-Loop-clause-meaning : goal.returns-in-Loop-clause-meaning
returns-in-Loop-clause-meaning g c X r =
    let game = story_of (g.T.Tables.game c.args.self.now.tables.now) X in
    let fs = below c.args.machine.now.frames in
    let now = run_held (having c.args.surroundings.now c.args.machine.now) r in
    goes_from game _ _ c.next_object.result c.next_object.new.machine.frames
    (run_held (having (record c.args.surroundings.now { world = c.next_object.new.world }) c.next_object.new.machine) r)
    (acted_as game fs c.args.f c.args.effect (effect.Loop c.in-Loop.place) now c.in-Loop.is
    ∙ loop_at game fs c.args.f c.in-Loop.place now c.loop_at-l.result (length c.args.surroundings.now.world.places)
    c.loop_at-l.ensures.value c.requires.ready.game.places)
    (c.next_object.ensures.meaning X now)

pub returns-in-Ask-clause-meaning : goal.returns-in-Ask-clause-meaning
returns-in-Ask-clause-meaning g c X r =
    let game = story_of (g.T.Tables.game c.args.self.now.tables.now) X in
    let fs = below c.args.machine.now.frames in
    let now = run_held (having c.args.surroundings.now c.args.machine.now) r in
    rw (c.set_waiting.ensures.value, c.set_top-in-Ask.ensures.value)
    (acted_as game fs c.args.f c.args.effect (effect.Ask c.in-Ask.prompt) now c.in-Ask.is
    ∙ ask_at game (c.args.f ∷ fs) fs c.args.f c.in-Ask.prompt now refl)

pub returns-in-Spent-clause-meaning : goal.returns-in-Spent-clause-meaning
returns-in-Spent-clause-meaning g c X r =
    let game = story_of (g.T.Tables.game c.args.self.now.tables.now) X in
    let fs = below c.args.machine.now.frames in
    let now = run_held (having c.args.surroundings.now c.args.machine.now) r in
    let stop = c.stop-in-Spent in
    stops_halted game (acted_at game fs c.args.f c.args.effect now) stop.result (halt.Spent spent.Text) stop.new.self.frames
    (run_held (having c.args.surroundings.now stop.new.self) r) now refl stop.ensures.value
    (acted_as game fs c.args.f c.args.effect effect.Spent now c.in-Spent.is ∙ acted_spent game fs c.args.f now)
    (record { pieces = refl; traces = refl; events = refl })
