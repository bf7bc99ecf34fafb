use Rattle.std.proofs.Common.{refl}
use Rattle.paw_base.specs.declared.messages.TheConstants.{QUIT_MESSAGE}
use Rattle.paw_effects.specs.declared.act.Prompt.TheVariants as prompt
use Rattle.paw_effects.specs.Story.{story_of}
use Rattle.paw_effects.specs.Texts.{put_text}
use Rattle.paw_reading.specs.Reading.{waits}
use Rattle.paw_process.proofs.Stops.{ask_stops, ask_waits}
use Rattle.paw_process.specs.inner.Meaning.{having, run_held}
use Rattle.paw_process.specs.inner.Moves.{past_of}
use Rattle.paw_process.specs.inner.OpenTables.{below}
use Rattle.paw_process.proofs.step.StoryReader.ask.Goals as goal

pub returns-then-not-put-clause-meaning : goal.returns-then-not-put-clause-meaning
returns-then-not-put-clause-meaning g c X f r top =
    let lists = g.T.Tables.game c.args.self.now.tables.now in
    let game = story_of lists X in
    let fs = below c.args.machine.now.frames in
    ask_stops game fs (put_text lists c.args.surroundings.now.world QUIT_MESSAGE)
    (waits game prompt.Quit f (past_of game fs f))
    (run_held (having c.args.surroundings.now c.args.machine.now) r) c.stop.result c.stop.new.self.frames
    (run_held (having (record c.args.surroundings.now { piece = c.put.new.piece }) c.stop.new.self) r) c.stop.ensures.value c.if-not-put.ensures.puts
    (record { pieces = refl; traces = refl; events = refl })

pub returns-clause-meaning : goal.returns-clause-meaning
returns-clause-meaning g c X f r top =
    let lists = g.T.Tables.game c.args.self.now.tables.now in
    let game = story_of lists X in
    let puts = c.if-not-put.ensures.puts in
    rw c.set_waiting.ensures.value
    (ask_waits game (below c.args.machine.now.frames) c.args.machine.now.frames f prompt.Quit
    (put_text lists c.args.surroundings.now.world QUIT_MESSAGE)
    c.put.new.piece (run_held (having c.args.surroundings.now c.args.machine.now) r) top puts.1 puts.0)
