use Rattle.paw_effects.specs.Story.{story_of}
use Rattle.paw_process.proofs.Readings.{parse_at}
use Rattle.paw_process.specs.inner.OpenTables.{below}
use Rattle.paw_process.proofs.step.StoryReader.parse.Goals as goal

pub returns-clause-meaning : goal.returns-clause-meaning
returns-clause-meaning g c X r =
    let found = c.take_phrase-found in
    rw (c.set_top.ensures.value, c.after_found.ensures.value)
    (parse_at (story_of (g.T.Tables.game c.args.self.now.tables.now) X) (below c.args.machine.now.frames) c.args.f found.result
    c.args.surroundings.now c.args.machine.now found.new.world found.new.pending r found.ensures.value)
