use Rattle.std.proofs.Common.{◌∙◌}
use Rattle.paw_effects.specs.Story.{story_of}
use Rattle.paw_effects.specs.declared.act.Effect.TheVariants as effect
use Rattle.paw_process.proofs.Readings.{acted_as}
use Rattle.paw_process.proofs.Steps.{acted_go}
use Rattle.paw_process.specs.inner.Meaning.{having, run_held}
use Rattle.paw_process.specs.inner.OpenTables.{below}
use Rattle.paw_process.proofs.step.StoryReader.follow.Goals as goal

pub returns-in-Go-clause-meaning : goal.returns-in-Go-clause-meaning
returns-in-Go-clause-meaning g c X r =
    let game = story_of (g.T.Tables.game c.args.self.now.tables.now) X in
    let fs = below c.args.machine.now.frames in
    let now = run_held (having c.args.surroundings.now c.args.machine.now) r in
    acted_as game fs c.args.f c.args.effect effect.Go now c.in-Go.is ∙ acted_go game fs c.args.f now

pub returns-in_default-clause-meaning : goal.returns-in_default-clause-meaning
returns-in_default-clause-meaning g c X r = c.go_elsewhere.ensures.meaning X r
