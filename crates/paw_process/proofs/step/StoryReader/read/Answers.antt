use Rattle.std.proofs.Common.{arith, []}
use Rattle.std.proofs.lemmas.Bool.Decides.{nat_tests}
use Rattle.paw_effects.specs.Story.{story_of}
use Rattle.paw_process.proofs.Readings.{moved_none, reads_one, reads_spent}
use Rattle.paw_process.specs.inner.Meaning.{having}
use Rattle.paw_process.specs.inner.AfterCondact.{moved_on, stop_after_condact}
use Rattle.paw_process.specs.inner.OpenTables.{below}
use Rattle.paw_process.proofs.step.StoryReader.read.Goals as goal

pub returns-then-not-may_read-clause-meaning : goal.returns-then-not-may_read-clause-meaning
returns-then-not-may_read-clause-meaning g c X answers =
    reads_spent (story_of (g.T.Tables.game c.args.self.now.tables.now) X) (below c.args.machine.now.frames) c.args.f c.args.c
    (having c.args.surroundings.now c.args.machine.now) c.stop.result (having c.args.surroundings.now c.stop.new.self) c.requires.found
    (grind (arith, nat_tests)) (moved_none _ _ _ _ _ c.stop.ensures.closed) c.stop.ensures.value

pub returns-then-is_condition-clause-meaning : goal.returns-then-is_condition-clause-meaning
returns-then-is_condition-clause-meaning g c X answers =
    let f = c.args.f in
    reads_one (story_of (g.T.Tables.game c.args.self.now.tables.now) X) f c.args.c (having c.args.surroundings.now c.args.machine.now)
    (stop_after_condact c.test.result) (having c.test.new.surroundings (moved_on f c.test.result c.test.new.machine))
    c.requires.found (grind (arith, nat_tests))
    (c.test.ensures.meaning X)

pub returns-else-is_condition-clause-meaning : goal.returns-else-is_condition-clause-meaning
returns-else-is_condition-clause-meaning g c X answers =
    let f = c.args.f in
    reads_one (story_of (g.T.Tables.game c.args.self.now.tables.now) X) f c.args.c (having c.args.surroundings.now c.args.machine.now)
    (stop_after_condact c.act.result) (having c.act.new.surroundings (moved_on f c.act.result c.act.new.machine)) c.requires.found (grind (arith, nat_tests))
    (c.act.ensures.meaning X answers)

pub returns-then-is_condition-clause-counts : goal.returns-then-is_condition-clause-counts
returns-then-is_condition-clause-counts g c none = (c.test.ensures.meaning []).1.left

pub returns-else-is_condition-clause-counts : goal.returns-else-is_condition-clause-counts
returns-else-is_condition-clause-counts g c none = let (X, answers) = c.requires.may.answers in (c.act.ensures.meaning X answers).1.left
