use Rattle.std.proofs.Common.{refl, ◌+◌}
use Rattle.paw_effects.specs.Story.{story_of}
use Rattle.paw_process.specs.inner.AfterCondact.{with_frame}
use Rattle.paw_process.proofs.Readings.{test_yes, test_no, test_ask}
use Rattle.paw_process.proofs.step.StoryReader.test.Goals as goal

pub returns-in-Yes-clause-meaning : goal.returns-in-Yes-clause-meaning
returns-in-Yes-clause-meaning g c X =
    let noted = c.note.new.self in
    let next = with_frame (record c.args.f { at = c.args.f.at + 1 }) noted in
    test_yes (story_of (g.T.Tables.game c.args.self.now.tables.now) X) c.args.machine.now noted c.args.f c.args.c c.args.surroundings.now noted.left noted.steps
    c.test.new.world next c.requires.kind c.in-Yes.ensures.answer c.in-Yes.ensures.world c.note.ensures.reads c.note.ensures.same refl

pub returns-in-No-clause-meaning : goal.returns-in-No-clause-meaning
returns-in-No-clause-meaning g c X =
    let noted = c.note-in-No.new.self in
    let next = with_frame (record c.args.f { entry = c.args.f.entry + 1; at = 0 }) noted in
    test_no (story_of (g.T.Tables.game c.args.self.now.tables.now) X) c.args.machine.now noted c.args.f c.args.c c.args.surroundings.now noted.left noted.steps
    c.test.new.world next c.requires.kind c.in-No.ensures.answer c.in-No.ensures.world c.note-in-No.ensures.reads c.note-in-No.ensures.same refl

pub returns-in-Ask-clause-meaning : goal.returns-in-Ask-clause-meaning
returns-in-Ask-clause-meaning g c X =
    let noted = c.note-in-Ask.new.self in
    let top = c.set_top.ensures.value in
    let none = rw top at c.ask.ensures.after.left in
    test_ask (story_of (g.T.Tables.game c.args.self.now.tables.now) X) c.args.machine.now noted c.args.f c.args.c c.args.surroundings.now noted.left noted.steps
    c.test.new.world c.ask.new.machine c.ask.new.surroundings c.ask.result c.requires.kind c.in-Ask.ensures.answer c.in-Ask.ensures.world
    c.note-in-Ask.ensures.reads c.note-in-Ask.ensures.same (record { left = none.left; steps = none.steps })
    (λ r. rw top at (c.ask.ensures.meaning X c.args.f r (rw top refl)))
