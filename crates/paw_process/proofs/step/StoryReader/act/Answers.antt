use Rattle.paw_effects.specs.Story.{story_of}
use Rattle.paw_process.specs.declared.surroundings.Surroundings.{Surroundings}
use Rattle.paw_process.specs.inner.AfterCondact.{moved_on, stop_after_condact}
use Rattle.paw_process.proofs.AfterCondacts.{moved_on_none}
use Rattle.paw_process.proofs.Readings.{act_on}
use Rattle.paw_process.proofs.step.StoryReader.act.Goals as goal

pub returns-clause-meaning : goal.returns-clause-meaning
returns-clause-meaning g c X answers =
    let noted = c.note.new.self in
    let follow = c.follow in
    let done : Surroundings = record { world = c.act-done.new.world; pending = c.drop_line.new.pending; piece = c.act-done.new.piece } in
    act_on (story_of (g.T.Tables.game c.args.self.now.tables.now) X) c.args.machine.now noted c.args.f c.args.c c.args.surroundings.now noted.left noted.steps
    done follow.new.surroundings c.cancel_loop.new.self (moved_on c.args.f follow.result follow.new.machine) c.act-done.result
    (stop_after_condact follow.result)
    c.requires.kind (c.act-done.ensures.does X answers) c.drop_line.ensures.value c.note.ensures.reads c.note.ensures.same
    c.cancel_loop.ensures.value (moved_on_none c.args.f follow.result c.cancel_loop.new.self follow.new.machine follow.ensures.after.left)
    (λ r. follow.ensures.meaning X r) follow.ensures.spent
