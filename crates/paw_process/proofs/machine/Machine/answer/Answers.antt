use Rattle.std.proofs.Common.{◌∙◌, ap, ◌∷◌}
use Rattle.paw_process.proofs.Hearing.{answers_quit, answers_key}
use Rattle.paw_process.specs.inner.OpenTables.{below}
use Rattle.paw_process.proofs.machine.Machine.answer.Goals as goal

pub returns-clause-quit : goal.returns-clause-quit
returns-clause-quit c waits =
    let taken = c.take_waiting-waiting.ensures.rest in
    answers_quit c.args.yes c.args.self.now.frames c.set_top.new.self.frames c.top-f.result (rw taken at c.top-f.ensures.value)
    ((rw taken at (ap (λ m. m.frames) c.set_top.ensures.value)) ∙ ap (λ f. f ∷ below c.args.self.now.frames)
    (c.frame_after_answer.ensures.quit (c.take_waiting-waiting.ensures.was ∙ waits)))

pub returns-clause-key : goal.returns-clause-key
returns-clause-key c waits =
    let taken = c.take_waiting-waiting.ensures.rest in
    answers_key c.args.self.now.frames c.set_top.new.self.frames c.top-f.result (rw taken at c.top-f.ensures.value)
    ((rw taken at (ap (λ m. m.frames) c.set_top.ensures.value)) ∙ ap (λ f. f ∷ below c.args.self.now.frames)
    (c.frame_after_answer.ensures.key (c.take_waiting-waiting.ensures.was ∙ waits)))
