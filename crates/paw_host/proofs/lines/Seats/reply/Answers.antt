use Rattle.paw_host.proofs.Cited.{Passes_none, story_of}
use Rattle.paw_host.proofs.Serving.{nothing_done}
use Rattle.paw_host.proofs.lines.Seats.reply.Goals as goal

pub returns-in-None-clause-promises : goal.returns-in-None-clause-promises
returns-in-None-clause-promises g c = λ tells X answers. rw c.in-None.ensures.value (λ sessions may stores. record {
  meaning = (c.refuse_line.ensures.value, nothing_done (story_of c.args.self.now.player.game X) sessions _ stores);
  any_moment = Passes_none _ _ _;
})

pub returns-in-Some-clause-promises : goal.returns-in-Some-clause-promises
returns-in-Some-clause-promises g c = λ tells X answers. rw c.in-Some.ensures.value (c.answer.ensures.promises tells X answers)
