use Rattle.paw_effects.specs.Story.{story_of}
use Rattle.paw_turn.proofs.Prompts.{prompt_unsaid}
use Rattle.paw_turn.proofs.turn.PlayState.prompt.Goals as goal

pub returns-else-show_prompt-clause-meaning : goal.returns-else-show_prompt-clause-meaning
returns-else-show_prompt-clause-meaning g c X =
    rw c.halt_next.ensures.value
    (prompt_unsaid (story_of (g.T.Tables.game c.args.tables.now) X) c.args.self.now c.show_prompt.new.self c.if-show_prompt.ensures.puts)
