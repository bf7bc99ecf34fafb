-- The condacts at which a run may wait.
use Rattle.std.specs.Prelude.{ℕ, Option, Some, None}
use Rattle.paw_base.specs.declared.codes.TheConstants.{QUIT, END, ANYKEY}
use Rattle.paw_effects.specs.declared.act.Prompt.{Prompt}
use Rattle.paw_effects.specs.declared.act.Prompt.TheVariants as prompt

-- The condact at which a run waits for this prompt: QUIT, END or ANYKEY; none at the main prompt or in a game that is
-- over.
abbrev pub waiting_code : Prompt → Option ℕ
waiting_code prompt.Quit = Some QUIT
waiting_code prompt.Again = Some END
waiting_code prompt.Key = Some ANYKEY
waiting_code _ = None  -- Main, Over
