-- How checking a game ends, and what it leaves.
use Rattle.paw_base.specs.Bytes.{Name}
use Rattle.paw_check.specs.Shown.{verdict_text}
use Rattle.paw_check.specs.Verdicts.{bounds}
use Rattle.paw_stage.specs.Stage.{Standing}
use Rattle.paw_top.specs.Decompile.{ShowsTextOf}
use Rattle.paw_top.specs.declared.outcome.Outcome.{Outcome}
use Rattle.paw_top.specs.declared.outcome.MemoryAt.TheVariants as memory

-- A check shows the bound of what any play of the game takes, or the first cause why none is known.
abbrev pub Checks : Name → Standing → Standing → Outcome → Type 0
Checks = ShowsTextOf (λ g. verdict_text (bounds g)) memory.Check
