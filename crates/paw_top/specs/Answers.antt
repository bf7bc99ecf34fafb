-- Facts of one answer.
use Rattle.std.specs.Prelude.{List, [], ◌∷◌, Option, Some, None}
use Rattle.paw_stage.specs.declared.StageCall.{StageCall}
use Rattle.paw_top.specs.declared.outcome.Outcome.{Outcome}
use Rattle.paw_top.specs.declared.outcome.Outcome.TheVariants as outcome
use Rattle.paw_top.specs.declared.outcome.MemoryAt.{MemoryAt}
use Rattle.paw_top.specs.declared.outcome.MemoryAt.TheVariants as memory

-- The call that failed, by the answer.
abbrev pub failed_call : Outcome → Option StageCall
failed_call (outcome.Outside c) = Some c
failed_call _ = None

-- ---- memory ----

-- Where the answer is Memory, this holds of what memory was lacking for; of any other answer nothing is said.
abbrev pub IfMemory : Outcome → (MemoryAt → Type 0) → Type 0
IfMemory (outcome.Memory at) P = P at
IfMemory _ P = Unit {0}

-- Where memory may be lacking when an image is loaded.
abbrev pub load_memory : List MemoryAt
load_memory = memory.Load ∷ memory.Image ∷ []
