-- Which bytes answer the bytes of a page.
use Rattle.std.specs.Prelude.{◌≡◌, ◌↔◌, ◌<◌, ℕ, [], ◌∷◌, length, None, Some, IfSome}
use Rattle.std.specs.List.{All}
use Rattle.paw_base.specs.Bytes.{Bytes, Names, RoutineAnswers}
use Rattle.paw_routines.specs.Answers.{value_at}
use Rattle.paw_routines.specs.Program.{program_routine}
use Rattle.paw_routines.specs.declared.program.TheConstants.{ROUTINES}
use Rattle.paw_stage.specs.AcrossCalls.{IsOneOf}
use Rattle.paw_stage.specs.Stage.{Standing}
use Rattle.paw_top.specs.Answers.{IfMemory}
use Rattle.paw_top.specs.Commands.{command_of, meaning}
use Rattle.paw_top.specs.Completes.{IsUnhindered}
use Rattle.paw_top.specs.declared.outcome.Outcome.{Outcome}
use Rattle.paw_top.specs.declared.outcome.Outcome.TheVariants as ending
use Rattle.paw_page.specs.declared.export.TheConstants.{NO_REQUEST, NO_MEMORY}
use Rattle.paw_page.specs.Request.{IsRequest, PageRequest}
use Rattle.paw_page.specs.Reply.{reply_bytes}
use Rattle.paw_page.specs.Stands.{file_left, standing_before}

-- The answers of the program's routines to each byte.
pub record AreProgramAnswers (answers : RoutineAnswers) : Type 0 where
  pub one_each : length answers ≡ ROUTINES
  pub whole : All (λ own. length own ≡ 256) answers
  pub bytes : All (λ own. All (λ y. y < 256) own) answers
  pub values : (n x : ℕ) → n < ROUTINES → x < 256 → value_at answers n x ≡ Some (program_routine n x)

-- What the program does for these words, from what stands before to what stands after, and how it ends. Words of no
-- form are answered by Usage, and then nothing changes; otherwise it comes as the meaning of their command says. Where
-- memory may be lacking, that says too.
pub record DoesAsked (words : Names) (old new : Standing) (o : Outcome) : Type 0 where
  pub usage : (o ≡ ending.Usage) ↔ (command_of words ≡ None)
  pub idle : command_of words ≡ None → new ≡ old
  pub memory : IfSome (command_of words) (λ c. IfMemory o (IsOneOf (meaning c).memory))
  pub comes : IfSome (command_of words) (λ c.
      (answers : RoutineAnswers) → AreProgramAnswers answers → (meaning c).comes answers old new o)

-- The bytes say how the command of a request ends, the text that it shows, and the file that it leaves. No call of the
-- stage failed.
pub record IsReply (r : PageRequest) (reply : Bytes) : Type 0 where
  pub ends : Outcome
  pub after : Standing
  pub does : DoesAsked r.words (standing_before r) after ends
  pub unhindered : IsUnhindered ends
  pub same : reply ≡ reply_bytes ends after.shown (file_left r.words after)

-- The answer to bytes: the reply to the request that they are; or 255, exactly where they are none; or 254, where memory
-- is lacking.
pub data AnswersPage (bytes reply : Bytes) : Type 0 where
  replied : (r : PageRequest) → IsRequest r bytes → IsReply r reply → AnswersPage bytes reply
  no_request : ((r : PageRequest) → ¬ IsRequest r bytes) → reply ≡ NO_REQUEST ∷ [] → AnswersPage bytes reply
  no_memory : reply ≡ NO_MEMORY ∷ [] → AnswersPage bytes reply
