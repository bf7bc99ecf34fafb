-- Steps of a player that are halts.
use Rattle.std.proofs.Common.{◌≡◌, true, false, List, Some, ap, ◌∙◌, subst}
use Rattle.paw_base.specs.Bytes.{Texts, Lines}
use Rattle.paw_effects.specs.Story.{Story}
use Rattle.paw_reading.specs.Run.{StepRow}
use Rattle.paw_reading.specs.declared.halt.Halt.{Halt}
use Rattle.paw_reading.specs.declared.halt.Halt.TheVariants as halt
use Rattle.paw_reading.specs.Reading.{closes_piece}
use Rattle.paw_reading.specs.Turn.{Ending}
use Rattle.paw_turn.specs.declared.Step.{Step}
use Rattle.paw_turn.specs.declared.Step.TheVariants as step
use Rattle.paw_turn.specs.inner.Player.{PlayerView, PlaysTo, PlayHalts, IsStanding, step_halt}

-- Where play ended before a piece was closed, there is no further piece and none to show.
pub plays_halted : {F : Type 0} (g : Story) (whole : Lines → Ending) (s : Step) (new : PlayerView F) (pieces : Texts)
    (traces : List (List StepRow)) (h : Halt) → step_halt s ≡ Some h → closes_piece h ≡ false → PlaysTo g whole s new pieces traces →
    PlayHalts whole h new pieces traces
plays_halted g whole (step.Waits p) new pieces traces h e unclosed plays = cc
plays_halted g whole step.Ended new pieces traces h e unclosed plays =
    let k : halt.Over ≡ h = cc in let t : true ≡ false = ap closes_piece k ∙ unclosed in cc
plays_halted g whole (step.Spent kind) new pieces traces h e unclosed plays =
    let k : halt.Spent kind ≡ h = cc in subst (λ x. PlayHalts whole x new pieces traces) k plays
plays_halted g whole (step.TooDeep table) new pieces traces h e unclosed plays =
    let k : halt.TooDeep table ≡ h = cc in subst (λ x. PlayHalts whole x new pieces traces) k plays

-- A player whose piece wasn't closed stands at no prompt.
pub halted_stands : (s : Step) (h : Halt) → step_halt s ≡ Some h → closes_piece h ≡ false → IsStanding s → ⊥
halted_stands s h e unclosed = rw (e, unclosed) (λ none. none)
