-- The prompt.
use Rattle.std.proofs.Common.{◌+◌, ◌<◌, length, refl}
use Rattle.paw_base.specs.declared.fault.SpentKind.TheVariants as spent
use Rattle.paw_base.specs.declared.limits.TheConstants.{PIECE_LIMIT}
use Rattle.paw_phrase.specs.Sentence.{IsNoPhrase}
use Rattle.paw_effects.specs.Story.{Story}
use Rattle.paw_reading.specs.Run.{line_dropped, piece_closed}
use Rattle.paw_reading.specs.Turn.{at_main, prompt_text, after_phrase, turn}
use Rattle.paw_reading.specs.declared.halt.Halt.TheVariants as halt
use Rattle.paw_turn.specs.declared.turn.PlayState.{PlayState}
use Rattle.paw_turn.specs.inner.Phases.{run_now, Moves, halt_next}
use Rattle.paw_turn.proofs.Says.{unsaid}

-- A prompt that doesn't fit.
pub prompt_unsaid : (g : Story) (old new : PlayState)
    → PIECE_LIMIT < length old.surroundings.piece + length (prompt_text g.game old.surroundings.world)
    → Moves g (λ n r. after_phrase g (turn g n) r IsNoPhrase) old (halt_next (halt.Spent spent.Text)) new
prompt_unsaid g old new h past n lines = (
  line_dropped (run_now old past lines),
  unsaid (prompt_text g.game old.surroundings.world)
      (λ x. at_main g (turn g n) (piece_closed x) x.events) (line_dropped (run_now old past lines))
      h,
  record { pieces = refl; traces = refl; events = refl },
)
