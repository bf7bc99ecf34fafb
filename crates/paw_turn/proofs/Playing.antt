-- One phase after the other.
use Rattle.std.proofs.Common.{ℕ, suc, refl, sym, subst}
use Rattle.paw_base.specs.Bytes.{Lines}
use Rattle.paw_effects.specs.Story.{Story}
use Rattle.paw_reading.specs.Turn.{Ending, turn}
use Rattle.paw_turn.specs.declared.phase.Phase.{Phase}
use Rattle.paw_turn.specs.declared.phase.Next.{Next}
use Rattle.paw_turn.specs.declared.phase.Next.TheVariants as next
use Rattle.paw_turn.specs.declared.turn.PlayState.{PlayState}
use Rattle.paw_turn.specs.inner.Phases.{Past, at_phase, run_now, having_read, GoesOnAs, ReadsTurn, PlaysAs, Plays}
use Rattle.paw_turn.specs.inner.Phases.{from_phase}

-- Nothing is played yet.
pub plays_none : (g : Story) (first : Phase) (old : PlayState) → Plays g first old (next.Go first) old
plays_none g first old past has = (past.read, (has, λ n lines. (n, refl)))

-- A reading that leads to a phase, and then what is played from there.
pub plays_then : (g : Story) (whole : ℕ → Past → Lines → Ending) (s : Phase) (old mid new : PlayState) (nx : Next)
    → PlaysAs g whole old (next.Go s) mid → Plays g s mid nx new → PlaysAs g whole old nx new
plays_then g whole s old mid new nx first plays past has =
    let a = first past has in
    let b = plays (having_read a.0 past) a.1.0 in (
      b.0,
      (
        b.1.0,
        λ n lines.
            let j = b.1.1 n lines in
            let k = a.1.1 j.0 lines in
            (k.0, subst (GoesOnAs g n nx new.machine.frames (run_now new (having_read b.0 past) lines)) (sym k.1) j.1),
      ),
    )

-- A phase that is gone through is played.
phase_plays : (g : Story) (s : Phase) (old new : PlayState) (nx : Next) → ReadsTurn g (λ n r. turn g (suc n) (at_phase s) r) old nx new → Plays g s old nx new
phase_plays g s old new nx reads past has =
    let k = reads past has in
    (k.0, (k.1.0, λ n lines. (suc n, k.1.1 n lines)))

-- One phase more.
pub plays_on : (g : Story) (first s : Phase) (old mid new : PlayState) (nx : Next)
    → Plays g first old (next.Go s) mid → ReadsTurn g (λ n r. turn g (suc n) (at_phase s) r) mid nx new → Plays g first old nx new
plays_on g first s old mid new nx plays reads =
    plays_then g (λ m past lines. from_phase g first old m past lines) s old mid new nx plays (phase_plays g s mid new nx reads)
