-- The description of a location.
use Rattle.std.proofs.Common.{◌≡◌, suc, ◌+◌, ◌<◌, ◌≤◌, ◌++◌, length, refl, sym, ap, ◌∙◌, subst}
use Rattle.paw_base.specs.declared.fault.SpentKind.TheVariants as spent
use Rattle.paw_base.specs.declared.limits.TheConstants.{PIECE_LIMIT}
use Rattle.paw_base.specs.declared.tables.TheConstants.{DESCRIBED_TABLE}
use Rattle.paw_effects.specs.Story.{Story}
use Rattle.paw_world.specs.World.{World}
use Rattle.paw_reading.specs.Run.{with_world}
use Rattle.paw_reading.specs.Reading.{table_read}
use Rattle.paw_reading.specs.Turn.{AtDescribe, location_described, view_text, table_done, turn}
use Rattle.paw_reading.specs.declared.halt.Halt.TheVariants as halt
use Rattle.paw_turn.specs.declared.phase.Next.{Next}
use Rattle.paw_turn.specs.declared.turn.PlayState.{PlayState}
use Rattle.paw_process.specs.inner.OpenTables.{HasRead}
use Rattle.paw_turn.specs.inner.Phases.{run_now, GoesOnAs, ReadsTurn, having_read, in_world, with_piece, halt_next}
use Rattle.paw_turn.proofs.Says.{said, unsaid}

-- Once the location is described table 1 is read.
pub described_reads : (g : Story) (old mid new : PlayState) (nx : Next) (w : World) → w ≡ location_described old.surroundings.world
    → length old.surroundings.piece + length (view_text g.game w) ≤ PIECE_LIMIT
    → mid ≡ with_piece (old.surroundings.piece ++ view_text g.game w) (in_world w old)
    → ReadsTurn g (λ n r. table_done g (turn g n) DESCRIBED_TABLE (table_read g DESCRIBED_TABLE r)) mid nx new
    → ReadsTurn g (λ n r. turn g (suc n) AtDescribe r) old nx new
unfolding turn
described_reads g old mid new nx w world fits is reads past has =
    let full : World → PlayState = λ v. with_piece (old.surroundings.piece ++ view_text g.game v) (in_world v old) in
    let fits' = subst (λ v. length old.surroundings.piece + length (view_text g.game v) ≤ PIECE_LIMIT) world fits in
    let from = subst (λ (m : PlayState). ReadsTurn g (λ n r. table_done g (turn g n) DESCRIBED_TABLE (table_read g DESCRIBED_TABLE r)) m nx new)
    (is ∙ ap full world) reads in
    let t = from past has in (
      t.0,
      (
        t.1.0,
        λ n lines.
            subst (GoesOnAs g n nx new.machine.frames (run_now new (having_read t.0 past) lines))
            (sym (said (view_text g.game (location_described old.surroundings.world))
            (λ s. table_done g (turn g n) DESCRIBED_TABLE (table_read g DESCRIBED_TABLE s))
            (with_world (location_described old.surroundings.world) (run_now old past lines)) fits'))
            (t.1.1 n lines),
      ),
    )

-- A description that doesn't fit.
pub described_not : (g : Story) (old new : PlayState) (w : World) → w ≡ location_described old.surroundings.world
    → PIECE_LIMIT < length old.surroundings.piece + length (view_text g.game w) → new.machine ≡ old.machine
    → ReadsTurn g (λ n r. turn g (suc n) AtDescribe r) old (halt_next (halt.Spent spent.Text)) new
unfolding turn
described_not g old new w world past_fits same past has =
    let past_fits' = subst (λ v. PIECE_LIMIT < length old.surroundings.piece + length (view_text g.game v)) world
    past_fits in (
      past.read,
      (
        subst (HasRead past.read) (sym same) has,
        λ n lines. (
          with_world (location_described old.surroundings.world) (run_now old past lines),
          unsaid (view_text g.game (location_described old.surroundings.world)) (λ s. table_done g (turn g n) DESCRIBED_TABLE (table_read g DESCRIBED_TABLE s))
              (with_world (location_described old.surroundings.world) (run_now old past lines)) past_fits',
          record { pieces = refl; traces = refl; events = refl },
        ),
      ),
    )
