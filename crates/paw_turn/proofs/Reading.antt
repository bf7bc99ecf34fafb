-- A table that is read.
use Rattle.std.proofs.Common.{◌≡◌, ℕ, suc, [], ◌++◌, refl, sym, subst}
use Rattle.paw_base.specs.declared.tables.TheConstants.{RESPONSE_TABLE, FRAME_TABLE}
use Rattle.paw_effects.specs.Story.{Story}
use Rattle.paw_reading.specs.Run.{Run}
use Rattle.paw_reading.specs.Reading.{table_read}
use Rattle.paw_reading.specs.Turn.{AtTimeFrame, AtResponse, Ending, table_done, turn}
use Rattle.paw_process.specs.inner.OpenTables.{OpenTables}
use Rattle.paw_process.specs.inner.OpenTables.{HasRead, ReadsNone, table_begun}
use Rattle.paw_process.specs.inner.Meaning.{having, RunsTo}
use Rattle.paw_process.specs.declared.Turned.{Turned}
use Rattle.paw_turn.specs.declared.phase.Next.{Next}
use Rattle.paw_turn.specs.declared.turn.PlayState.{PlayState}
use Rattle.paw_process.proofs.Readings.{has_still}
use Rattle.paw_turn.specs.inner.Phases.{run_now, having_read, Moves, ReadsTurn, MovesAfter, RunsAs, from_table}

-- The machine has read the table that it opened.
pub begun_runs : (g : Story) (t : ℕ) (old mid : PlayState) (m : OpenTables) (turned : Turned) → m ≡ table_begun t old.machine
    → RunsTo g (having old.surroundings m) turned (having mid.surroundings mid.machine)
    → RunsAs g (from_table g t old) old turned mid
begun_runs g t old mid m turned is runs past has =
    let from = subst (λ (n : OpenTables). RunsTo g (having old.surroundings n) turned (having mid.surroundings mid.machine)) is runs in
    let t = from (run_now old past [])
    (record { world = refl; pending = refl; earlier = refl; turning = refl; current = refl; read = record { left = has.left; steps = has.steps } }) in
    (t.0, (t.1, λ lines. t.2 lines))

-- What the machine has read, and how the turn goes on.
pub read_on : (g : Story) (t : ℕ) (old mid new : PlayState) (turned : Turned) (nx : Next)
    → RunsAs g (from_table g t old) old turned mid → MovesAfter g t turned mid nx new → ReadsNone mid.machine new.machine
    → ReadsTurn g (λ n r. table_done g (turn g n) t (table_read g t r)) old nx new
read_on g t old mid new turned nx runs moves same past has =
    let t = runs past has in (
      past.read ++ t.0,
      (
        has_still (past.read ++ t.0) mid.machine new.machine t.1.0 same,
        λ n lines.
            moves (having_read (past.read ++ t.0) past) n lines _ (t.1.1 lines),
      ),
    )

-- A phase in which nothing is read.
pub moves_read : (g : Story) (x : ℕ → Run → Ending) (old new : PlayState) (nx : Next) → Moves g x old nx new → new.machine ≡ old.machine →
    ReadsTurn g x old nx new
moves_read g x old new nx moves same past has =
    (past.read, (subst (HasRead past.read) (sym same) has, λ n lines. moves past n lines))

-- The time frame reads table 2, and the response table 0.
pub time_frame_reads : (g : Story) (old new : PlayState) (nx : Next)
    → ReadsTurn g (λ n r. table_done g (turn g n) FRAME_TABLE (table_read g FRAME_TABLE r)) old nx new
    → ReadsTurn g (λ n r. turn g (suc n) AtTimeFrame r) old nx new
unfolding turn
time_frame_reads g old new nx reads = reads

pub response_reads : (g : Story) (old new : PlayState) (nx : Next)
    → ReadsTurn g (λ n r. table_done g (turn g n) RESPONSE_TABLE (table_read g RESPONSE_TABLE r)) old nx new
    → ReadsTurn g (λ n r. turn g (suc n) AtResponse r) old nx new
unfolding turn
response_reads g old new nx reads = reads
