-- Where a machine waits.
use Rattle.std.proofs.Common.{◌≡◌, ℕ, ◌<◌, List, [], ◌++◌, length, reverse, refl, sym, ◌∙◌, subst, arith}
use Rattle.std.proofs.lemmas.List.{length-reverse}
use Rattle.paw_base.specs.Bytes.{Lines}
use Rattle.paw_effects.specs.Story.{Story}
use Rattle.paw_effects.specs.declared.act.Prompt.{Prompt}
use Rattle.paw_effects.specs.declared.act.Prompt.TheVariants as prompt
use Rattle.paw_reading.specs.declared.frames.Frame.{Frame}
use Rattle.paw_reading.specs.Run.{Run, piece_closed}
use Rattle.paw_reading.specs.Reading.{Out, Waits}
use Rattle.paw_reading.specs.inner.Waits.{IsLoopOf}
use Rattle.paw_process.specs.inner.OpenTables.{OpenTables}
use Rattle.paw_process.specs.inner.OpenTables.{IsWaiting, IsClosed}
use Rattle.paw_process.specs.inner.Meaning.{IsStopped}
use Rattle.paw_process.specs.declared.Turned.{Turned}
use Rattle.paw_process.specs.declared.Turned.TheVariants as turned
use Rattle.paw_turn.specs.declared.turn.PlayState.{PlayState}
use Rattle.paw_turn.specs.inner.Phases.{Past, run_now, having_read, HasReadSome, RunsAs, from_table, WaitsInTable}
use Rattle.paw_turn.specs.inner.Phases.{StopsInTable}
use Rattle.paw_reading.proofs.Stays.{WaitsThere, table_waits}
use Rattle.paw_reading.proofs.Waiting.{some_waits}
use Rattle.paw_turn.proofs.Falling.{some_past}

waits_in : (p : Prompt) (t : ℕ) (m : OpenTables) → IsWaiting p m → WaitsThere t 0 p (reverse m.frames) m.turning → WaitsInTable t p m
waits_in prompt.Main t m waits there = there.inner
waits_in prompt.Quit t m waits there =
    (record { tables = waits; loop = subst (λ u. IsLoopOf u m.turning) (sym (there.first refl)) there.loop }, there.first refl)
waits_in prompt.Again t m waits there =
    (record { tables = waits; loop = subst (λ u. IsLoopOf u m.turning) (sym (there.first refl)) there.loop }, there.first refl)
waits_in prompt.Key t m waits there =
    (record { tables = waits; loop = subst (λ u. IsLoopOf u m.turning) (sym (there.first refl)) there.loop }, there.first refl)
waits_in prompt.Over t m waits there = there.inner

-- Where a machine stopped in a table, if what it read waits there.
pub stops_in : (g : Story) (t : ℕ) (x : Past → Lines → Out) (old mid : PlayState) (turned : Turned) → HasReadSome old.machine
    → ((past : Past) (p : Prompt) (path : List Frame) (s : Run) → x past [] ≡ Waits p path s → WaitsThere t 0 p path s.turning)
    → RunsAs g x old turned mid → IsStopped turned mid.machine → StopsInTable t turned mid.machine
stops_in g t x old mid (turned.Waits p) budget there runs stopped =
    let some = some_past old budget in
    let run = runs some.0 some.1 in
    let r : Run = piece_closed (run_now mid (having_read (some.0.read ++ run.0) some.0) []) in
    let many : 0 < length (reverse mid.machine.frames) = omega (arith, length-reverse mid.machine.frames, stopped.tables.some) in
    waits_in p t mid.machine stopped
    (there some.0 p (reverse mid.machine.frames) r (run.1.1 [] ∙ some_waits g p (reverse mid.machine.frames) r many))
stops_in g t x old mid turned budget there runs stopped = stopped

pub table_stops : (g : Story) (t : ℕ) (old mid : PlayState) (turned : Turned) → HasReadSome old.machine → IsClosed old.machine
    → RunsAs g (from_table g t old) old turned mid → IsStopped turned mid.machine → StopsInTable t turned mid.machine
table_stops g t old mid turned budget none =
    stops_in g t (from_table g t old) old mid turned budget (λ past p path s is. table_waits g t (run_now old past []) s p path none.turning is)
