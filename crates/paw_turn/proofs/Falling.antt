-- What is left to do falls from phase to phase.
use Rattle.std.proofs.Common.{◌≡◌, ℕ, zero, suc, ◌+◌, ◌*◌, ◌<◌, ◌≤◌, List, [], ◌++◌, sym, ap, ◌∙◌, subst, arith, lit≤}
use Rattle.std.proofs.Common.{length-append}
use Rattle.paw_base.specs.Bytes.{Lines}
use Rattle.paw_base.proofs.Noted.{kept_none}
use Rattle.paw_effects.specs.Story.{Story}
use Rattle.paw_reading.specs.declared.frames.Frame.{Frame}
use Rattle.paw_reading.specs.Run.{Run, StepRow}
use Rattle.paw_reading.specs.Reading.{Out, table_read}
use Rattle.paw_reading.specs.Turn.{Ending, left_to_read}
use Rattle.paw_process.specs.inner.OpenTables.{OpenTables}
use Rattle.paw_process.specs.inner.OpenTables.{HasRead, ReadsNone, new_machine}
use Rattle.paw_process.specs.inner.Meaning.{ComesTo}
use Rattle.paw_process.specs.declared.Turned.{Turned}
use Rattle.paw_process.specs.declared.Turned.TheVariants as turned
use Rattle.paw_turn.specs.declared.phase.Phase.TheVariants as phase
use Rattle.paw_turn.specs.declared.phase.Next.{Next}
use Rattle.paw_turn.specs.declared.phase.Next.TheVariants as next
use Rattle.paw_turn.specs.declared.turn.PlayState.{PlayState}
use Rattle.paw_turn.specs.inner.Phases.{Past, run_now, HasReadSome, ReadsTurn, PlaysAs, having_read, left_of}
use Rattle.paw_turn.specs.inner.Phases.{table_rank}
use Rattle.paw_turn.specs.inner.Phases.{work, Falls, FallsAfter, RunsAs, from_table, Leaves, Uses}
use Rattle.paw_reading.proofs.Spends.{Spends, table_spends}

pub falls_up : (a b : ℕ) (n : Next) (new : PlayState) → a ≤ b → Falls a n new → Falls b n new
falls_up a b (next.Go s) new h falls = omega arith
falls_up a b (next.Stop stop) new h falls = tt

-- Some past of a machine.
pub some_past : (h : PlayState) → HasReadSome h.machine → (past : Past) × HasRead past.read h.machine
some_past h some = (record { read = some.0; pieces = []; traces = [] }, some.1)

-- A new machine has read nothing.
pub none_yet : (m : OpenTables) → m ≡ new_machine m.steps.most → HasRead [] m
none_yet m e = record {
  left = omega (arith, ap (λ (n : OpenTables). n.left) e);
  steps = ap (λ (n : OpenTables). n.steps) e ∙ kept_none m.steps.most;
}

pub equal_none : (old new : OpenTables) → new ≡ old → ReadsNone old new
equal_none old new e = record { left = ap (λ (m : OpenTables). m.left) e; steps = ap (λ (m : OpenTables). m.steps) e }

-- What was played was read.
pub plays_read : (g : Story) (whole : ℕ → Past → Lines → Ending) (old : PlayState) (n : Next) (new : PlayState) → PlaysAs g whole old n new
    → HasReadSome old.machine → HasReadSome new.machine
plays_read g whole old n new plays some = let k = plays (record { read = some.0; pieces = []; traces = [] }) some.1 in (k.0, k.1.0)

pub reads_read : (g : Story) (x : ℕ → Run → Ending) (old : PlayState) (n : Next) (new : PlayState) → ReadsTurn g x old n new → HasReadSome old.machine
    → HasReadSome new.machine
reads_read g x old n new reads some = let k = reads (record { read = some.0; pieces = []; traces = [] }) some.1 in (k.0, k.1.0)

-- The run of a machine shows what may still be read.
left_shown : (h : PlayState) (past : Past) → HasRead past.read h.machine → left_to_read (run_now h past []) ≡ left_of h
left_shown h past has = omega (arith, has.left)

leaves_by : (g : Story) (turned : Turned) (fs : List Frame) (first r : Run) (x : Out) (old new : ℕ) → ComesTo g turned fs r x
    → left_to_read first ≡ old → left_to_read r ≡ new → Spends (left_to_read first) x → Leaves turned old new
leaves_by g (turned.Left acted) fs first r x old new comes e f spends =
    let h : left_to_read r ≤ left_to_read first = subst (Spends (left_to_read first)) comes spends in omega arith
leaves_by g turned.Redescribe fs first r x old new comes e f spends =
    let h : left_to_read r < left_to_read first = subst (Spends (left_to_read first)) comes spends in omega arith
leaves_by g turned fs first r x old new comes e f spends = tt

pub uses : (g : Story) (t : ℕ) (old mid : PlayState) (turned : Turned) → HasReadSome old.machine → RunsAs g (from_table g t old) old turned mid →
    Uses turned old mid
uses g t old mid turned budget runs =
    let some = some_past old budget in
    let run = runs some.0 some.1 in
    let read : List StepRow = some.0.read ++ run.0 in
    let has : HasRead read mid.machine = run.1.0 in
    record {
      left = omega (arith, has.left, some.1.left, length-append some.0.read run.0);
      leaves = leaves_by g turned mid.machine.frames (run_now old some.0 []) (run_now mid (having_read read some.0) []) (table_read g t (run_now old some.0 []))
          (left_of old) (left_of mid) (run.1.1 []) (left_shown old some.0 some.1) (left_shown mid (having_read read some.0) has)
          (table_spends g t (run_now old some.0 []));
    }

table_rank_low : (t : ℕ) → 2 ≤ table_rank t
table_rank_low zero = lit≤ tt
table_rank_low (suc zero) = lit≤ tt
table_rank_low (suc (suc t)) = lit≤ tt

-- With the phase after a table there is less to do.
pub table_falls : (t : ℕ) (turned : Turned) (old mid new : PlayState) (n : Next) → Uses turned old mid → FallsAfter t turned mid n new
    → Falls (4 * left_of old + table_rank t) n new
table_falls t (turned.Left acted) old mid new n used falls = falls_up _ _ n new (omega (arith, used.leaves)) falls
table_falls t turned.Redescribe old mid new n used falls =
    subst (λ (m : Next). Falls (4 * left_of old + table_rank t) m new) (sym falls.0)
    (subst (λ (h : PlayState). work phase.Describe h < 4 * left_of old + table_rank t) (sym falls.1) (omega (arith, used.leaves, table_rank_low t)))
table_falls t turned old mid new n used falls = falls _
