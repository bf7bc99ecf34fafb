-- A line at a prompt in tables.
use Rattle.std.proofs.Common.{◌≡◌, ℕ, suc, ◌<◌, ◌≤◌, Bool, true, false, List, [], ◌∷◌, ◌++◌, Some}
use Rattle.std.proofs.Common.{length, reverse, refl, sym, ap, ◌∙◌, subst, arith, length-append}
use Rattle.std.proofs.lemmas.List.{length-reverse}
use Rattle.paw_base.specs.Bytes.{Line, Lines}
use Rattle.paw_effects.specs.Story.{Story}
use Rattle.paw_game.specs.Valid.{Valid}
use Rattle.paw_world.specs.World.{World}
use Rattle.paw_effects.specs.declared.act.Prompt.{Prompt}
use Rattle.paw_effects.specs.declared.act.Prompt.TheVariants as prompt
use Rattle.paw_reading.specs.declared.frames.Frame.{Frame}
use Rattle.paw_reading.specs.Run.{Run, piece_closed, is_timeout, is_ignored, with_timeout, reply, is_yes}
use Rattle.paw_reading.specs.Reading.{Out, Waits, after_call, prompt_asked, rest_of_table}
use Rattle.paw_reading.specs.GoingOn.{on_path}
use Rattle.paw_reading.specs.Turn.{table_done, turn, first_table}
use Rattle.paw_reading.specs.inner.Waits.{IsLoopOf}
use Rattle.paw_process.specs.inner.OpenTables.{OpenTables}
use Rattle.paw_process.specs.inner.OpenTables.{ReadsNone}
use Rattle.paw_process.specs.inner.Meaning.{having, to_come, going_in, ComesTo, RunsTo, IsStopped, AnswersQuit}
use Rattle.paw_process.specs.inner.Meaning.{AnswersKey}
use Rattle.paw_process.specs.declared.Turned.{Turned}
use Rattle.paw_turn.specs.declared.phase.TurnStop.TheVariants as stop
use Rattle.paw_turn.specs.declared.phase.Next.{Next}
use Rattle.paw_turn.specs.declared.phase.Next.TheVariants as next
use Rattle.paw_turn.specs.declared.turn.PlayState.{PlayState}
use Rattle.paw_turn.specs.inner.Player.{StandsAt}
use Rattle.paw_turn.specs.inner.Phases.{Past, run_now, having_read, HasReadSome, GoesOnAs, MovesAfter, PlaysAs}
use Rattle.paw_turn.specs.inner.Phases.{RunsAs, from_prompt, from_path, StopsInTable, AwaitsAt, in_world}
use Rattle.paw_process.proofs.Readings.{has_still}
use Rattle.paw_turn.proofs.Falling.{some_past}
use Rattle.paw_reading.proofs.Stays.{IsInner, WaitsThere, path_waits}
use Rattle.paw_turn.proofs.Waiting.{stops_in}
use Rattle.paw_turn.proofs.Hearing.{main_ignored}

-- ---- ignored lines ----

path_ignores : (g : Story) (p : Prompt) (lv : ℕ) (f : Frame) (path : List Frame) (r : Run) (line : Line) (lines : Lines)
    → is_ignored r.world line ≡ true
    → on_path g p lv (f ∷ path) (to_come (line ∷ lines) r) ≡ on_path g p lv (f ∷ path) (piece_closed (to_come lines r))
unfolding prompt_asked
path_ignores g p lv f [] r line lines ignored = rw ignored refl
path_ignores g p lv f (h ∷ path) r line lines ignored =
    ap (after_call f (rest_of_table g lv f.table f.entry (suc f.at))) (path_ignores g p (suc lv) h path r line lines ignored)

some_ignores : (g : Story) (p : Prompt) (path : List Frame) (r : Run) (line : Line) (lines : Lines) → 0 < length path
    → is_ignored r.world line ≡ true → on_path g p 0 path (to_come (line ∷ lines) r) ≡ on_path g p 0 path (piece_closed (to_come lines r))
some_ignores g p [] r line lines some ignored = absurd (omega arith)
some_ignores g p (f ∷ path) r line lines some ignored = path_ignores g p 0 f path r line lines ignored

-- A prompt in tables at which an ignored line comes.
in_table_ignored : (g : Story) (p : Prompt) (old : PlayState) (line : Line) → 0 < length old.machine.frames → is_ignored old.surroundings.world line ≡ true
    → (n : ℕ) (past : Past) (lines : Lines)
    → table_done g (turn g n) (first_table (reverse old.machine.frames)) (on_path g p 0 (reverse old.machine.frames) (run_now old past (line ∷ lines)))
    ≡ table_done g (turn g n) (first_table (reverse old.machine.frames)) (on_path g p 0 (reverse old.machine.frames) (piece_closed (run_now old past lines)))
in_table_ignored g p old line some ignored n past lines =
    let many : 0 < length (reverse old.machine.frames) = omega (arith, length-reverse old.machine.frames) in
    ap (table_done g (turn g n) (first_table (reverse old.machine.frames)))
    (some_ignores g p (reverse old.machine.frames) (run_now old past []) line lines many ignored)

-- An ignored line closes an empty piece, and the game waits on.
pub ignored_plays : (g : Story) (p : Prompt) (old : PlayState) (line : Line) → StandsAt p old.machine → is_ignored old.surroundings.world line ≡ true
    → PlaysAs g (from_prompt g p old line) old (next.Stop (stop.Waits p)) old
ignored_plays g prompt.Main old line stands ignored past has = main_ignored g old line ignored past has
ignored_plays g prompt.Quit old line stands ignored past has =
    (past.read, (has, λ n lines. (n, in_table_ignored g prompt.Quit old line stands.tables.tables.some ignored n past lines)))
ignored_plays g prompt.Again old line stands ignored past has =
    (past.read, (has, λ n lines. (n, in_table_ignored g prompt.Again old line stands.tables.tables.some ignored n past lines)))
ignored_plays g prompt.Key old line stands ignored past has =
    (past.read, (has, λ n lines. (n, in_table_ignored g prompt.Key old line stands.tables.tables.some ignored n past lines)))
ignored_plays g prompt.Over old line stands ignored past has = absurd stands

-- ---- the answer to QUIT, and a key ----

answered_path : (g : Story) (p : Prompt) (old : PlayState) (line : Line) (w : World) (m : OpenTables) (agrees : Bool)
    → AwaitsAt p old.machine → Valid g.game → is_ignored old.surroundings.world line ≡ false → is_yes (reply line) ≡ agrees
    → w ≡ with_timeout (is_timeout line) old.surroundings.world
    → (old.machine.waiting ≡ Some prompt.Quit → AnswersQuit agrees old.machine.frames m.frames)
    → (old.machine.waiting ≡ Some prompt.Key → AnswersKey old.machine.frames m.frames)
    → m.turning ≡ old.machine.turning
    → (past : Past) (lines : Lines)
    → from_path g p old line past lines ≡ going_in g m.frames (run_now (record (in_world w old) { machine = m }) past lines)
answered_path g prompt.Main old line w m agrees awaits valid hears same world quit key turning past lines = absurd awaits
answered_path g prompt.Quit old line w m agrees awaits valid hears same world quit key turning past lines =
    quit awaits.tables.waiting g line lines (run_now old past []) valid hears same ∙ ap (going_in g m.frames) (cc (world, turning))
answered_path g prompt.Again old line w m agrees awaits valid hears same world quit key turning past lines = absurd awaits
answered_path g prompt.Key old line w m agrees awaits valid hears same world quit key turning past lines =
    key awaits.tables.waiting g line lines (run_now old past []) hears ∙ ap (going_in g m.frames) (cc (world, turning))
answered_path g prompt.Over old line w m agrees awaits valid hears same world quit key turning past lines = absurd awaits

-- The machine reads on where it was answered.
pub answered_runs : (g : Story) (p : Prompt) (old mid : PlayState) (line : Line) (w : World) (m : OpenTables) (agrees : Bool) (turned : Turned)
    → AwaitsAt p old.machine → Valid g.game → is_ignored old.surroundings.world line ≡ false → is_yes (reply line) ≡ agrees
    → w ≡ with_timeout (is_timeout line) old.surroundings.world
    → (old.machine.waiting ≡ Some prompt.Quit → AnswersQuit agrees old.machine.frames m.frames)
    → (old.machine.waiting ≡ Some prompt.Key → AnswersKey old.machine.frames m.frames)
    → m.turning ≡ old.machine.turning → ReadsNone old.machine m
    → RunsTo g (having (record old.surroundings { world = w }) m) turned (having mid.surroundings mid.machine)
    → RunsAs g (from_path g p old line) old turned mid
answered_runs g p old mid line w m agrees turned awaits valid hears same world quit key turning none runs past has =
    let h : PlayState = record (in_world w old) { machine = m } in
    let t = runs (run_now h past [])
    (record { world = refl; pending = refl; earlier = refl; turning = refl; current = refl; read = has_still past.read old.machine m has none }) in (
      t.0,
      (
        t.1,
        λ lines.
            subst (ComesTo g turned mid.machine.frames (run_now mid (having_read (past.read ++ t.0) past) lines))
            (sym (answered_path g p old line w m agrees awaits valid hears same world quit key turning past lines)) (t.2 lines),
      ),
    )

-- A prompt in tables from which going on is read.
awaited : (g : Story) (p : Prompt) (old : PlayState) (line : Line) → AwaitsAt p old.machine → (n : ℕ) (past : Past) (lines : Lines)
    → from_prompt g p old line n past lines ≡ table_done g (turn g n) (first_table (reverse old.machine.frames)) (from_path g p old line past lines)
awaited g prompt.Main old line awaits n past lines = absurd awaits
awaited g prompt.Quit old line awaits n past lines = refl
awaited g prompt.Again old line awaits n past lines = absurd awaits
awaited g prompt.Key old line awaits n past lines = refl
awaited g prompt.Over old line awaits n past lines = absurd awaits

pub answer_plays : (g : Story) (p : Prompt) (t : ℕ) (old mid new : PlayState) (line : Line) (turned : Turned) (nx : Next)
    → AwaitsAt p old.machine → t ≡ first_table (reverse old.machine.frames)
    → RunsAs g (from_path g p old line) old turned mid → MovesAfter g t turned mid nx new → ReadsNone mid.machine new.machine
    → PlaysAs g (from_prompt g p old line) old nx new
answer_plays g p t old mid new line turned nx awaits first runs moves same past has =
    let k = runs past has in (
      past.read ++ k.0,
      (
        has_still (past.read ++ k.0) mid.machine new.machine k.1.0 same,
        λ n lines. (
          n,
          subst (GoesOnAs g n nx new.machine.frames (run_now new (having_read (past.read ++ k.0) past) lines))
              (ap (λ (u : ℕ). table_done g (turn g n) u (from_path g p old line past lines)) first ∙ sym (awaited g p old line awaits n past lines))
              (moves (having_read (past.read ++ k.0) past) n lines _ (k.1.1 lines)),
        ),
      ),
    )

pub runs_left : (g : Story) (x : Past → Lines → Out) (old mid : PlayState) (turned : Turned) → HasReadSome old.machine → RunsAs g x old turned mid
    → mid.machine.left ≤ old.machine.left
runs_left g x old mid turned budget runs =
    let some = some_past old budget in
    let run = runs some.0 some.1 in
    omega (arith, run.1.0.left, some.1.left, length-append some.0.read run.0)

wait_after : (g : Story) (q p : Prompt) (from path : List Frame) (r s : Run) → IsInner q → 0 < length from → IsLoopOf (first_table from) r.turning
    → on_path g q 0 from r ≡ Waits p path s → WaitsThere (first_table from) 0 p path s.turning
wait_after g q p [] path r s inner some loop is = absurd (omega arith)
wait_after g q p (f ∷ from) path r s inner some loop is = path_waits g q p f from path r s inner loop is

pub answered_stops : (g : Story) (p : Prompt) (old mid : PlayState) (line : Line) (turned : Turned) → AwaitsAt p old.machine → HasReadSome old.machine
    → RunsAs g (from_path g p old line) old turned mid → IsStopped turned mid.machine
    → StopsInTable (first_table (reverse old.machine.frames)) turned mid.machine
answered_stops g prompt.Main old mid line turned awaits budget = absurd awaits
answered_stops g prompt.Quit old mid line turned awaits budget =
    let many : 0 < length (reverse old.machine.frames) = omega (arith, length-reverse old.machine.frames, awaits.tables.tables.some) in
    stops_in g (first_table (reverse old.machine.frames)) (from_path g prompt.Quit old line) old mid turned budget
    (λ past p path s is. wait_after g prompt.Quit p (reverse old.machine.frames) path (run_now old past (line ∷ [])) s tt many awaits.loop is)
answered_stops g prompt.Again old mid line turned awaits budget = absurd awaits
answered_stops g prompt.Key old mid line turned awaits budget =
    let many : 0 < length (reverse old.machine.frames) = omega (arith, length-reverse old.machine.frames, awaits.tables.tables.some) in
    stops_in g (first_table (reverse old.machine.frames)) (from_path g prompt.Key old line) old mid turned budget
    (λ past p path s is. wait_after g prompt.Key p (reverse old.machine.frames) path (run_now old past (line ∷ [])) s tt many awaits.loop is)
answered_stops g prompt.Over old mid line turned awaits budget = absurd awaits
