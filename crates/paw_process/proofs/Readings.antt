-- Condacts, and how steps of reading follow one another.
use Rattle.std.proofs.Common.{◌≡◌, ◌⊎◌, inl, inr, ℕ, ◌+◌, ◌≤◌, ◌<◌, true, false, List, [], ◌∷◌, ◌++◌, Option, Some, None}
use Rattle.std.proofs.Common.{refl, sym, ap, ◌∙◌, subst, length, arith, add-one, length-append}
use Rattle.std.specs.Prelude.{if◌then◌else◌, reverse}
use Rattle.std.proofs.lemmas.List.{append_assoc, append-nil}
use Rattle.paw_base.specs.Bytes.{Text}
use Rattle.paw_base.specs.declared.parts.Condact.{Condact}
use Rattle.paw_base.specs.inner.Steps.{KeptSteps}
use Rattle.paw_base.specs.inner.Steps.{with_step_noted as noted_step}
use Rattle.paw_base.proofs.Noted.{kept_noted, kept_as_said}
use Rattle.paw_base.specs.declared.fault.SpentKind.TheVariants as spent
use Rattle.paw_base.specs.declared.messages.TheConstants.{QUIT_MESSAGE}
use Rattle.paw_base.specs.declared.limits.TheConstants.{PIECE_LIMIT}
use Rattle.paw_effects.specs.Story.{Story}
use Rattle.paw_game.specs.Tables.{condact_at}
use Rattle.paw_world.specs.World.{World}
use Rattle.paw_phrase.specs.declared.Found.{Found}
use Rattle.paw_phrase.specs.declared.Found.TheVariants as found
use Rattle.paw_phrase.specs.Pending.{PendingLine}
use Rattle.paw_effects.specs.declared.act.Prompt.{Prompt}
use Rattle.paw_effects.specs.declared.act.Prompt.TheVariants as prompt
use Rattle.paw_effects.specs.declared.act.Truth.TheVariants as truth
use Rattle.paw_effects.specs.declared.act.Effect.{Effect}
use Rattle.paw_effects.specs.declared.act.Effect.TheVariants as effect
use Rattle.paw_effects.specs.declared.act.Act.{Act}
use Rattle.paw_effects.specs.Holds.{is_condition, holds}
use Rattle.paw_effects.specs.Effects.{Done, Does, DoesAs, effect_of}
use Rattle.paw_effects.specs.Texts.{put_text}
use Rattle.paw_reading.specs.declared.frames.Frame.{Frame}
use Rattle.paw_reading.specs.declared.frames.OpenLoop.{OpenLoop}
use Rattle.paw_reading.specs.Run.{Run, StepRow, piece_closed, with_world}
use Rattle.paw_reading.specs.declared.halt.Halt.TheVariants as halt
use Rattle.paw_reading.specs.Reading.{Out, halts, step_at, step_noted, printing, waits}
use Rattle.paw_reading.specs.Reading.{acts, carried_out, after_action, loop_of, deeper}
use Rattle.paw_reading.specs.inner.Parts.{tests_condition, parses}
use Rattle.paw_reading.specs.GoingOn.{on_path}
use Rattle.paw_reading.specs.inner.GoingOn.{along}
use Rattle.paw_process.specs.inner.OpenTables.{OpenTables}
use Rattle.paw_process.specs.inner.OpenTables.{HasRead, ReadsNone, ReadsStep, below}
use Rattle.paw_process.specs.inner.Meaning.{Held, having, ShowsHeld, run_held, with_steps, to_come, going_in, ComesTo}
use Rattle.paw_process.specs.inner.Meaning.{RunsTo}
use Rattle.paw_process.specs.inner.Moves.{Continues, loop_resolved, next_of, past_of, reading_at, acted_at, loop_at_frames}
use Rattle.paw_process.specs.inner.Moves.{one_at, ReadsTable, ReadsOne, after_found}
use Rattle.paw_process.specs.inner.Phrases.{Speaks}
use Rattle.paw_process.specs.declared.surroundings.Surroundings.{Surroundings}
use Rattle.paw_process.specs.declared.Turned.{Turned}
use Rattle.paw_process.specs.declared.Turned.TheVariants as turned
use Rattle.paw_process.proofs.Steps.{acted_call, acted_loop, settled_waits, reading_condact, reading_none}
use Rattle.paw_process.proofs.Stops.{goes_from, stops_halted, fit, ask_spent}

-- ---- conditions ----

module _ (g : Story) (fs : List Frame) (f : Frame) (c : Condact) (r : Run) where
  pub one_tests : is_condition c ≡ true
      → one_at g fs f c r ≡ loop_resolved g fs (tests_condition g f (next_of g fs f) (past_of g fs f) c r (holds g.game r.world c))
  one_tests h = rw h refl

  pub one_acts : is_condition c ≡ false
      → one_at g fs f c r
      ≡ loop_resolved g fs (acts g (deeper g (length fs)) (length fs) f (next_of g fs f) (past_of g fs f) (effect_of g r.world c) (step_noted f c true r))
  one_acts h = rw h refl

  pub test_holds : (w : World) → is_condition c ≡ true → truth.Yes ≡ (holds g.game r.world c).answer → w ≡ (holds g.game r.world c).world
      → one_at g fs f c r ≡ going_in g (record f { at = f.at + 1 } ∷ fs) (step_noted f c true (with_world w r))
  test_holds w kind h e = one_tests kind ∙ rw (← h, e, add-one) refl

  pub test_fails : (w : World) → is_condition c ≡ true → truth.No ≡ (holds g.game r.world c).answer → w ≡ (holds g.game r.world c).world
      → one_at g fs f c r ≡ going_in g (record f { entry = f.entry + 1; at = 0 } ∷ fs) (step_noted f c false (with_world w r))
  test_fails w kind h e = one_tests kind ∙ rw (← h, e, add-one) refl

  pub test_asks : (w : World) → is_condition c ≡ true → truth.Ask ≡ (holds g.game r.world c).answer → w ≡ (holds g.game r.world c).world
      → one_at g fs f c r
      ≡ loop_resolved g fs (printing (put_text g.game w QUIT_MESSAGE) (waits g prompt.Quit f (past_of g fs f))
      (step_noted f c true (with_world w r)))
  test_asks w kind h e = one_tests kind ∙ rw (← h, e) refl

-- ---- actions ----

-- With the same effect.
pub acted_as : (g : Story) (fs : List Frame) (f : Frame) (e e' : Effect) (r : Run) → e ≡ e' → acted_at g fs f e r ≡ acted_at g fs f e' r
acted_as g fs f e e' r h = ap (λ (x : Effect). acted_at g fs f x r) h

pub call_at : (g : Story) (old : List Frame) (f : Frame) (u : ℕ) (r : Run) → old ≡ f ∷ below old
    → acted_at g (below old) f (effect.Call u) r ≡ along g old (deeper g (length (below old)) u r)
call_at g old f u r top =
    acted_call g (below old) f u r ∙ ap (λ (s : List Frame). along g s (deeper g (length (below old)) u r)) (sym top)

pub loop_at : (g : Story) (fs : List Frame) (f : Frame) (p : ℕ) (r : Run) (l : OpenLoop) (n : ℕ)
    → l ≡ loop_of (length fs) f p → n ≡ length g.game.objects → acted_at g fs f (effect.Loop p) r ≡ loop_at_frames g fs l n r
loop_at g fs f p r l n e q = rw (e, q) (acted_loop g fs f p r)

pub ask_at : (g : Story) (old fs : List Frame) (f : Frame) (p : Prompt) (r : Run) → old ≡ f ∷ fs
    → acted_at g fs f (effect.Ask p) r ≡ on_path g p 0 (reverse old) (piece_closed r)
ask_at g old fs f p r top = settled_waits g fs f p r ∙ rw top refl

pub parse_at : (g : Story) (fs : List Frame) (f : Frame) (x : Found) (s : Surroundings) (m : OpenTables) (w : World) (p : PendingLine) (r : Run)
    → Speaks g.game x s.world w s.pending p
    → loop_resolved g fs (parses g f (next_of g fs f) (past_of g fs f) (run_held (having s m) r))
    ≡ going_in g (after_found x f ∷ fs) (run_held (having (record s { world = w; pending = p }) m) r)
parse_at g fs f found.Sentence s m w p r (t, e, ew, ev) = rw (e, ew, ev, add-one) refl
parse_at g fs f found.Nothing s m w p r (e, ew, ev) = rw (e, ew, ev, add-one) refl
parse_at g fs f found.Empty s m w p r (e, ew, ep) = rw (e, ew, ep, add-one) refl

-- What an action did where it isn't spent.
did_as : (d : Done) (old new : Text) (w : World) (a : Act) (e : Effect) → DoesAs d old new w a e → (e ≡ effect.Spent → ⊥)
    → (length old + length d.text ≤ PIECE_LIMIT) × (new ≡ old ++ d.text) × (w ≡ d.world) × (a ≡ d.act)
did_as d old new w a effect.Go h n = h
did_as d old new w a (effect.Exit b) h n = h
did_as d old new w a effect.Redescribe h n = h
did_as d old new w a (effect.Call u) h n = h
did_as d old new w a (effect.Loop p) h n = h
did_as d old new w a (effect.Ask p) h n = h
did_as d old new w a effect.Parse h n = h
did_as d old new w a effect.Spent h n = absurd (n refl)

pub did : (d : Done) (old new : Text) (w : World) (a : Act) → Does d old new w a → (a.effect ≡ effect.Spent → ⊥)
    → (length old + length d.text ≤ PIECE_LIMIT) × (new ≡ old ++ d.text) × (w ≡ d.world) × (a ≡ d.act)
did d old new w a h n = did_as d old new w a a.effect h n

pub did_spent : (d : Done) (old new : Text) (w : World) (a : Act)
    → Does d old new w a → effect.Spent ≡ a.effect → PIECE_LIMIT < length old + length d.text
did_spent d old new w a h e = subst (DoesAs d old new w a) (sym e) h

-- Reading goes on once an action is carried out.
abbrev carrying_on : Story → List Frame → Frame → Done → Run → Out
carrying_on g fs f d r =
    after_action g (deeper g (length fs)) (length fs) f (next_of g fs f) (past_of g fs f) d.act.effect (carried_out d r)

-- An action is carried out.
pub act_at : (g : Story) (fs : List Frame) (f : Frame) (d : Done) (s s' : Surroundings) (m m' : OpenTables) (a : Act) (r : Run)
    → length s.piece + length d.text ≤ PIECE_LIMIT → s'.piece ≡ s.piece ++ d.text → s'.world ≡ d.world → a ≡ d.act
    → s'.pending ≡ record s.pending { bytes = if a.drop_line then [] else s.pending.bytes }
    → m'.turning ≡ (if a.cancel_loop then None else m.turning)
    → loop_resolved g fs (acts g (deeper g (length fs)) (length fs) f (next_of g fs f) (past_of g fs f) d (run_held (having s m) r))
    ≡ acted_at g fs f a.effect (run_held (having s' m') r)
act_at g fs f d s s' m m' a r low ep ew ea eq eo =
    ap (loop_resolved g fs) (fit (run_held (having s m) r) d.text (carrying_on g fs f d) low) ∙ rw (eq, eo, ep, ew, ea) refl

-- An action that isn't spent is carried out, and reading goes on.
pub act_follows : (g : Story) (old mid : OpenTables) (f : Frame) (c : Condact) (s s' : Surroundings) (a : Act) (r : Run)
    → is_condition c ≡ false → Does (effect_of g s.world c) s.piece s'.piece s'.world a → (a.effect ≡ effect.Spent → ⊥)
    → s'.pending ≡ record s.pending { bytes = if a.drop_line then [] else s.pending.bytes }
    → mid ≡ record old { turning = if a.cancel_loop then None else old.turning }
    → one_at g (below old.frames) f c (run_held (having s old) r)
    ≡ acted_at g (below mid.frames) f a.effect (run_held (having s' mid) (step_noted f c true r))
act_follows g old mid f c s s' a r kind does unspent eq em =
    let d = effect_of g s.world c in
    let m = did d s.piece s'.piece s'.world a does unspent in
    let cancelled : OpenTables = record old { turning = if a.cancel_loop then None else old.turning } in
    rw em
    (one_acts g (below old.frames) f c (run_held (having s old) r) kind
    ∙ act_at g (below old.frames) f d s s' old cancelled a (step_noted f c true r) m.0 m.1 m.2 m.3 eq refl)

spent_or_not : (e : Effect) → (e ≡ effect.Spent) ⊎ (e ≡ effect.Spent → ⊥)
spent_or_not effect.Spent = inl refl
spent_or_not _ = inr (λ h. cc)

-- An action whose text doesn't fit.
pub act_spends : (g : Story) (old : OpenTables) (f : Frame) (c : Condact) (s s' : Surroundings) (a : Act) (r : Run)
    → is_condition c ≡ false → Does (effect_of g s.world c) s.piece s'.piece s'.world a → effect.Spent ≡ a.effect
    → one_at g (below old.frames) f c (run_held (having s old) r) ≡ halts (halt.Spent spent.Text) (step_noted f c true (run_held (having s old) r))
act_spends g old f c s s' a r kind does is =
    let d = effect_of g s.world c in
    one_acts g (below old.frames) f c (run_held (having s old) r) kind
    ∙ ask_spent g (below old.frames) d.text (carrying_on g (below old.frames) f d) (step_noted f c true (run_held (having s old) r))
    (did_spent d s.piece s'.piece s'.world a does is)

-- ---- what one condact is ----

-- A machine that moved in its tables has read nothing.
pub moved_none : (old new : OpenTables) (fs : List Frame) (turning : Option OpenLoop) (waiting : Option Prompt)
    → new ≡ record old { frames = fs; turning = turning; waiting = waiting } → ReadsNone old new
moved_none old new fs turning waiting e =
    record { left = ap (λ (m : OpenTables). m.left) e; steps = ap (λ (m : OpenTables). m.steps) e }

-- A step, and then nothing.
pub step_then : (step : StepRow) (old mid new : OpenTables) → ReadsStep step old mid → ReadsNone mid new → ReadsStep step old new
step_then step old mid new one none = record { left = omega (arith, one.left, none.left); steps = none.steps ∙ one.steps }

module _ (g : Story) (old mid : OpenTables) (f : Frame) (c : Condact) (s : Surroundings) (left : ℕ) (steps : KeptSteps) where
  pub test_yes : (w : World) (new : OpenTables) → is_condition c ≡ true
      → truth.Yes ≡ (holds g.game s.world c).answer → w ≡ (holds g.game s.world c).world
      → ReadsStep (step_at f c true) old mid → mid ≡ record old { left = left; steps = steps }
      → new ≡ record mid { frames = record f { at = f.at + 1 } ∷ below mid.frames }
      → ReadsOne g (below old.frames) f c (having s old) None (having (record s { world = w }) new)
  test_yes w new kind answer is one em en = (
    true,
    step_then (step_at f c true) old mid new one (moved_none _ _ _ _ _ en),
    λ r. rw (en, em) (test_holds g (below old.frames) f c (run_held (having s old) r) w kind answer is),
  )

  pub test_no : (w : World) (new : OpenTables) → is_condition c ≡ true
      → truth.No ≡ (holds g.game s.world c).answer → w ≡ (holds g.game s.world c).world
      → ReadsStep (step_at f c false) old mid → mid ≡ record old { left = left; steps = steps }
      → new ≡ record mid { frames = record f { entry = f.entry + 1; at = 0 } ∷ below mid.frames }
      → ReadsOne g (below old.frames) f c (having s old) None (having (record s { world = w }) new)
  test_no w new kind answer is one em en = (
    false,
    step_then (step_at f c false) old mid new one (moved_none _ _ _ _ _ en),
    λ r. rw (en, em) (test_fails g (below old.frames) f c (run_held (having s old) r) w kind answer is),
  )

  pub test_ask : (w : World) (new : OpenTables) (s' : Surroundings) (t : Option Turned) → is_condition c ≡ true
      → truth.Ask ≡ (holds g.game s.world c).answer → w ≡ (holds g.game s.world c).world
      → ReadsStep (step_at f c true) old mid → mid ≡ record old { left = left; steps = steps } → ReadsNone mid new
      → ((r : Run) → Continues g (loop_resolved g (below mid.frames)
      (printing (put_text g.game w QUIT_MESSAGE) (waits g prompt.Quit f (past_of g (below mid.frames) f))
      (run_held (having (record s { world = w }) mid) r)))
      t new.frames (run_held (having s' new) r))
      → ReadsOne g (below old.frames) f c (having s old) t (having s' new)
  test_ask w new s' t kind answer is one em none asks = (
    true,
    step_then (step_at f c true) old mid new one none,
    λ r.
        goes_from g _ _ t new.frames (step_noted f c true (run_held (having s' new) r))
        (test_asks g (below old.frames) f c (run_held (having s old) r) w kind answer is)
        (rw em at (asks (step_noted f c true r))),
  )

  -- An action is carried out, and reading goes on as its effect says. Where its text doesn't fit the machine stops.
  pub act_on : (s' s'' : Surroundings) (cancelled new : OpenTables) (a : Act) (t : Option Turned) → is_condition c ≡ false
      → Does (effect_of g s.world c) s.piece s'.piece s'.world a
      → s'.pending ≡ record s.pending { bytes = if a.drop_line then [] else s.pending.bytes }
      → ReadsStep (step_at f c true) old mid → mid ≡ record old { left = left; steps = steps }
      → cancelled ≡ record mid { turning = if a.cancel_loop then None else mid.turning } → ReadsNone cancelled new
      → ((r : Run) → Continues g (acted_at g (below cancelled.frames) f a.effect (run_held (having s' cancelled) r))
      t new.frames (run_held (having s'' new) r))
      → (a.effect ≡ effect.Spent → t ≡ Some (turned.Halted (halt.Spent spent.Text)))
      → ReadsOne g (below old.frames) f c (having s old) t (having s'' new)
  act_on s' s'' cancelled new a t kind does ep one em ec none follows stops = (
    true,
    step_then (step_at f c true) old cancelled new (step_then (step_at f c true) old mid cancelled one (moved_none _ _ _ _ _ ec)) none,
    λ r. elim (spent_or_not a.effect) [
      | inl is ↦
          stops_halted g (one_at g (below old.frames) f c (run_held (having s old) r)) t (halt.Spent spent.Text) new.frames
          (step_noted f c true (run_held (having s'' new) r)) (step_noted f c true (run_held (having s old) r)) refl (stops is)
          (act_spends g old f c s s' a r kind does (sym is))
          (record { pieces = refl; traces = refl; events = refl })
      | inr unspent ↦
          goes_from g _ _ t new.frames (step_noted f c true (run_held (having s'' new) r))
          (act_follows g old (record old { turning = if a.cancel_loop then None else old.turning }) f c s s' a r kind does unspent ep refl)
          (rw (ec, em) at (follows (step_noted f c true r)))
    ],
  )

-- ---- steps ----

-- Where nothing is read what was read stays.
pub has_still : (read : List StepRow) (old new : OpenTables) → HasRead read old → ReadsNone old new → HasRead read new
has_still read old new has none = record {
  left = omega (arith, has.left, none.left);
  steps = kept_as_said old.steps.most read new.steps (none.steps ∙ has.steps);
}

-- Nothing was read.
pub reads_nothing : (g : Story) (x : Run → Out) (old : Held) (t : Option Turned) (new : Held) → ReadsNone old.machine new.machine
    → ((r : Run) → Continues g (x (run_held old r)) t new.machine.frames (run_held new r)) → ReadsTable g x old t new
reads_nothing g x old t new none h r has = (
  [],
  rw (append-nil r.read) (has_still r.read old.machine new.machine has none),
  λ lines. rw (append-nil r.read) (h (to_come lines r)),
)

-- What reads the same as something reads as it does.
pub reads_from : (g : Story) (x y : Run → Out) (old : Held) (t : Option Turned) (new : Held) → ((r : Run) → x (run_held old r) ≡ y (run_held old r))
    → ReadsTable g y old t new → ReadsTable g x old t new
reads_from g x y old t new h k r has =
    let m = k r has in
    (m.0, m.1, λ lines. goes_from g _ _ t new.machine.frames _ (h (to_come lines r)) (m.2 lines))

-- A machine that moved in its tables has read the same.
pub reads_moved : (g : Story) (x : Run → Out) (old : Held) (fs : List Frame) (t : Option Turned) (new : Held)
    → ReadsTable g x (record old { machine = record old.machine { frames = fs } }) t new → ReadsTable g x old t new
reads_moved g x old fs t new k r has = k r (record { left = has.left; steps = has.steps })

-- The steps with one more.
more_read : (read : List StepRow) (step : StepRow) (old new : OpenTables) → HasRead read old → ReadsStep step old new → HasRead (read ++ step ∷ []) new
more_read read step old new has one = record {
  left = omega (arith, has.left, one.left, length-append read (step ∷ []));
  steps = kept_as_said old.steps.most (read ++ step ∷ []) new.steps
      (one.steps ∙ ap (λ (kept : KeptSteps). noted_step step kept) has.steps ∙ kept_noted old.steps.most read step);
}

-- A condact was read.
pub reads_one : (g : Story) (f : Frame) (c : Condact) (old : Held) (t : Option Turned) (new : Held) → condact_at g.game f.table f.entry f.at ≡ Some c
    → 0 < old.machine.left → ReadsOne g (below old.machine.frames) f c old t new → ReadsTable g (reading_at g (below old.machine.frames) f) old t new
reads_one g f c old t new is may one r has = (
  step_at f c one.0 ∷ [],
  more_read r.read (step_at f c one.0) old.machine new.machine has one.1,
  λ lines.
      goes_from g _ _ t new.machine.frames _
      (reading_condact g (below old.machine.frames) f (run_held old (to_come lines r)) c is (omega (arith, has.left, may)))
      (one.2 (to_come lines r)),
)

-- The budget is used up.
pub reads_spent : (g : Story) (fs : List Frame) (f : Frame) (c : Condact) (old : Held) (t : Option Turned) (new : Held)
    → condact_at g.game f.table f.entry f.at ≡ Some c → old.machine.left ≡ 0 → ReadsNone old.machine new.machine
    → t ≡ Some (turned.Halted (halt.Spent spent.Condacts)) → ReadsTable g (reading_at g fs f) old t new
reads_spent g fs f c old t new is none same e r has = (
  [],
  rw (append-nil r.read) (has_still r.read old.machine new.machine has same),
  λ lines.
      stops_halted g _ t (halt.Spent spent.Condacts) new.machine.frames _ (to_come lines (run_held old r)) refl e
      (reading_none g fs f (to_come lines (run_held old r)) c is (omega (arith, has.left, none)))
      (record { pieces = refl; traces = refl; events = refl }),
)

-- One reading after another.
pub reads_on : (g : Story) (x : Run → Out) (old mid : Held) (t : Option Turned) (new : Held) → ReadsTable g x old None mid
    → ReadsTable g (going_in g mid.machine.frames) mid t new → ReadsTable g x old t new
reads_on g x old mid t new h k r has =
    let m = h r has in
    let n = k (with_steps m.0 r) m.1 in (
      m.0 ++ n.0,
      subst (λ (s : List StepRow). HasRead s new.machine) (append_assoc r.read m.0 n.0) n.1,
      λ lines.
          goes_from g _ _ t new.machine.frames _ (m.2 lines)
          (subst (λ (s : List StepRow). Continues g (going_in g mid.machine.frames (to_come lines (run_held mid (with_steps m.0 r)))) t new.machine.frames
          (to_come lines (run_held new (record r { read = s })))) (append_assoc r.read m.0 n.0) (n.2 lines)),
    )

-- A run that shows what is held is the run with it.
showing_shown : (r : Run) (h : Held) → ShowsHeld r h → run_held h r ≡ r
showing_shown r h s = rw (← s.world, ← s.pending, ← s.earlier, ← s.turning, ← s.current) refl

-- What was read, for every run that shows what was held.
pub runs_to : (g : Story) (old : Held) (t : Turned) (new : Held) → ReadsTable g (going_in g old.machine.frames) old (Some t) new → RunsTo g old t new
runs_to g old t new h r s =
    let m = h r s.read in (
      m.0,
      m.1,
      λ lines.
          subst (λ (q : Run). ComesTo g t new.machine.frames (to_come lines (run_held new (with_steps m.0 r)))
          (going_in g old.machine.frames (to_come lines q))) (showing_shown r old s) (m.2 lines),
    )
