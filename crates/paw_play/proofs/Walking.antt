-- A walk, line by line.
use Rattle.paw_play.proofs.Names.{◌≡◌, ℕ, zero, suc, ◌+◌, ◌≤◌, ◌<◌, List, [], ◌∷◌, ◌++◌, Option, Some, None, refl, sym, ap, ◌∙◌, subst, length, take, drop, map, arith, append_assoc, length-append, append-nil, length-reverse, take-append-drop, reverse, concat, Bytes, Line, Lines, Texts, Seed, Text, EVENT_LIMIT, LINE_LIMIT, Standing, Prompt, Frame, Run, StepRow, Halt, WaitsAt, reading, going_on_from, text_of, OpenTables, World, PlayerView, run_at, PlayHalts, PlaysTo, StandsAt, StandsClosed, IsSeated, IsNew, Step, PlayEnd, EndingOf, first_lines, with_lines_taken, text_before, PartShown, WalkWaits, WalkHalts, ShowSteps, seat_text, shown_pieces, HaveSteps, NotesShown, shown_run, shown_ending, with_shown_steps, IsStanding, IsWalking, ShowsStep, WalksTo, Story, map-append, length-drop, TakesLines, Ending, Halted, Waits, prompt_asked, on_path, at_main, plays_halted}
use Rattle.paw_effects.specs.declared.act.Prompt.TheVariants as prompt
use Rattle.paw_reading.specs.declared.halt.Halt.TheVariants as halt
use Rattle.paw_turn.specs.declared.Step.TheVariants as step
use Rattle.paw_play.specs.declared.PlayEnd.TheVariants as end
use Rattle.paw_stage.specs.declared.StageCall.TheVariants as call
use Rattle.paw_play.proofs.ShownSteps.{pieces_more, shown_more, steps_more, shown_none, steps_none, waits_shown, halts_shown, same_lines, text_shown_is}

-- ---- lines ----

-- The line after the first n lines is this one.
take_more : (lines : Lines) (n : ℕ) (line : Line) (rest : Lines) → drop n lines ≡ line ∷ rest → take (suc n) lines ≡ take n lines ++ line ∷ []
take_more [] zero line rest h = cc
take_more [] (suc n) line rest h = cc
take_more (l ∷ lines) zero line rest h = let e : l ≡ line = cc in rw e refl
take_more (l ∷ lines) (suc n) line rest h = ap (λ xs. l ∷ xs) (take_more lines n line rest h)

pub drop_more : (lines : Lines) (n : ℕ) (line : Line) (rest : Lines) → drop n lines ≡ line ∷ rest →
    (drop (suc n) lines ≡ rest) × (suc n ≤ length lines)
drop_more [] zero line rest h = cc
drop_more [] (suc n) line rest h = cc
drop_more (l ∷ lines) zero line rest h = let e : lines ≡ rest = cc in (e, omega arith)
drop_more (l ∷ lines) (suc n) line rest h = let m = drop_more lines n line rest h in (m.0, omega (arith, m.1))

pub drop_all : (lines : Lines) (n : ℕ) → drop n lines ≡ [] → n ≤ length lines → n ≡ length lines
drop_all lines n h k = omega (arith, k, ap length h, length-drop n lines)

-- The lines that come after one more.
pub lines_more : (lines : Lines) (n : ℕ) (line : Line) (rest more : Lines) → drop n lines ≡ line ∷ rest →
    first_lines (suc n) lines ++ more ≡ first_lines n lines ++ take LINE_LIMIT line ∷ more
lines_more lines n line rest more h =
    ap (λ xs. map (take LINE_LIMIT) xs ++ more) (take_more lines n line rest h)
    ∙ ap (λ xs. xs ++ more) (map-append (take LINE_LIMIT) (take n lines) (line ∷ []))
    ∙ append_assoc (first_lines n lines) (take LINE_LIMIT line ∷ []) more

-- ---- what stands ----

played_more : (old : Standing) (n : ℕ) (text part line : Bytes) (rest : Lines) → drop n old.lines ≡ line ∷ rest →
    record (with_lines_taken old n text) { lines = rest; asked = old.asked + n + 1; shown = (old.shown ++ text) ++ part }
    ≡ with_lines_taken old (suc n) (text ++ part)
played_more old n text part line rest h =
    let m = drop_more old.lines n line rest h in
    let a : old.asked + n + 1 ≡ old.asked + suc n = omega arith in
    let s : (old.shown ++ text) ++ part ≡ old.shown ++ (text ++ part) = append_assoc old.shown text part in
    rw (a, s, m.0) refl

-- Once a line was taken and a text shown.
pub stands_after : (first now mid new : Standing) (n : ℕ) (text part line : Bytes) → now ≡ with_lines_taken first n text → now.lines ≡ line ∷ mid.lines →
    mid ≡ record now { lines = mid.lines; asked = now.asked + 1 } → new ≡ record mid { shown = mid.shown ++ part } →
    new ≡ with_lines_taken first (suc n) (text ++ part)
stands_after first now mid new n text part line e l m s =
    let d : drop n first.lines ≡ line ∷ mid.lines = ap (λ (q : Standing). q.lines) (sym e) ∙ l in
    s ∙ ap (λ (q : Standing). record q { shown = q.shown ++ part }) m
    ∙ ap (λ (q : Standing). record q { lines = mid.lines; asked = q.asked + 1; shown = q.shown ++ part }) e
    ∙ played_more first n text part line mid.lines d

-- ---- prompts with no line left ----

path_waits : (g : Story) (p : Prompt) (lv : ℕ) (path : List Frame) (r : Run) → 0 < length path →
    on_path g p lv path (record r { events = [] }) ≡ Waits p path (record r { events = [] })
unfolding prompt_asked
path_waits g p lv [] r h = absurd (omega arith)
path_waits g p lv (f ∷ []) r h = refl
path_waits g p lv (f ∷ b ∷ path) r h = rw (path_waits g p (suc lv) (b ∷ path) r (omega arith)) refl

some_path : (frames : List Frame) → 0 < length frames → 0 < length (reverse frames)
some_path frames h = omega (arith, length-reverse frames)

-- A player that waits, with no line left.
pub on_waits : (g : Story) (p : Prompt) (m : OpenTables) (r : Run) → StandsAt p m →
    going_on_from g p (reverse m.frames) (record r { events = [] }) ≡ WaitsAt p (reverse m.frames) (record r { events = [] })
unfolding at_main
on_waits g prompt.Main m r h = ap (λ fs. going_on_from g prompt.Main (reverse fs) (record r { events = [] })) h.frames
    ∙ ap (λ fs. WaitsAt prompt.Main (reverse fs) (record r { events = [] })) (sym h.frames)
on_waits g prompt.Quit m r h = rw (path_waits g prompt.Quit 0 (reverse m.frames) r (some_path m.frames h.tables.tables.some)) refl
on_waits g prompt.Again m r h = rw (path_waits g prompt.Again 0 (reverse m.frames) r (some_path m.frames h.tables.tables.some)) refl
on_waits g prompt.Key m r h = rw (path_waits g prompt.Key 0 (reverse m.frames) r (some_path m.frames h.tables.tables.some)) refl
on_waits g prompt.Over m r h = absurd h

-- ---- a step ----

-- The text of a step that brings a piece.
pub text_shown : {F : Type 0} (showing : ShowSteps) (g : Story) (whole : EndingOf) (s : Step) (next : PlayerView F)
    (pieces : Texts) (traces : List (List StepRow)) → HaveSteps showing pieces traces → NotesShown showing next.machine.steps.most → IsStanding s → StandsClosed s next.machine →
    PlaysTo g whole s next pieces traces →
    text_of (with_shown_steps showing whole []) ≡ concat (shown_pieces showing pieces traces) ++ seat_text showing next
text_shown showing g whole (step.Waits p) next pieces traces each keeps h m plays =
    let r : Run = run_at next (pieces ++ next.piece ∷ []) (traces ++ plays.0 ∷ []) [] in
    ap (λ e. text_of (shown_ending showing e)) (plays.1.1 [] ∙ on_waits g p next.machine r m)
    ∙ ap text_of (waits_shown showing p (reverse next.machine.frames) r)
    ∙ shown_more showing next pieces traces plays.0 each keeps plays.1.0
text_shown showing g whole step.Ended next pieces traces each keeps h m plays =
    let r : Run = run_at next (pieces ++ next.piece ∷ []) (traces ++ plays.0 ∷ []) [] in
    ap (λ e. text_of (shown_ending showing e)) (plays.1.1 []) ∙ ap text_of (halts_shown showing halt.Over r)
    ∙ shown_more showing next pieces traces plays.0 each keeps plays.1.0
text_shown showing g whole (step.Spent kind) next pieces traces each keeps h m plays = absurd h
text_shown showing g whole (step.TooDeep u) next pieces traces each keeps h m plays = absurd h

-- Nothing more is shown.
pub shown_nothing : (mid : Standing) → mid ≡ record mid { shown = mid.shown ++ [] }
shown_nothing mid = ap (λ t. record mid { shown = t }) (sym (append-nil mid.shown))

-- How a step ends after n lines, where `after` is the reading of those that are left then.
module _ {F : Type 0} (showing : ShowSteps) (g : Story) (whole after : EndingOf) (n : ℕ) (first mid new : Standing) (next : PlayerView F) (s : Step)
    (pieces : Texts) (traces : List (List StepRow)) (each : HaveSteps showing pieces traces)
    (keeps : NotesShown showing next.machine.steps.most)
    (last : next.last ≡ s) (seated : IsSeated next) (there : n ≤ length first.lines)
    (whole_after : (more : Lines) → whole (first_lines n first.lines ++ more) ≡ after more)
    (earlier : text_before (with_shown_steps showing whole) first.lines n ≡ concat (shown_pieces showing pieces traces))
    (stands_with : (part : Text) → new ≡ record mid { shown = mid.shown ++ part } →
    new ≡ with_lines_taken first n (concat (shown_pieces showing pieces traces) ++ part))
    (plays : PlaysTo g after s next pieces traces) where
  read_all : whole (first_lines n first.lines) ≡ after []
  read_all = ap whole (sym (append-nil (first_lines n first.lines))) ∙ whole_after []

  -- Part of the text was shown.
  shown_part : IsStanding s → 0 < length (seat_text showing next) → (m : ℕ) →
      new ≡ record mid { shown = mid.shown ++ take m (seat_text showing next) } → PartShown (with_shown_steps showing whole) first new n
  shown_part shows some m e = record {
    shown = concat (shown_pieces showing pieces traces) ++ take m (seat_text showing next);
    rest = drop m (seat_text showing next);
    part = append_assoc (concat (shown_pieces showing pieces traces)) (take m (seat_text showing next)) (drop m (seat_text showing next))
        ∙ ap (λ t. concat (shown_pieces showing pieces traces) ++ t) (take-append-drop m (seat_text showing next)) ∙ sym all;
    last = take m (seat_text showing next);
    before = ap (λ t. t ++ take m (seat_text showing next)) (sym earlier);
    grows = omega (arith, some, ap length earlier, ap length all ∙ length-append (concat (shown_pieces showing pieces traces)) (seat_text showing next));
    there = there;
    stands = stands_with (take m (seat_text showing next)) e;
  }
    where
      machine_stands : StandsClosed s next.machine
      machine_stands = subst (λ q. StandsClosed q next.machine) last seated.machine

      all : text_of (with_shown_steps showing whole (first_lines n first.lines)) ≡ concat (shown_pieces showing pieces traces) ++ seat_text showing next
      all = ap (λ e. text_of (shown_ending showing e)) read_all ∙ text_shown showing g after s next pieces traces each keeps shows machine_stands plays

  -- The reading of the lines ends this way, and its text was shown.
  takes : (e shown : Ending) (part : Text) → after [] ≡ e → shown_ending showing e ≡ shown → new ≡ record mid { shown = mid.shown ++ part } →
      text_of shown ≡ concat (shown_pieces showing pieces traces) ++ part → TakesLines (with_shown_steps showing whole) first new n shown
  takes e shown part ends is told text = record {
    reading = ap (shown_ending showing) (read_all ∙ ends) ∙ is;
    there = there;
    stands = stands_with part told ∙ ap (with_lines_taken first n) (sym text);
  }

  -- It has ended for good, and no more was shown.
  halts : (most : ℕ) → n ≤ most → (halt : Halt) → PlayHalts after halt next pieces traces → new ≡ mid →
      WalkHalts (with_shown_steps showing whole) most first new halt
  halts most few halt stopped same =
      let e = stopped.1 [] in
      let text = text_shown_is showing e.0 pieces traces e.2 e.3 ∙ sym (append-nil (concat (shown_pieces showing pieces traces))) in
      let ends = takes (Halted halt e.0) (Halted halt (shown_run showing e.0)) [] e.1 (halts_shown showing halt e.0) (same ∙ shown_nothing mid) text in
      (n, few, shown_run showing e.0, same_lines showing e.0 ∙ e.4, ends)

  pub comes_to : (most : ℕ) → n ≤ most → (o : Option PlayEnd) → ShowsStep mid new (seat_text showing next) s o →
      WalksTo showing g whole most first new next n o
  comes_to most few None told =
      let at : PlaysTo g after (step.Waits told.0) next pieces traces = subst (λ q. PlaysTo g after q next pieces traces) told.1 plays in
      record {
        prompt = told.0;
        waits = last ∙ told.1;
        pieces = pieces ++ next.piece ∷ [];
        traces = traces ++ at.0 ∷ [];
        each = steps_more showing pieces traces next.piece at.0 each;
        keeps = keeps;
        goes_on = λ more. whole_after more ∙ at.1.1 more;
        there = there;
        stands = stands_with (seat_text showing next) told.2
            ∙ ap (with_lines_taken first n) (sym (pieces_more showing next pieces traces at.0 each keeps at.1.0));
      }
  comes_to most few (Some end.Ended) told =
      let at : PlaysTo g after step.Ended next pieces traces = subst (λ q. PlaysTo g after q next pieces traces) told.0 plays in
      let r : Run = run_at next (pieces ++ next.piece ∷ []) (traces ++ at.0 ∷ []) [] in
      let text = shown_more showing next pieces traces at.0 each keeps at.1.0 in
      let ends = takes (Halted halt.Over r) (Halted halt.Over (shown_run showing r)) (seat_text showing next) (at.1.1 [])
      (halts_shown showing halt.Over r) told.1 text in
      (n, few, shown_run showing r, same_lines showing r, ends)
  comes_to most few (Some (end.Spent kind)) told =
      halts most few (halt.Spent kind) (plays_halted g after s next pieces traces (halt.Spent kind) told.0 refl plays) told.1
  comes_to most few (Some (end.TooDeep table)) told =
      halts most few (halt.TooDeep table) (plays_halted g after s next pieces traces (halt.TooDeep table) told.0 refl plays) told.1
  comes_to most few (Some (end.Outside call.Show)) told = (n, few, shown_part told.0 told.1 told.2 told.3)
  comes_to most few (Some _) told = absurd told

-- ---- a walk at a prompt ----

module _ {F : Type 0} {showing : ShowSteps} {g : Story} {whole : EndingOf} {n : ℕ} {first now : Standing} {seat : PlayerView F}
    (w : IsWalking showing g whole first now seat n) (seated : IsSeated seat) where
  -- What was read of the lines so far waits, and its text was shown.
  waiting : WalkWaits (with_shown_steps showing whole) first now n
  waiting =
      let stands : StandsAt w.prompt seat.machine = subst (λ s. StandsClosed s seat.machine) w.waits seated.machine in
      let path : List Frame = reverse seat.machine.frames in
      let r : Run = run_at seat w.pieces w.traces [] in
      let takes : TakesLines (with_shown_steps showing whole) first now n (WaitsAt w.prompt path (shown_run showing r)) = record {
        reading = ap (with_shown_steps showing whole) (sym (append-nil (first_lines n first.lines)))
            ∙ ap (shown_ending showing) (w.goes_on [] ∙ on_waits g w.prompt seat.machine r stands) ∙ waits_shown showing w.prompt path r;
        there = w.there;
        stands = w.stands ∙ ap (with_lines_taken first n) (sym (text_shown_is showing r w.pieces w.traces refl refl));
      } in
      (w.prompt, path, shown_run showing r, takes)

  -- No line is left, or none can be asked for.
  pub none_left : (most : ℕ) (new : Standing) → n < most → (now.lines ≡ []) × (new ≡ now) →
      (length first.lines < most) × WalkWaits (with_shown_steps showing whole) first new (length first.lines)
  none_left most new few e =
      let all : n ≡ length first.lines = drop_all first.lines n (ap (λ (q : Standing). q.lines) (sym w.stands) ∙ e.0) w.there in (
        omega (arith, all, few),
        subst (λ q. WalkWaits (with_shown_steps showing whole) first q (length first.lines)) (sym e.1)
            (subst (WalkWaits (with_shown_steps showing whole) first now) all waiting),
      )

  pub none_asked : (most : ℕ) (new : Standing) → n < most → new ≡ now → (m : ℕ) × (m < most) × WalkWaits (with_shown_steps showing whole) first new m
  none_asked most new few e = (n, few, subst (λ q. WalkWaits (with_shown_steps showing whole) first q n) (sym e) waiting)

  -- All the lines that a session may have were taken.
  pub long_walk : (most : ℕ) → n ≡ most → (EVENT_LIMIT ≡ EVENT_LIMIT) × WalkWaits (with_shown_steps showing whole) first now most
  long_walk most all = (refl, subst (WalkWaits (with_shown_steps showing whole) first now) all waiting)

  -- The text of what was read of the lines so far.
  text_so_far : text_of (with_shown_steps showing whole (first_lines n first.lines)) ≡ concat (shown_pieces showing w.pieces w.traces)
  unfolding waiting
  text_so_far =
      let at = waiting in ap text_of at.3.reading ∙ text_shown_is showing (run_at seat w.pieces w.traces []) w.pieces w.traces refl refl

  -- One line more.
  module _ (mid : Standing) (given line : Bytes) (lines : now.lines ≡ line ∷ mid.lines) (cut : given ≡ take LINE_LIMIT line) where
    line_stands : drop n first.lines ≡ line ∷ mid.lines
    line_stands = ap (λ (q : Standing). q.lines) (sym w.stands) ∙ lines

    whole_after : (more : Lines) → whole (first_lines (suc n) first.lines ++ more)
        ≡ going_on_from g w.prompt (reverse seat.machine.frames) (run_at seat w.pieces w.traces (given ∷ more))
    whole_after more =
        ap whole (lines_more first.lines n line mid.lines more line_stands) ∙ w.goes_on (take LINE_LIMIT line ∷ more)
        ∙ ap (λ l. going_on_from g w.prompt (reverse seat.machine.frames) (run_at seat w.pieces w.traces (l ∷ more))) (sym cut)

    pub walks_on : (most : ℕ) (new : Standing) (next : PlayerView F) (s : Step) (o : Option PlayEnd) → n < most →
        NotesShown showing next.machine.steps.most → IsSeated next → next.last ≡ s → mid ≡ record now { lines = mid.lines; asked = now.asked + 1 } →
        PlaysTo g (λ more. going_on_from g w.prompt (reverse seat.machine.frames) (run_at seat w.pieces w.traces (given ∷ more))) s next w.pieces w.traces →
        ShowsStep mid new (seat_text showing next) s o → WalksTo showing g whole most first new next (suc n) o
    walks_on most new next s o few keeps then_seated last took plays told =
        comes_to showing g whole (λ more. going_on_from g w.prompt (reverse seat.machine.frames) (run_at seat w.pieces w.traces (given ∷ more)))
        (suc n) first mid new next s w.pieces w.traces w.each keeps last then_seated (drop_more first.lines n line mid.lines line_stands).1 whole_after text_so_far
        (λ part e. stands_after first now mid new n (concat (shown_pieces showing w.pieces w.traces)) part line w.stands lines took e)
        plays most (omega (arith, few)) o told

-- ---- the first piece ----

pub first_stands : (old new : Standing) (part : Text) → new ≡ record old { shown = old.shown ++ part } → new ≡ with_lines_taken old 0 part
first_stands old new part e = let a : old.asked + 0 ≡ old.asked = omega arith in e ∙ rw a refl

-- A player that was new has played piece 0: the walk is at the first prompt, or has ended this way.
pub walk_starts : {F : Type 0} (showing : ShowSteps) (g : Story) (seed : Seed) (most : ℕ) (old new : Standing) (fresh seat : PlayerView F) (s : Step)
    (o : Option PlayEnd) → IsNew fresh seed → NotesShown showing seat.machine.steps.most → IsSeated seat → seat.last ≡ s →
    PlaysTo g (reading g fresh.world.seed) s seat [] [] → ShowsStep old new (seat_text showing seat) s o →
    WalksTo showing g (reading g seed) most old new seat 0 o
walk_starts showing g seed most old new fresh seat s o is keeps seated last plays told =
    let at : fresh.world.seed ≡ seed = ap (λ (w : World). w.seed) is.world in
    comes_to showing g (reading g seed) (reading g seed) 0 old old new seat s [] [] (steps_none showing) keeps last seated (omega arith) (λ more. refl)
    (sym (shown_none showing)) (λ part e. first_stands old new part e ∙ ap (λ t. with_lines_taken old 0 (t ++ part)) (sym (shown_none showing)))
    (subst (λ n. PlaysTo g (reading g n) s seat [] []) at plays) most (omega arith) o told
