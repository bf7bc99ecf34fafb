-- Turns with more lines are turns with fewer, and then going on from where these wait.
use Rattle.std.proofs.Common.{◌≡◌, ◌≢◌, ℕ, ◌+◌, Bool, true, false, List, [], ◌++◌, inl, inr}
use Rattle.std.proofs.Common.{None, refl, sym, ◌∙◌, subst, arith}
use Rattle.paw_base.specs.Bytes.{Lines}
use Rattle.paw_effects.specs.Story.{Story}
use Rattle.paw_effects.specs.declared.act.Prompt.{Prompt}
use Rattle.paw_effects.specs.declared.act.Prompt.TheVariants as prompt
use Rattle.paw_reading.specs.declared.frames.Frame.{Frame}
use Rattle.paw_reading.specs.Run.{Run}
use Rattle.paw_reading.specs.Reading.{Out, Left, Waits, Stopped, deeper, table_read}
use Rattle.paw_reading.specs.GoingOn.{on_path}
use Rattle.paw_reading.specs.inner.GoingOn.{with_lines, out_followed}
use Rattle.paw_reading.specs.Turn.{TurnPhase, AtDescribe, Ending, WaitsAt, Halted}
use Rattle.paw_reading.specs.Turn.{Unended}
use Rattle.paw_reading.specs.Turn.{table_done, turn, phases_left, turns_from, opening}
use Rattle.paw_reading.specs.Turn.{first_table, goes_on}
use Rattle.paw_reading.specs.inner.Turn.{ending_followed, GoingOnIsReading}
use Rattle.paw_reading.specs.inner.Longer.{TurnsGoOn}
use Rattle.paw_reading.specs.inner.Waits.{IsLoopOf}
use Rattle.paw_reading.proofs.LeavesLoop.{LeavesLoop, reads_leaves_loop, deeper_leaves_loop}
use Rattle.paw_reading.proofs.Stops.{Stops, rest_stops}
use Rattle.paw_reading.proofs.Stays.{IsInner, Stays, rest_stays}
use Rattle.paw_reading.proofs.Longer.{tables_go_on}
use Rattle.paw_reading.proofs.EachStep.{Beside}
use Rattle.paw_reading.proofs.EachPhase.{TurnRelation, TurnSteps, EndAlike, turns}
use Rattle.paw_reading.proofs.Ends.{done_more, main_more, turns_end, ends_once, going_on_ends}

-- No loop is open where a table was left that was begun with none.
left_none : (a : Bool) (r : Run) → LeavesLoop None (Left a r) → r.turning ≡ None
left_none a r (inl h) = h
left_none a r (inr h) = h

module _ (g : Story) (lines : Lines) where
  -- Going on with these lines, in at most m phases more.
  abbrev pub goes_from : ℕ → Ending → Ending
  goes_from m (WaitsAt p path r) = goes_on g m p path (with_lines lines r)
  goes_from m (Halted halt r) = Halted halt (with_lines lines r)
  goes_from m Unended = Unended

  -- Where going on ends, the turn with more lines ends in the same way.
  abbrev Follows : ℕ → Ending → Ending → Type 0
  Follows m x y = goes_from m x ≢ Unended → y ≡ goes_from m x

  module _ (m : ℕ) where
    -- The other run has these lines after its own.
    abbrev followed : Beside
    followed = record {
      pieces = λ ps. ps;
      traces = λ ts. ts;
      events = λ es. es ++ lines;
      closes = λ ps p. refl;
      traced = λ ts t. refl;
      takes = λ line es. refl;
    }

    abbrev WaitsOn : Prompt → List Frame → Run → Out → Type 0
    WaitsOn p path r x = x ≡ on_path g p 0 path (with_lines lines r)

    -- What is known of how a table ends that was begun with no loop.
    abbrev IsKnown : ℕ → Out → Type 0
    IsKnown t z = LeavesLoop None z × (Stops z × Stays t 0 z)

    known : (t : ℕ) (r : Run) → r.turning ≡ None → IsKnown t (table_read g t r)
    known t r none = (
      subst (λ o. LeavesLoop o (table_read g t r)) none (reads_leaves_loop g (deeper g 0) 0 (deeper_leaves_loop g 0) t 0 0 false r),
      (rest_stops g 0 t 0 0 false r, rest_stays t g 0 t 0 0 (λ z. refl) false r (subst (IsLoopOf t) (sym none) tt)),
    )

    tables_follow : (t : ℕ) (r : Run) → EndAlike followed WaitsOn (table_read g t (with_lines lines r)) (table_read g t r)
    tables_follow t r = rw (tables_go_on g lines 0 t 0 0 false r) (by_end (table_read g t r))
      where
        by_end : (x : Out) → EndAlike followed WaitsOn (out_followed g lines 0 x) x
        by_end (Left a s) = refl
        by_end (Waits p path s) = refl
        by_end (Stopped stop s) = refl

    -- n phases, and then m.
    abbrev follows : TurnRelation
    follows = record {
      phase = λ n s r x y. r.turning ≡ None → Follows m y x;
      after = λ n t z x y. IsKnown t z → Follows m y x;
      prompt = λ n r es x y. r.turning ≡ None → Follows m y x;
    }

    -- A wait in table t.
    waits_follow : (n t : ℕ) (p : Prompt) (path : List Frame) (r : Run) → IsInner p → first_table path ≡ t →
        Follows m (WaitsAt p path r) (table_done g (turn g (m + n)) t (on_path g p 0 path (with_lines lines r)))
    waits_follow n t prompt.Main path r inner e k = absurd inner
    waits_follow n t prompt.Quit path r inner e k =
        subst (λ u. table_done g (turn g (m + n)) u (on_path g prompt.Quit 0 path (with_lines lines r)) ≡ goes_on g m prompt.Quit path (with_lines lines r)) e
        (done_more g n m (first_table path) (on_path g prompt.Quit 0 path (with_lines lines r)) k)
    waits_follow n t prompt.Again path r inner e k =
        subst (λ u. table_done g (turn g (m + n)) u (on_path g prompt.Again 0 path (with_lines lines r)) ≡ goes_on g m prompt.Again path (with_lines lines r)) e
        (done_more g n m (first_table path) (on_path g prompt.Again 0 path (with_lines lines r)) k)
    waits_follow n t prompt.Key path r inner e k =
        subst (λ u. table_done g (turn g (m + n)) u (on_path g prompt.Key 0 path (with_lines lines r)) ≡ goes_on g m prompt.Key path (with_lines lines r)) e
        (done_more g n m (first_table path) (on_path g prompt.Key 0 path (with_lines lines r)) k)
    waits_follow n t prompt.Over path r inner e k = absurd inner

    steps : TurnSteps g followed (λ n. m + n) WaitsOn follows
    steps = record {
      unended = λ s r none e. absurd (e refl);
      describes = λ n r. (λ fit x y h none. h (known 1 _ none), λ long none e. refl);
      frames = λ n r x y h none. h (known 2 r none);
      responds = λ n r x y h none. h (known 0 r none);
      sentence = λ n r s left x y e h. h;
      unknown = λ n r left e. (λ fit x y h. h, λ long none q. refl);
      no_phrase = λ n r e. (λ fit x y h. h, λ long none q. refl);
      acted = λ n r x y h k. h (left_none true r k.0);
      leaves = λ n to r x y e h k. h (left_none false r k.0);
      refuses = λ n r e. (λ fit x y h k. h (left_none false r k.0), λ long k q. refl);
      described_so = λ n a r x y h k. h (left_none a r k.0);
      framed = λ n t a r x y h k. h (left_none a r k.0);
      waits = λ n t p path r x is k e. rw is (waits_follow n t p path r k.1.1.inner (k.1.1.first refl) e);
      again = λ n t r x y h k. h k.1.0;
      restarts = λ n t r x y h k. h k.1.0;
      halts = λ n t halt r k e. refl;
      awaits = λ n r none e. main_more g n m (with_lines lines (record r { events = [] })) e;
      ignored = λ n r line es x y h. h;
      times_out = λ n r line es. (λ fit x y h. h, λ long none e. refl);
      takes_line = λ n r line es x y h. h;
    }

  turn_follows : (n m : ℕ) (s : TurnPhase) (r : Run) → r.turning ≡ None → Follows m (turn g n s r) (turn g (m + n) s (with_lines lines r))
  turn_follows n m s r none = turns g (followed m) (λ j. m + j) (λ j. omega arith) (WaitsOn m) (tables_follow m) (follows m) (steps m) n s r none

  -- A number of phases with which going on ends.
  enough : (m : ℕ) (s : TurnPhase) (r : Run) → r.turning ≡ None → goes_from m (turns_from g s r) ≢ Unended →
      turns_from g s (with_lines lines r) ≡ goes_from m (turns_from g s r)
  enough m s r none h =
      let e : turn g (m + phases_left r) s (with_lines lines r) ≡ goes_from m (turns_from g s r) = turn_follows (phases_left r) m s r none h in
      sym (ends_once g (m + phases_left r) s (with_lines lines r) (λ u. h (sym e ∙ u))) ∙ e

-- The turns with more lines.
pub turns_go_on : TurnsGoOn
turns_go_on g lines s r none = by_ending (turns_from g s r) refl
  where
    at : (m : ℕ) (x : Ending) → turns_from g s r ≡ x → goes_from g lines m x ≢ Unended → turns_from g s (with_lines lines r) ≡ goes_from g lines m x
    at m x e h = subst (λ y. goes_from g lines m y ≢ Unended → turns_from g s (with_lines lines r) ≡ goes_from g lines m y) e (enough g lines m s r none) h

    by_ending : (x : Ending) → turns_from g s r ≡ x → turns_from g s (with_lines lines r) ≡ ending_followed g lines x
    by_ending (WaitsAt p path q) e = at (phases_left (with_lines lines q)) (WaitsAt p path q) e (going_on_ends g p path (with_lines lines q))
    by_ending (Halted halt q) e = at 0 (Halted halt q) e (λ u. cc)
    by_ending Unended e = absurd (turns_end g s r e)

-- Reading more lines is reading some, and going on with the others.
pub going_on_is_reading : GoingOnIsReading
going_on_is_reading g seed es fs = turns_go_on g fs AtDescribe (opening g seed es) refl
