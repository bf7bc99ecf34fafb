-- Turns end, and more phases change nothing.
use Rattle.std.proofs.Common.{◌≡◌, ◌≢◌, ℕ, zero, suc, ◌+◌, ◌-◌, ◌*◌, ◌≤◌, ◌<◌, List, ◌⊎◌, inl, inr, refl, sym, length, arith}
use Rattle.paw_phrase.specs.Sentence.{IsSentence, IsUnknown}
use Rattle.paw_effects.specs.Story.{Story}
use Rattle.paw_effects.specs.declared.act.Prompt.{Prompt}
use Rattle.paw_effects.specs.declared.act.Prompt.TheVariants as prompt
use Rattle.paw_reading.specs.declared.frames.Frame.{Frame}
use Rattle.paw_reading.specs.Run.{Run}
use Rattle.paw_reading.specs.Reading.{Out, Left, Waits, Stopped, table_read}
use Rattle.paw_reading.specs.GoingOn.{on_path}
use Rattle.paw_reading.specs.Turn.{TurnPhase, AtDescribe, AtTimeFrame, AtPhrase, AtResponse, Ending, Unended, at_main, table_done, turn}
use Rattle.paw_reading.specs.Turn.{left_to_read, phases_left, first_table, goes_on}
use Rattle.paw_reading.specs.inner.Parts.{in_table}
use Rattle.paw_reading.specs.inner.Turn.{TurnsEnd, EndsOnce, GoingOnEnds, GoesOnOnce}
use Rattle.paw_reading.proofs.EachStep.{itself}
use Rattle.paw_reading.proofs.EachPhase.{TurnRelation, TurnSteps, EndAlike, AnyWait, ends_itself, turns, table_after, at_prompt}
use Rattle.paw_reading.proofs.Spends.{brought, brought_more, shorter, Spends, table_spends, path_spends}

-- ---- turns end ----

-- The most phases that are needed, this one and those after it.
abbrev pub phases_needed : TurnPhase → Run → ℕ
phases_needed AtPhrase r = 4 * left_to_read r + 1
phases_needed AtTimeFrame r = 4 * left_to_read r + 2
phases_needed AtDescribe r = 4 * left_to_read r + 3
phases_needed AtResponse r = 4 * left_to_read r + 4

-- As many are granted.
needed_granted : (s : TurnPhase) (r : Run) → phases_needed s r ≤ phases_left r
needed_granted AtPhrase r = omega arith
needed_granted AtTimeFrame r = omega arith
needed_granted AtDescribe r = omega arith
needed_granted AtResponse r = omega arith

-- How many phases a table needs after it.
abbrev pub rank_after : ℕ → ℕ
rank_after zero = 3
rank_after (suc zero) = 2
rank_after (suc (suc t)) = 1

rank_after-pos : (t : ℕ) → 1 ≤ rank_after t
rank_after-pos zero = omega arith
rank_after-pos (suc zero) = omega arith
rank_after-pos (suc (suc t)) = omega arith

-- From every phase that needs at most n phases the turn ends, after a table that spends, and at the main prompt.
abbrev ending : TurnRelation
ending = record {
  phase = λ n s r x y. phases_needed s r ≤ n → y ≢ Unended;
  after = λ n t z x y. (v : ℕ) → 4 * v + rank_after t ≤ n → Spends v z → y ≢ Unended;
  prompt = λ n r lines x y. 4 * (length r.pending + brought lines) ≤ n → y ≢ Unended;
}

ending_steps : (g : Story) → TurnSteps g itself (λ n. n) AnyWait ending
ending_steps g = record {
  unended = needs_some;
  describes = λ n r. (λ fit x y h k. h (left_to_read r) (omega (arith, k)) (table_spends g 1 _), λ long k e. cc);
  frames = λ n r x y h k. h (left_to_read r) (omega (arith, k)) (table_spends g 2 r);
  responds = λ n r x y h k. h (left_to_read r) (omega (arith, k)) (table_spends g 0 r);
  sentence = λ n r s left x y e h k. h (omega (arith, k, shorter g r (IsSentence s left) e));
  unknown = λ n r left e. (λ fit x y h k. h (omega (arith, k, shorter g r (IsUnknown left) e)), λ long k q. cc);
  no_phrase = λ n r e. (λ fit x y h k. h (omega (arith, k)), λ long k q. cc);
  acted = λ n r x y h v k s. h (omega (arith, k, s));
  leaves = λ n to r x y e h v k s. h (omega (arith, k, s));
  refuses = λ n r e. (λ fit x y h v k s. h (omega (arith, k, s)), λ long v k s q. cc);
  described_so = λ n a r x y h v k s. h (omega (arith, k, s));
  framed = λ n t a r x y h v k s. h (omega (arith, k, s));
  waits = λ n t p path r x w v k s e. cc;
  again = λ n t r x y h v k s. h (omega (arith, k, s, rank_after-pos t));
  restarts = λ n t r x y h v k s. h (omega (arith, k, s, rank_after-pos t));
  halts = λ n t halt r v k s e. cc;
  awaits = λ n r k e. cc;
  ignored = λ n r line lines x y h k. h (omega (arith, brought_more line lines, k));
  times_out = λ n r line lines. (λ fit x y h k. h (omega (arith, brought_more line lines, k)), λ long k e. cc);
  takes_line = λ n r line lines x y h k. h (omega (arith, brought_more line lines, k));
}
  where
    needs_some : (s : TurnPhase) (r : Run) → phases_needed s r ≤ zero → Unended ≢ Unended
    needs_some AtDescribe r h = absurd (omega arith)
    needs_some AtTimeFrame r h = absurd (omega arith)
    needs_some AtPhrase r h = absurd (omega arith)
    needs_some AtResponse r h = absurd (omega arith)

-- With this number of phases each turn ends.
turn_ends : (g : Story) (n : ℕ) (s : TurnPhase) (r : Run) → phases_needed s r ≤ n → turn g n s r ≢ Unended
turn_ends g n s r h = turns g itself (λ n. n) (λ n. refl) AnyWait (λ t r. ends_itself (table_read g t r)) ending (ending_steps g) n s r h

-- The phases that are granted are enough.
pub turns_end : TurnsEnd
turns_end g s r = turn_ends g (phases_left r) s r (needed_granted s r)

goes_on_ends : (g : Story) (n : ℕ) (p : Prompt) (path : List Frame) (r : Run) → 4 * left_to_read r + 3 ≤ n → goes_on g n p path r ≢ Unended
goes_on_ends g n p path r h = by_prompt p
  where
    again : (s : TurnPhase) (q : Run) → phases_needed s q ≤ n → turn g n s q ≢ Unended
    again s q = turn_ends g n s q

    rank_after-le : (t : ℕ) → rank_after t ≤ 3
    rank_after-le zero = omega arith
    rank_after-le (suc zero) = omega arith
    rank_after-le (suc (suc t)) = omega arith

    in_table_ends : (q : Prompt) → in_table g n q path r ≢ Unended
    in_table_ends q =
        table_after g itself (λ m. m) (λ m. refl) AnyWait (λ t s. ends_itself (table_read g t s)) ending (ending_steps g) n again (first_table path) _ _
        (ends_itself (on_path g q 0 path r)) (left_to_read r) (omega (arith, h, rank_after-le (first_table path))) (path_spends g q 0 path r)

    by_prompt : (q : Prompt) → goes_on g n q path r ≢ Unended
    by_prompt prompt.Main =
        at_prompt g itself (λ m. m) (λ m. refl) AnyWait (λ t s. ends_itself (table_read g t s)) ending (ending_steps g) n again r r.events (omega (arith, h))
    by_prompt prompt.Quit = in_table_ends prompt.Quit
    by_prompt prompt.Again = in_table_ends prompt.Again
    by_prompt prompt.Key = in_table_ends prompt.Key
    by_prompt prompt.Over = λ e. cc

-- Going on from a prompt ends.
pub going_on_ends : GoingOnEnds
going_on_ends g p path r = goes_on_ends g (phases_left r) p path r (omega arith)

-- ---- more phases change nothing ----

-- Where one ends, the other is the same.
abbrev pub Refines : (TurnPhase → Run → Ending) → (TurnPhase → Run → Ending) → Type 0
Refines go more = (s : TurnPhase) (r : Run) → go s r ≢ Unended → more s r ≡ go s r

abbrev SameWait : Prompt → List Frame → Run → Out → Type 0
SameWait p path r x = x ≡ Waits p path r

abbrev refining : TurnRelation
refining = record {
  phase = λ n s r x y. y ≢ Unended → x ≡ y;
  after = λ n t z x y. y ≢ Unended → x ≡ y;
  prompt = λ n r lines x y. y ≢ Unended → x ≡ y;
}

refining_steps : (g : Story) (phases : ℕ → ℕ) → TurnSteps g itself phases SameWait refining
unfolding at_main
refining_steps g phases = record {
  unended = λ s r e. absurd (e refl);
  describes = λ n r. (λ fit x y h. h, λ long e. refl);
  frames = λ n r x y h. h;
  responds = λ n r x y h. h;
  sentence = λ n r s left x y e h. h;
  unknown = λ n r left e. (λ fit x y h. h, λ long q. refl);
  no_phrase = λ n r e. (λ fit x y h. h, λ long q. refl);
  acted = λ n r x y h. h;
  leaves = λ n to r x y e h. h;
  refuses = λ n r e. (λ fit x y h. h, λ long q. refl);
  described_so = λ n a r x y h. h;
  framed = λ n t a r x y h. h;
  waits = λ n t p path r x w e. rw w refl;
  again = λ n t r x y h. h;
  restarts = λ n t r x y h. h;
  halts = λ n t halt r e. refl;
  awaits = λ n r e. refl;
  ignored = λ n r line lines x y h. h;
  times_out = λ n r line lines. (λ fit x y h. h, λ long e. refl);
  takes_line = λ n r line lines x y h. h;
}

same_wait : (x : Out) → EndAlike itself SameWait x x
same_wait (Left a r) = refl
same_wait (Waits p path r) = refl
same_wait (Stopped stop r) = refl

module _ (g : Story) (k : ℕ) where
  one_more : (n : ℕ) → suc n + k ≡ suc (n + k)
  one_more n = omega arith

  same_tables : (t : ℕ) (r : Run) → EndAlike itself SameWait (table_read g t r) (table_read g t r)
  same_tables t r = same_wait (table_read g t r)

  -- More phases, by this number, change nothing in a turn, after a table and at the main prompt.
  pub turn_more : (n : ℕ) → Refines (turn g n) (turn g (n + k))
  turn_more n s r = turns g itself (λ j. j + k) one_more SameWait same_tables refining (refining_steps g (λ j. j + k)) n s r

  pub done_more : (n t : ℕ) (x : Out) → table_done g (turn g n) t x ≢ Unended → table_done g (turn g (n + k)) t x ≡ table_done g (turn g n) t x
  done_more n t x =
      table_after g itself (λ j. j + k) one_more SameWait same_tables refining (refining_steps g (λ j. j + k)) n (turn_more n) t x x (same_wait x)

  pub main_more : (n : ℕ) (r : Run) → at_main g (turn g n) r r.events ≢ Unended →
      at_main g (turn g (n + k)) r r.events ≡ at_main g (turn g n) r r.events
  main_more n r =
      at_prompt g itself (λ j. j + k) one_more SameWait same_tables refining (refining_steps g (λ j. j + k)) n (turn_more n) r r.events

  goes_on_more : (p : Prompt) (path : List Frame) (r : Run) (n : ℕ) → goes_on g n p path r ≢ Unended → goes_on g (n + k) p path r ≡ goes_on g n p path r
  goes_on_more prompt.Main path r n = main_more n r
  goes_on_more prompt.Quit path r n = done_more n (first_table path) _
  goes_on_more prompt.Again path r n = done_more n (first_table path) _
  goes_on_more prompt.Key path r n = done_more n (first_table path) _
  goes_on_more prompt.Over path r n = λ e. refl

suc_order : (n m : ℕ) → (n ≤ m) ⊎ (m < n) → (suc n ≤ suc m) ⊎ (suc m < suc n)
suc_order n m (inl h) = inl (omega arith)
suc_order n m (inr h) = inr (omega arith)

in_order : (n m : ℕ) → (n ≤ m) ⊎ (m < n)
in_order zero m = inl (omega arith)
in_order (suc n) zero = inr (omega arith)
in_order (suc n) (suc m) = suc_order n m (in_order n m)

-- Two numbers of phases at which it ends give the same.
same_ending : (f : ℕ → Ending) → ((k n : ℕ) → f n ≢ Unended → f (n + k) ≡ f n) → (n m : ℕ) → f n ≢ Unended → f m ≢ Unended → f n ≡ f m
same_ending f h n m en em = by_order (in_order n m)
  where
    by_order : (n ≤ m) ⊎ (m < n) → f n ≡ f m
    by_order (inl le) = let s : m ≡ n + (m - n) = omega arith in sym (rw s (h (m - n) n en))
    by_order (inr lt) = let s : n ≡ m + (n - m) = omega arith in rw s (h (n - m) m em)

-- A turn that ends is the turn.
pub ends_once : EndsOnce
ends_once g n s r e = same_ending (λ m. turn g m s r) (λ k m. turn_more g k m s r) n (phases_left r) e (turns_end g s r)

-- Going on that ends is going on.
pub goes_on_once : GoesOnOnce
goes_on_once g n p path r e =
    same_ending (λ m. goes_on g m p path r) (λ k. goes_on_more g k p path r) n (phases_left r) e (going_on_ends g p path r)
