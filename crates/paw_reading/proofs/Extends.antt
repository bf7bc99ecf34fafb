-- Reading with more lines is reading with fewer, and then going on from where that waits.
use Rattle.std.proofs.Common.{◌≡◌, ℕ, zero, suc, ◌-◌, ◌≤◌, Bool, true, ◌||◌, List, [], ◌∷◌, ◌++◌, Option, Some, None, inl, inr, refl}
use Rattle.std.proofs.Common.{sym, ap, ◌∙◌, subst, length, arith, append_assoc}
use Rattle.std.specs.Option.{option_map_or}
use Rattle.paw_base.specs.Bytes.{Lines, Texts}
use Rattle.paw_base.specs.declared.limits.TheConstants.{LEVEL_LIMIT}
use Rattle.paw_effects.specs.Story.{Story}
use Rattle.paw_effects.specs.Effects.{effect_of}
use Rattle.paw_effects.specs.declared.act.Prompt.{Prompt}
use Rattle.paw_reading.specs.declared.frames.Frame.{Frame}
use Rattle.paw_reading.specs.declared.frames.OpenLoop.{OpenLoop}
use Rattle.paw_reading.specs.Run.{Run, StepRow}
use Rattle.paw_reading.specs.Reading.{Out, Left, Waits, Stopped, after_call, at_level, next_object_or, over_objects, prompt_asked}
use Rattle.paw_reading.specs.Reading.{from_condact, rest_of_loop, table_called, deeper, rest_of_table}
use Rattle.paw_reading.specs.GoingOn.{on_path}
use Rattle.paw_reading.proofs.Rules.{at_level_own, at_level_is, after_call_again}
use Rattle.paw_reading.proofs.EachStep.{Beside, Relation, Steps, Levels, Paths, BeforeEntry, AtCondact, afresh, rest, along}
use Rattle.paw_reading.proofs.LeavesLoop.{LeavesLoop, GoesLeavingLoop, LeavesLoop_none, LeavesLoop_from, cancelled, after_call_leaves_loop, again_closes}
use Rattle.paw_reading.proofs.LeavesLoop.{again_leaves_loop, plain_leaves_loop, asked_leaves_loop, passes_closes, looped_closes}
use Rattle.paw_reading.proofs.LeavesLoop.{reads_leaves_loop, deeper_leaves_loop, again_closed, again_again}
use Rattle.paw_reading.proofs.Onward.{taken_again}

-- The run with these pieces closed before its own, and these lines after those that are left.
abbrev pub around : Texts → List (List StepRow) → Lines → Run → Run
around ps ts lines r = record r { pieces = ps ++ r.pieces; traces = ts ++ r.traces; events = r.events ++ lines }

module _ (g : Story) (ps : Texts) (ts : List (List StepRow)) (lines : Lines) where
  abbrev surrounding : Beside
  surrounding = record {
    pieces = λ qs. ps ++ qs;
    traces = λ us. ts ++ us;
    events = λ es. es ++ lines;
    closes = λ qs p. sym (append_assoc ps qs (p ∷ []));
    traced = λ us t. sym (append_assoc ts us (t ∷ []));
    takes = λ line es. refl;
  }

  -- How a reading at a level ends with these pieces before it and these lines after it.
  abbrev pub extends : ℕ → Out → Out
  extends lv (Left a r) = Left a (around ps ts lines r)
  extends lv (Waits p path r) = on_path g p lv path (around ps ts lines r)
  extends lv (Stopped stop r) = Stopped stop (around ps ts lines r)

  -- A level's open loop goes on.
  abbrev loops : ℕ → Out → Out
  loops lv x = next_object_or lv (rest_of_loop g (deeper g lv) lv) x

  -- The same as `extends`, where the level's open loop is yet to go on.
  abbrev settles : ℕ → Out → Out
  settles lv (Left a r) = loops lv (Left a (around ps ts lines r))
  settles lv (Waits p path r) = on_path g p lv path (around ps ts lines r)
  settles lv (Stopped stop r) = Stopped stop (around ps ts lines r)

  -- Both leave this loop, or none.
  abbrev BothLeave : Option OpenLoop → Out → Out → Type 0
  BothLeave o x y = LeavesLoop o x × LeavesLoop o y

  abbrev Settles : ℕ → Option OpenLoop → Out → Out → Type 0
  Settles lv o x y = (loops lv x ≡ settles lv y) × BothLeave o x y

  abbrev Extends : ℕ → Option OpenLoop → Out → Out → Type 0
  Extends lv o x y = (x ≡ extends lv y) × BothLeave o x y

  abbrev relation : ℕ → Relation
  relation lv = record {
    on = λ p r x y. Settles lv r.turning x y;
    acted = λ f c w e r x y. Settles lv r.turning x y;
    asked = λ f p r es x y. Settles lv r.turning x y;
    loop = λ l n r x y. Settles lv None x y;
    call = λ u r x y. Extends (suc lv) r.turning x y;
    whole = λ t r x y. Extends lv r.turning x y;
  }

  module _ (lv : ℕ) where
    -- Reading on from a frame's condact.
    abbrev past : Frame → Bool → Run → Out
    past f = from_condact g (deeper g lv) lv f.table f.entry (suc f.at)

    leaving : (f : Frame) → GoesLeavingLoop (past f)
    leaving f = plain_leaves_loop g (deeper g lv) lv (deeper_leaves_loop g lv) f.table f.entry (suc f.at)

    settles_call : (f : Frame) → ((a : Bool) (r : Run) → loops lv (past f a (around ps ts lines r)) ≡ settles lv (past f a r)) →
        (o : Option OpenLoop) (x : Out) →
        LeavesLoop o x → loops lv (after_call f (past f) (extends (suc lv) x)) ≡ settles lv (after_call f (past f) x)
    settles_call f h o (Left b r) k = h (f.acted || b) r
    settles_call f h o (Waits p [] r) k = absurd k
    settles_call f h o (Waits p (j ∷ path) r) k =
        after_call_again g (deeper g lv) lv f (past f) (on_path g p (suc lv) (j ∷ path) (around ps ts lines r))
    settles_call f h o (Stopped stop r) k = refl

    -- ---- the loop ----

    settles_closed : (x : Out) → LeavesLoop None x → settles lv x ≡ extends lv x
    settles_closed (Left a r) (inl k) = rw k refl
    settles_closed (Left a r) (inr k) = rw k refl
    settles_closed (Waits p path r) k = refl
    settles_closed (Stopped stop r) k = refl

    module _ (l : OpenLoop) (own : l.level ≡ lv) (n : ℕ) (few : n ≤ length g.game.objects) where
      abbrev more : Run → Out
      more = over_objects g lv (afresh l) (from_condact g (deeper g lv) lv l.table l.entry (suc l.at) true) n

      more_closes : (r : Run) → LeavesLoop None (more r)
      more_closes = passes_closes g (deeper g lv) lv (deeper_leaves_loop g lv) l own n few

      -- After an object was taken, the loop of which it was taken goes on.
      settles_after : (o : ℕ) → length g.game.objects - suc o ≡ n → ((r : Run) → loops lv (more (around ps ts lines r)) ≡ settles lv (more r)) →
          (x : Out) → LeavesLoop (Some (record l { last = o })) x → settles lv x ≡ settles lv (next_object_or lv (λ _. more) x)
      settles_after o e h (Left a s) (inl k) =
          let q : at_level lv s.turning ≡ Some (record l { last = o }) = rw k (at_level_own lv (record l { last = o }) own) in
          rw (q, e) (sym (again_closed lv (rest_of_loop g (deeper g lv) lv) (more (around ps ts lines s)) (more_closes (around ps ts lines s))) ∙ h s)
      settles_after o e h (Left a s) (inr k) = rw k refl
      settles_after o e h (Waits p path s) k = refl
      settles_after o e h (Stopped stop s) k = refl

      settles_taken : (o : ℕ) → length g.game.objects - suc o ≡ n → (x y : Out) → Settles lv (Some (record l { last = o })) x y →
          ((r : Run) → loops lv (more (around ps ts lines r)) ≡ settles lv (more r)) →
          Settles lv None (next_object_or lv (λ _. more) x) (next_object_or lv (λ _. more) y)
      settles_taken o e x y k h =
          let again : next_object_or lv (λ _. more) x ≡ loops lv x = rw e at (taken_again g (deeper g lv) lv l o x own k.1.0) in (
            ap (loops lv) again ∙ again_again g (deeper g lv) lv (deeper_leaves_loop g lv) x ∙ k.0 ∙ settles_after o e h y k.1.1,
            (
              again_closes lv (record l { last = o }) (λ _. more) own (λ m s. more_closes s) x k.1.0,
              again_closes lv (record l { last = o }) (λ _. more) own (λ m s. more_closes s) y k.1.1,
            ),
          )

    -- The loop that is open goes on.
    settles_round : (o : Option OpenLoop) (x : Out) → LeavesLoop o x →
        ((l : OpenLoop) (r : Run) → l.level ≡ lv →
        Settles lv None (rest_of_loop g (deeper g lv) lv l (around ps ts lines r)) (rest_of_loop g (deeper g lv) lv l r)) →
        settles lv x ≡ extends lv (loops lv x)
    settles_round o (Left a r) k h = by_loop (at_level lv r.turning) refl
      where
        by_loop : (q : Option OpenLoop) → at_level lv r.turning ≡ q →
            loops lv (Left a (around ps ts lines r)) ≡ extends lv (option_map_or (λ l. rest_of_loop g (deeper g lv) lv l r) q (Left a r))
        by_loop None e = rw e refl
        by_loop (Some l) e =
            let so = h l r (at_level_is lv r.turning l e).0 in
            rw e
            (sym (again_closed lv (rest_of_loop g (deeper g lv) lv) (rest_of_loop g (deeper g lv) lv l (around ps ts lines r)) so.1.0)
            ∙ so.0 ∙ settles_closed (rest_of_loop g (deeper g lv) lv l r) so.1.1)
    settles_round o (Waits p path r) k h = refl
    settles_round o (Stopped stop r) k h = refl

    both_round : (o : Option OpenLoop) (x y : Out) → BothLeave o x y → BothLeave o (loops lv x) (loops lv y)
    both_round o x y k =
        let closed = looped_closes g (deeper g lv) lv (deeper_leaves_loop g lv) in
        (again_leaves_loop lv o (rest_of_loop g (deeper g lv) lv) closed x k.0, again_leaves_loop lv o (rest_of_loop g (deeper g lv) lv) closed y k.1)

    -- ---- each step ----

    steps : Steps g surrounding (deeper g lv) (deeper g lv) lv (relation lv)
    unfolding prompt_asked
    steps = record {
      left = λ t e a r none. (refl, (inl refl, inl refl));
      passed = λ t e en r x y is not_so k. k;
      matched = λ t e en r x y is now k. k;
      ended = λ t e n r x y none k. k;
      exhausted = λ f c r stands many. (refl, (tt, tt));
      holds_so = λ f c r x y stands few is k. k;
      fails = λ f c r x y stands few is k. k;
      asks = λ f c r x y stands few is e fit k. k;
      question_long = λ f c r stands few is e long. (refl, (tt, tt));
      acts = λ f c r x y stands few is fit k.
          let so = cancelled (effect_of g r.world c).act.cancel_loop r.turning in
          (k.0, (LeavesLoop_from r.turning _ x so k.1.0, LeavesLoop_from r.turning _ y so k.1.1));
      text_long = λ f c r stands few is long. (refl, (tt, tt));
      goes = λ f c w r x y k. k;
      exits = λ f c w a r. (refl, (inl refl, inl refl));
      redescribes = λ f c w r. (refl, (tt, tt));
      calls = λ f c w u r x y k go. (
        ap (λ z. loops lv (after_call f (past f) z)) k.0 ∙ settles_call f (λ a s. (go a s).0) r.turning y k.1.1,
        (after_call_leaves_loop f (past f) (leaving f) r.turning x k.1.0, after_call_leaves_loop f (past f) (leaving f) r.turning y k.1.1),
      );
      loops = λ f c w p r x y k. (k.0, (LeavesLoop_none r.turning x k.1.0, LeavesLoop_none r.turning y k.1.1));
      prompts = λ f c w p r x y k. k;
      sentence = λ f c w r s bytes x y e k. k;
      unknown = λ f c w r bytes x y e k. k;
      no_phrase = λ f c w r x y k. k;
      too_long = λ f c w r. (refl, (tt, tt));
      waits = λ f p r.
          (refl, (asked_leaves_loop g (deeper g lv) lv (deeper_leaves_loop g lv) p f (around ps ts lines (record r { events = [] })) lines, tt));
      ignored = λ f p r line es x y k. k;
      answered = λ f p r line es x y k. k;
      quits = λ f r line es. (refl, (inl refl, inl refl));
      restarts = λ f r line es. (refl, (tt, tt));
      is_over = λ f r line es fit. (refl, (tt, tt));
      goodbye_long = λ f r line es long. (refl, (tt, tt));
      loop_ends = λ l r. (refl, (inr refl, inr refl));
      loop_passes = λ l n r x y few k. k;
      loop_takes = λ l n r x y own few k more.
          settles_taken l own n (omega arith) (length g.game.objects - suc n) (omega arith) x y k (λ s. (more s).0);
      goes_round = λ p r x y k more.
          (k.0 ∙ settles_round r.turning y k.1.1 more, both_round r.turning x y k.1);
    }

  -- As many levels are left as there are, both ways.
  abbrev Enough : ℕ → ℕ → ℕ → Type 0
  Enough n o lv = (n ≡ LEVEL_LIMIT - lv) × (o ≡ LEVEL_LIMIT - lv)

  at_levels : Levels g surrounding ℕ (λ lv. lv) Enough relation
  at_levels = record {
    below = λ lv u. suc lv;
    one_more = λ lv u. refl;
    fewer = λ n o lv enough. (omega (arith, enough.0), omega (arith, enough.1));
    steps = λ lv n o enough.
        subst (λ a. Steps g surrounding (table_called g a lv) (table_called g o lv) lv (relation lv)) (sym enough.0)
        (subst (λ a. Steps g surrounding (deeper g lv) (table_called g a lv) lv (relation lv)) (sym enough.1) (steps lv));
    too_deep = λ lv u r. (refl, (tt, tt));
    deep_once = λ lv n u r x y odd. elim odd [ inl e ↦ absurd (omega (arith, e.0, e.1)) | inr e ↦ absurd (omega (arith, e.0, e.1)) ];
    called = λ lv n o u r x y enough k. k;
  }

  after_call_extends : (lv : ℕ) (f : Frame) (o : Option OpenLoop) (x : Out) → LeavesLoop o x →
      ((a : Bool) (r : Run) → Extends lv r.turning (rest_of_table g lv f.table f.entry (suc f.at) a (around ps ts lines r))
      (rest_of_table g lv f.table f.entry (suc f.at) a r)) →
      after_call f (rest_of_table g lv f.table f.entry (suc f.at)) (extends (suc lv) x)
      ≡ extends lv (after_call f (rest_of_table g lv f.table f.entry (suc f.at)) x)
  after_call_extends lv f o (Left b r) k h = (h (f.acted || b) r).0
  after_call_extends lv f o (Waits p [] r) k h = absurd k
  after_call_extends lv f o (Waits p (j ∷ path) r) k h = refl
  after_call_extends lv f o (Stopped stop r) k h = refl

  paths : Paths g surrounding ℕ (λ lv. lv) Enough relation at_levels (λ lv p path r x y. Extends lv r.turning x y)
  unfolding at_levels
  paths = record {
    enough = λ lv. (refl, refl);
    at_prompt = λ lv p f r x y k more. (k.0 ∙ settles_round lv r.turning y k.1.1 more, both_round lv r.turning x y k.1);
    above = λ lv p f h path r x y k go.
        let own = reads_leaves_loop g (deeper g lv) lv (deeper_leaves_loop g lv) f.table f.entry (suc f.at) in (
          ap (after_call f (rest_of_table g lv f.table f.entry (suc f.at))) k.0 ∙ after_call_extends lv f r.turning y k.1.1 go,
          (after_call_leaves_loop f _ own r.turning x k.1.0, after_call_leaves_loop f _ own r.turning y k.1.1),
        );
  }

  -- So a table that is read on extends, and so does going on along a path.
  pub rest_extends : (lv t e k : ℕ) (a : Bool) (r : Run) → rest_of_table g lv t e k a (around ps ts lines r) ≡ extends lv (rest_of_table g lv t e k a r)
  rest_extends lv t e zero a r =
      (rest g surrounding ℕ (λ j. j) Enough relation at_levels (LEVEL_LIMIT - lv) (LEVEL_LIMIT - lv) lv (refl, refl) (BeforeEntry t e) a r).0
  rest_extends lv t e (suc k) a r =
      (rest g surrounding ℕ (λ j. j) Enough relation at_levels (LEVEL_LIMIT - lv) (LEVEL_LIMIT - lv) lv (refl, refl) (AtCondact t e (suc k)) a r).0

  pub path_extends : (p : Prompt) (lv : ℕ) (path : List Frame) (r : Run) → on_path g p lv path (around ps ts lines r) ≡ extends lv (on_path g p lv path r)
  path_extends p lv [] r = refl
  path_extends p lv (f ∷ path) r =
      (along g surrounding ℕ (λ j. j) Enough relation at_levels (λ lv p path r x y. Extends lv r.turning x y) paths p lv f path r).0
