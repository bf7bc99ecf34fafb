-- Reading on follows its rules.
use Rattle.std.proofs.Common.{◌≡◌, ℕ, suc, ◌-◌, Bool, true, false, [], ◌∷◌, Some, inl, inr, refl, sym, ap, ◌∙◌}
use Rattle.std.proofs.Common.{length, arith}
use Rattle.paw_base.specs.declared.parts.Condact.{Condact}
use Rattle.paw_effects.specs.Story.{Story}
use Rattle.paw_effects.specs.declared.act.Prompt.{Prompt}
use Rattle.paw_effects.specs.declared.act.Effect.TheVariants as effect
use Rattle.paw_reading.specs.declared.frames.Frame.{Frame}
use Rattle.paw_reading.specs.declared.frames.OpenLoop.{OpenLoop}
use Rattle.paw_reading.specs.Run.{Run, without_loop, with_line_heard}
use Rattle.paw_reading.specs.Reading.{Out, Left, Waits, Stopped, after_call, at_level, next_object_or, is_taken, object_taken}
use Rattle.paw_reading.specs.Reading.{over_objects, loop_of, over, prompt_asked}
use Rattle.paw_reading.specs.Reading.{reads_one, from_condact, rest_of_loop, deeper}
use Rattle.paw_reading.specs.Reading.{rest_of_table, game_over}
use Rattle.paw_reading.specs.inner.Parts.{goodbye}
use Rattle.paw_reading.specs.GoingOn.{on_path}
use Rattle.paw_reading.specs.inner.Rules.{past, at_frame, leaves, looks, goes, MayRead, ReadsEntries, ReadsCondacts}
use Rattle.paw_reading.specs.inner.Rules.{FollowsActions}
use Rattle.paw_reading.specs.inner.Rules.{LoopRules, AnswersPrompts, ReadingOn}
use Rattle.paw_reading.proofs.Cases.{prints}
use Rattle.paw_reading.proofs.Rules.{at_level_own, within_budget, within_none, inside_end, inside_condact, plain_end, plain_entry}
use Rattle.paw_reading.proofs.Rules.{after_call_again, deeper_rest, deeper_none}
use Rattle.paw_reading.proofs.LeavesLoop.{LeavesLoop, passes_closes, plain_leaves_loop, deeper_leaves_loop, again_closed}

-- ---- the loop ----

-- The loop of which an object was taken is the one that is open.
pub taken_again : (g : Story) (sub : ℕ → Run → Out) (lv : ℕ) (l : OpenLoop) (o : ℕ) (x : Out) → l.level ≡ lv → LeavesLoop (Some (record l { last = o })) x →
    next_object_or lv (λ _. over_objects g lv (record l { last = 0 }) (from_condact g sub lv l.table l.entry (suc l.at) true) (length g.game.objects - suc o)) x
    ≡ next_object_or lv (rest_of_loop g sub lv) x
taken_again g sub lv l o (Left a r) own (inl k) =
    let q : at_level lv r.turning ≡ Some (record l { last = o }) = rw k (at_level_own lv (record l { last = o }) own) in rw q refl
taken_again g sub lv l o (Left a r) own (inr k) = rw k refl
taken_again g sub lv l o (Waits p path r) own k = refl
taken_again g sub lv l o (Stopped stop r) own k = refl

-- ---- the rules ----

module _ (g : Story) (lv : ℕ) where
  -- What the loop of the level makes of equal readings.
  same : {x y : Out} → x ≡ y → next_object_or lv (rest_of_loop g (deeper g lv) lv) x ≡ next_object_or lv (rest_of_loop g (deeper g lv) lv) y
  same e = ap (next_object_or lv (rest_of_loop g (deeper g lv) lv)) e

  reads_entries : ReadsEntries g lv
  reads_entries = record {
    past_last = λ t e a r h. same (plain_end g (deeper g lv) lv t e a r h);
    passed_over = λ t e en a r h n. same (rw n at (plain_entry g (deeper g lv) lv t e en a r h));
    matched = λ t e en a r h y. same (rw y at (plain_entry g (deeper g lv) lv t e en a r h));
    in_entry = λ t e k a r. refl;
    past_condacts = λ f r h. same (inside_end g (deeper g lv) lv f.table f.entry f.at f.acted r h);
  }

  -- One condact.
  one_read : (f : Frame) (c : Condact) (r : Run) → MayRead g f c r →
      at_frame g lv f r ≡ next_object_or lv (rest_of_loop g (deeper g lv) lv)
      (reads_one g (deeper g lv) lv f (from_condact g (deeper g lv) lv f.table (suc f.entry) 0)
      (from_condact g (deeper g lv) lv f.table f.entry (suc f.at)) c r)
  one_read f c r h =
      same (inside_condact g (deeper g lv) lv f.table f.entry f.at f.acted r c h.stands ∙ within_budget r _ h.left)

  reads_condacts : ReadsCondacts g lv
  reads_condacts = record {
    used_up = λ f c r h n. same (inside_condact g (deeper g lv) lv f.table f.entry f.at f.acted r c h ∙ within_none r _ n);
    holding = λ f c r h. one_read f c r h.may ∙ rw (h.is, h.answers) refl;
    failing = λ f c r h. one_read f c r h.may ∙ rw (h.is, h.answers) refl;
    asking = λ f c r h fit. one_read f c r h.may ∙ rw (h.is, h.answers, fit) refl;
    asking_too_long = λ f c r h fit. one_read f c r h.may ∙ rw (h.is, h.answers, fit) refl;
    acting = λ f c r h. one_read f c r h.may ∙ rw (h.is, h.room) refl;
    acting_too_long = λ f c r h. one_read f c r h.may ∙ rw (h.is, h.room) refl;
  }

  begins : (f : Frame) (p : ℕ) (r : Run) → goes g lv f (effect.Loop p) r ≡ looks g lv (loop_of lv f p) 0 r
  begins f p r =
      let all : length g.game.objects - 0 ≡ length g.game.objects = omega arith in
      rw all (again_closed lv _ _
      (passes_closes g (deeper g lv) lv (deeper_leaves_loop g lv) (loop_of lv f p) refl (length g.game.objects) (omega arith) r))

  follows_actions : FollowsActions g lv
  follows_actions = record {
    go = λ f r. refl;
    exit = λ f a r. refl;
    redescribe = λ f r. refl;
    call = λ f u r low. after_call_again g (deeper g lv) lv f (from_condact g (deeper g lv) lv f.table f.entry (suc f.at)) (deeper g lv u r)
        ∙ ap (after_call f (past g lv f)) (deeper_rest g lv u r low);
    deep = λ f u r h. same (ap (after_call f (from_condact g (deeper g lv) lv f.table f.entry (suc f.at))) (deeper_none g lv u r h));
    loop = begins;
    ask = λ f p r. refl;
    sentence = λ f s bytes r h. rw h refl;
    unknown = λ f bytes r h. rw h refl;
    no_phrase = λ f r h. rw h refl;
    too_long = λ f r. refl;
  }

  -- Of the last objects, counted by n.
  passes : (l : OpenLoop) (n o : ℕ) (r : Run) → length g.game.objects - suc n ≡ o → is_taken g.game r.world l o ≡ false →
      over_objects g lv (record l { last = 0 }) (from_condact g (deeper g lv) lv l.table l.entry (suc l.at) true) (suc n) r
      ≡ over_objects g lv (record l { last = 0 }) (from_condact g (deeper g lv) lv l.table l.entry (suc l.at) true) n r
  unfolding over_objects
  passes l n o r e h = rw (e, h) refl

  takes_one : (l : OpenLoop) (n o : ℕ) (r : Run) → l.level ≡ lv → length g.game.objects - suc n ≡ o → length g.game.objects - suc o ≡ n →
      is_taken g.game r.world l o ≡ true →
      over_objects g lv (record l { last = 0 }) (from_condact g (deeper g lv) lv l.table l.entry (suc l.at) true) (suc n) r
      ≡ rest_of_table g lv l.table l.entry (suc l.at) true (object_taken g.game l o r)
  unfolding over_objects
  takes_one l n o r own e n_is h =
      rw (e, h) (rw n_is at (taken_again g (deeper g lv) lv l o _ own
      (plain_leaves_loop g (deeper g lv) lv (deeper_leaves_loop g lv) l.table l.entry (suc l.at) true (object_taken g.game l o r))))

  none_more : (l : OpenLoop) (n : ℕ) (r : Run) → n ≡ 0 →
      over_objects g lv (record l { last = 0 }) (from_condact g (deeper g lv) lv l.table l.entry (suc l.at) true) n r ≡ Left true (without_loop r)
  unfolding over_objects
  none_more l n r e = rw e refl

  looks_above : (a : Bool) (l : OpenLoop) (r : Run) → r.turning ≡ Some l → l.level ≡ lv → leaves g lv a r ≡ looks g lv l (suc l.last) r
  looks_above a l r e own = let q : at_level lv r.turning ≡ Some l = rw e (at_level_own lv l own) in rw q refl

  turns_loops : LoopRules g lv
  turns_loops = record {
    left = λ a r h. rw h refl;
    looks_on = looks_above;
    passed_by = λ l o r low h.
        let e : length g.game.objects - o ≡ suc (length g.game.objects - suc o) = omega arith in
        rw e (passes l (length g.game.objects - suc o) o r (omega arith) h);
    takes = λ l o r own low h.
        let e : length g.game.objects - o ≡ suc (length g.game.objects - suc o) = omega arith in
        rw e (takes_one l (length g.game.objects - suc o) o r own (omega arith) refl h);
    none_left = λ l o r h. none_more l (length g.game.objects - o) r (omega arith);
  }

  pub waits_on : (p : Prompt) (f : Frame) (r : Run) → r.events ≡ [] → on_path g p lv (f ∷ []) r ≡ Waits p (f ∷ []) r
  unfolding prompt_asked
  waits_on p f r h =
      let here : on_path g p lv (f ∷ []) r ≡ Waits p (f ∷ []) (record r { events = [] }) = rw h refl in
      here ∙ ap (λ es. Waits p (f ∷ []) (record r { events = es })) (sym h)

  -- The end of the game is final.
  over_stays : (r : Run) → next_object_or lv (rest_of_loop g (deeper g lv) lv) (over g r) ≡ over g r
  over_stays r = prints (λ x. next_object_or lv (rest_of_loop g (deeper g lv) lv) x ≡ x) (goodbye g r) game_over r refl refl

  answers_prompts : AnswersPrompts g lv
  unfolding prompt_asked
  answers_prompts = record {
    above = λ p f h path r. refl;
    no_line = waits_on;
    ignored = λ p f line lines r h i. rw (h, i) refl;
    quit_yes = λ f line lines r h y. rw (h.comes, h.counts, y) refl;
    quit_no = λ f line lines r h y. rw (h.comes, h.counts, y) refl;
    key = λ f line lines r h. rw (h.comes, h.counts) refl;
    end_no = λ f line lines r h n. rw (h.comes, h.counts, n) (over_stays (with_line_heard line (record r { events = lines })));
    end_anew = λ f line lines r h n. rw (h.comes, h.counts, n) refl;
  }

pub reading_on : ReadingOn
reading_on = record {
  entries = reads_entries;
  condacts = reads_condacts;
  actions = follows_actions;
  loops = turns_loops;
  prompts = answers_prompts;
}
