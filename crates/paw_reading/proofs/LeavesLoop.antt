-- A table that is left has the loop with which it was begun, or none; and one in which play waits has a frame there.
use Rattle.std.proofs.Common.{◌≡◌, ℕ, zero, suc, ◌-◌, ◌≤◌, Bool, true, false, ◌||◌, List, [], ◌∷◌, Option, Some, None, ◌⊎◌, inl, inr}
use Rattle.std.proofs.Common.{refl, subst, length, arith}
use Rattle.std.specs.Prelude.{if◌then◌else◌}
use Rattle.std.specs.Option.{option_map_or}
use Rattle.paw_base.specs.declared.limits.TheConstants.{LEVEL_LIMIT}
use Rattle.paw_base.specs.Bytes.{Lines}
use Rattle.paw_effects.specs.Story.{Story}
use Rattle.paw_effects.specs.declared.act.Prompt.{Prompt}
use Rattle.paw_effects.specs.Effects.{effect_of}
use Rattle.paw_reading.specs.declared.frames.Frame.{Frame}
use Rattle.paw_reading.specs.declared.frames.OpenLoop.{OpenLoop}
use Rattle.paw_reading.specs.Run.{Run}
use Rattle.paw_reading.specs.Reading.{Out, Left, Waits, Stopped, Called, after_call, at_level, next_object_or, over_objects, from_condact}
use Rattle.paw_reading.specs.Reading.{prompt_asked}
use Rattle.paw_reading.specs.Reading.{rest_of_loop, read_at_level, table_called, deeper}
use Rattle.paw_reading.proofs.Cases.{open_or_not}
use Rattle.paw_reading.proofs.Rules.{at_level_own, at_level_is}
use Rattle.paw_reading.proofs.EachStep.{Relation, Steps, BeforeEntry, AtCondact, itself, afresh, passes}
use Rattle.paw_reading.proofs.EachStep.{prompted, from_each, round, whole_table, levels}

-- The loop is this one, or there is none.
abbrev pub IsOrNone : Option OpenLoop → Option OpenLoop → Type 0
IsOrNone o q = (q ≡ o) ⊎ (q ≡ None)

-- A wait has a frame.
abbrev pub HasFrame : List Frame → Type 0
HasFrame [] = ⊥
HasFrame (f ∷ path) = Unit {0}

abbrev pub LeavesLoop : Option OpenLoop → Out → Type 0
LeavesLoop o (Left a r) = IsOrNone o r.turning
LeavesLoop o (Waits p path r) = HasFrame path
LeavesLoop o (Stopped stop r) = Unit {0}

-- Reading on leaves each run its loop, or none.
abbrev pub GoesLeavingLoop : (Bool → Run → Out) → Type 0
GoesLeavingLoop go = (a : Bool) (r : Run) → LeavesLoop r.turning (go a r)

-- Calls leave each run its loop, or none.
abbrev pub CallsLeavingLoop : (ℕ → Run → Out) → Type 0
CallsLeavingLoop sub = (u : ℕ) (r : Run) → LeavesLoop r.turning (sub u r)

-- What leaves no loop may follow on any.
pub LeavesLoop_none : (o : Option OpenLoop) (x : Out) → LeavesLoop None x → LeavesLoop o x
LeavesLoop_none o (Left a r) (inl h) = inr h
LeavesLoop_none o (Left a r) (inr h) = inr h
LeavesLoop_none o (Waits p path r) h = h
LeavesLoop_none o (Stopped stop r) h = tt

pub LeavesLoop_from : (o q : Option OpenLoop) (x : Out) → IsOrNone o q → LeavesLoop q x → LeavesLoop o x
LeavesLoop_from o q x (inl e) h = subst (λ p. LeavesLoop p x) e h
LeavesLoop_from o q x (inr e) h = LeavesLoop_none o x (subst (λ p. LeavesLoop p x) e h)

pub cancelled : (b : Bool) (o : Option OpenLoop) → IsOrNone o (if b then None else o)
cancelled true o = inr refl
cancelled false o = inl refl

pub after_call_leaves_loop : (f : Frame) (go : Bool → Run → Out) → GoesLeavingLoop go → (o : Option OpenLoop) (x : Out) → LeavesLoop o x →
    LeavesLoop o (after_call f go x)
after_call_leaves_loop f go h o (Left b r) k = LeavesLoop_from o r.turning _ k (h (f.acted || b) r)
after_call_leaves_loop f go h o (Waits p path r) k = tt
after_call_leaves_loop f go h o (Stopped stop r) k = tt

-- A loop of the level that goes on by what closes it is closed.
pub again_closes : (lv : ℕ) (l : OpenLoop) (next : OpenLoop → Run → Out) → l.level ≡ lv → ((m : OpenLoop) (r : Run) → LeavesLoop None (next m r)) → (x : Out) →
    LeavesLoop (Some l) x → LeavesLoop None (next_object_or lv next x)
again_closes lv l next own h (Left a r) k =
    open_or_not (LeavesLoop None) (λ m. next m r) (Left a r) (at_level lv r.turning) (λ m e. h m r)
    (λ none. elim k [ inl e ↦ let q : at_level lv r.turning ≡ Some l = rw e (at_level_own lv l own) in cc | inr e ↦ inr e ])
again_closes lv l next own h (Waits p path r) k = k
again_closes lv l next own h (Stopped stop r) k = tt

-- So is the loop that goes on once the rest of a table is left.
pub again_leaves_loop : (lv : ℕ) (o : Option OpenLoop) (next : OpenLoop → Run → Out) → ((l : OpenLoop) (r : Run) → l.level ≡ lv → LeavesLoop None (next l r)) →
    (x : Out) → LeavesLoop o x → LeavesLoop o (next_object_or lv next x)
again_leaves_loop lv o next h (Left a r) k =
    open_or_not (LeavesLoop o) (λ l. next l r) (Left a r) (at_level lv r.turning)
    (λ l e. LeavesLoop_none o _ (h l r (at_level_is lv r.turning l e).0)) (λ none. k)
again_leaves_loop lv o next h (Waits p path r) k = k
again_leaves_loop lv o next h (Stopped stop r) k = tt

-- ---- each step ----

abbrev relation : Relation
relation = record {
  on = λ p r x y. LeavesLoop r.turning y;
  acted = λ f c w e r x y. LeavesLoop r.turning y;
  asked = λ f p r lines x y. LeavesLoop r.turning y;
  loop = λ l n r x y. LeavesLoop None y;
  call = λ u r x y. LeavesLoop r.turning y;
  whole = λ t r x y. LeavesLoop r.turning y;
}

steps : (g : Story) (sub over_sub : Called) (lv : ℕ) → Steps g itself sub over_sub lv relation
steps g sub over_sub lv = record {
  left = λ t e a r none. inl refl;
  passed = λ t e en r x y is not_so k. k;
  matched = λ t e en r x y is now k. k;
  ended = λ t e n r x y none k. k;
  exhausted = λ f c r stands many. tt;
  holds_so = λ f c r x y stands few is k. k;
  fails = λ f c r x y stands few is k. k;
  asks = λ f c r x y stands few is e fit k. k;
  question_long = λ f c r stands few is e long. tt;
  acts = λ f c r x y stands few is fit k. LeavesLoop_from r.turning _ y (cancelled (effect_of g r.world c).act.cancel_loop r.turning) k;
  text_long = λ f c r stands few is long. tt;
  goes = λ f c w r x y k. k;
  exits = λ f c w a r. inl refl;
  redescribes = λ f c w r. tt;
  calls = λ f c w u r x y k go. after_call_leaves_loop f (from_condact g over_sub lv f.table f.entry (suc f.at)) go r.turning y k;
  loops = λ f c w p r x y k. LeavesLoop_none r.turning y k;
  prompts = λ f c w p r x y k. k;
  sentence = λ f c w r s left x y e k. k;
  unknown = λ f c w r left x y e k. k;
  no_phrase = λ f c w r x y k. k;
  too_long = λ f c w r. tt;
  waits = λ f p r. tt;
  ignored = λ f p r line lines x y k. k;
  answered = λ f p r line lines x y k. k;
  quits = λ f r line lines. inl refl;
  restarts = λ f r line lines. tt;
  is_over = λ f r line lines fit. tt;
  goodbye_long = λ f r line lines long. tt;
  loop_ends = λ l r. inr refl;
  loop_passes = λ l n r x y few k. k;
  loop_takes = λ l n r x y own few k more.
      again_closes lv (record l { last = length g.game.objects - suc n }) _ own (λ m s. more s) y k;
  goes_round = λ p r x y k more. again_leaves_loop lv r.turning (rest_of_loop g over_sub lv) (λ l s own. more l s own) y k;
}

module _ (g : Story) (sub : Called) (lv : ℕ) (calls : CallsLeavingLoop sub) where
  pub plain_leaves_loop : (t e k : ℕ) → GoesLeavingLoop (from_condact g sub lv t e k)
  plain_leaves_loop t e zero = from_each g itself sub sub lv relation (steps g sub sub lv) calls (BeforeEntry t e)
  plain_leaves_loop t e (suc k) = from_each g itself sub sub lv relation (steps g sub sub lv) calls (AtCondact t e (suc k))

  pub asked_leaves_loop : (p : Prompt) (f : Frame) (r : Run) (lines : Lines) →
      LeavesLoop r.turning (prompt_asked g p f (from_condact g sub lv f.table f.entry (suc f.at)) r lines)
  asked_leaves_loop p f = prompted g itself sub sub lv relation (steps g sub sub lv) p f (plain_leaves_loop f.table f.entry (suc f.at))

  -- A loop of the level that goes over objects is closed.
  pub passes_closes : (l : OpenLoop) → l.level ≡ lv → (n : ℕ) → n ≤ length g.game.objects → (r : Run) →
      LeavesLoop None (over_objects g lv (afresh l) (from_condact g sub lv l.table l.entry (suc l.at) true) n r)
  passes_closes l own = passes g itself sub sub lv relation (steps g sub sub lv) l own (plain_leaves_loop l.table l.entry (suc l.at))

  pub looped_closes : (l : OpenLoop) (r : Run) → l.level ≡ lv → LeavesLoop None (rest_of_loop g sub lv l r)
  looped_closes = round g itself sub sub lv relation (steps g sub sub lv) calls

  pub reads_leaves_loop : (t e k : ℕ) → GoesLeavingLoop (read_at_level g sub lv t e k)
  reads_leaves_loop t e zero = whole_table g itself sub sub lv relation (steps g sub sub lv) calls (BeforeEntry t e)
  reads_leaves_loop t e (suc k) = whole_table g itself sub sub lv relation (steps g sub sub lv) calls (AtCondact t e (suc k))

-- A table that is called leaves the loop, or none.
pub called_leaves_loop : (g : Story) (n lv : ℕ) → CallsLeavingLoop (table_called g n lv)
called_leaves_loop g n lv =
    levels g itself ℕ (λ j. j) (λ a b j. a ≡ b) (λ j. relation)
    (record {
      below = λ j u. suc j;
      one_more = λ j u. refl;
      fewer = λ a b j same. omega (arith, same);
      steps = λ j a b same. steps g (table_called g a j) (table_called g b j) j;
      too_deep = λ j u r. tt;
      deep_once = λ j a u r x y odd. elim odd [ inl e ↦ absurd (omega (arith, e)) | inr e ↦ absurd (omega (arith, e)) ];
      called = λ j a b u r x y same k. k;
    }) n n lv refl

pub deeper_leaves_loop : (g : Story) (lv : ℕ) → CallsLeavingLoop (deeper g lv)
deeper_leaves_loop g lv = called_leaves_loop g (LEVEL_LIMIT - lv) lv

-- ---- a loop that is closed ----

-- What is closed already stays.
pub again_closed : (lv : ℕ) (next : OpenLoop → Run → Out) (x : Out) → LeavesLoop None x → next_object_or lv next x ≡ x
again_closed lv next (Left a r) (inl k) = rw k refl
again_closed lv next (Left a r) (inr k) = rw k refl
again_closed lv next (Waits p path r) k = refl
again_closed lv next (Stopped stop r) k = refl

-- Once is as good as twice.
pub again_again : (g : Story) (sub : Called) (lv : ℕ) → CallsLeavingLoop sub → (x : Out) →
    next_object_or lv (rest_of_loop g sub lv) (next_object_or lv (rest_of_loop g sub lv) x) ≡ next_object_or lv (rest_of_loop g sub lv) x
again_again g sub lv calls (Left a r) = go (at_level lv r.turning) refl
  where
    go : (o : Option OpenLoop) → at_level lv r.turning ≡ o →
        next_object_or lv (rest_of_loop g sub lv) (option_map_or (λ l. rest_of_loop g sub lv l r) o (Left a r))
        ≡ option_map_or (λ l. rest_of_loop g sub lv l r) o (Left a r)
    go None e = rw e refl
    go (Some l) e = again_closed lv _ _ (looped_closes g sub lv calls l r (at_level_is lv r.turning l e).0)
again_again g sub lv calls (Waits p path r) = refl
again_again g sub lv calls (Stopped stop r) = refl
