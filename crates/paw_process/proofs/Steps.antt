-- What the machine's moves make of the reading.
use Rattle.std.proofs.Common.{◌≡◌, ℕ, zero, suc, ◌+◌, ◌-◌, ◌≤◌, ◌<◌, Bool, true, false, List, ◌∷◌}
use Rattle.std.proofs.Common.{Option, Some, None, refl, sym, ap, ◌∙◌, length, arith, add-one}
use Rattle.std.specs.Prelude.{if◌then◌else◌, reverse}
use Rattle.paw_base.specs.declared.limits.TheConstants.{READ_LIMIT}
use Rattle.paw_base.specs.declared.parts.Condact.{Condact}
use Rattle.paw_base.specs.declared.fault.SpentKind.TheVariants as spent
use Rattle.paw_base.specs.declared.flags.TheConstants.{VERB_FLAG, NOUN_FLAG}
use Rattle.paw_effects.specs.Story.{Story}
use Rattle.paw_game.specs.Tables.{condact_at}
use Rattle.paw_game.specs.inner.Tables.{match_at}
use Rattle.paw_world.specs.World.{flag}
use Rattle.paw_effects.specs.declared.act.Prompt.{Prompt}
use Rattle.paw_effects.specs.declared.act.Effect.TheVariants as effect
use Rattle.paw_reading.specs.declared.frames.Frame.{Frame}
use Rattle.paw_reading.specs.declared.frames.OpenLoop.{OpenLoop}
use Rattle.paw_reading.specs.Run.{Run, piece_closed, without_loop}
use Rattle.paw_reading.specs.declared.halt.Halt.TheVariants as halt
use Rattle.paw_reading.specs.Reading.{Redescribes, Halts, Out, Left, Stopped, halts, at_level, next_object_or}
use Rattle.paw_reading.specs.Reading.{object_taken, over_objects, loop_of, waits, from_condact, rest_of_loop, deeper}
use Rattle.paw_reading.specs.Reading.{rest_of_table, reads_one}
use Rattle.paw_reading.specs.GoingOn.{on_path}
use Rattle.paw_reading.specs.inner.GoingOn.{along}
use Rattle.paw_reading.proofs.Onward.{taken_again}
use Rattle.paw_reading.proofs.LeavesLoop.{plain_leaves_loop, passes_closes, deeper_leaves_loop, again_closed}
use Rattle.paw_reading.proofs.Rules.{within_budget, within_none, inside_end, inside_condact, plain_left}
use Rattle.paw_reading.proofs.Rules.{at_level_own, plain_match, plain_inside, after_call_again}
use Rattle.paw_reading.proofs.Along.{along_stopped, on_path_reverse}
use Rattle.paw_process.specs.inner.Objects.{is_next, least_taken}
use Rattle.paw_process.specs.inner.Meaning.{going_in}
use Rattle.paw_process.specs.inner.Moves.{loop_resolved, next_of, past_of, reading_at, acted_at, loop_at_frames}

-- ---- the loop ----

module _ (g : Story) (lv : ℕ) (l : OpenLoop) (body : Run → Out) where
  -- The loop over the last n objects.
  abbrev over : ℕ → Run → Out
  over n r = over_objects g lv (record l { last = 0 }) body n r

  -- The loop once it has taken an object, with n objects after it.
  abbrev taking : ℕ → ℕ → Run → Out
  taking o n r = next_object_or lv (λ _. over n) (body (object_taken g.game l o r))

  -- No object is left.
  passes_none : (n : ℕ) (r : Run) → least_taken g.game r.world l.place n ≡ None → over n r ≡ Left true (without_loop r)
  unfolding over_objects least_taken
  passes_none zero r h = refl
  passes_none (suc n) r h = go (passes_none n r) (is_next g.game r.world l.place (length g.game.objects - suc n)) h
    where
      go : (least_taken g.game r.world l.place n ≡ None → over n r ≡ Left true (without_loop r)) → (b : Bool)
          → ◌≡◌ {A = Option ℕ} (if b then Some (length g.game.objects - suc n) else least_taken g.game r.world l.place n) None
          → (if b then taking (length g.game.objects - suc n) n r else over n r) ≡ Left true (without_loop r)
      go later true q = cc
      go later false q = later q

  -- The next object.
  passes_some : (n : ℕ) (r : Run) (o : ℕ) → n ≤ length g.game.objects → least_taken g.game r.world l.place n ≡ Some o
      → over n r ≡ taking o (length g.game.objects - suc o) r
  unfolding over_objects least_taken
  passes_some zero r o low h = cc
  passes_some (suc n) r o low h = go (passes_some n r o (omega arith)) (is_next g.game r.world l.place (length g.game.objects - suc n)) h
    where
      here : (j : ℕ) → j ≡ length g.game.objects - suc n → taking j n r ≡ taking j (length g.game.objects - suc j) r
      here j q = let m : length g.game.objects - suc j ≡ n = omega arith in rw m refl

      go : (least_taken g.game r.world l.place n ≡ Some o → over n r ≡ taking o (length g.game.objects - suc o) r) → (b : Bool)
          → ◌≡◌ {A = Option ℕ} (if b then Some (length g.game.objects - suc n) else least_taken g.game r.world l.place n) (Some o)
          → (if b then taking (length g.game.objects - suc n) n r else over n r) ≡ taking o (length g.game.objects - suc o) r
      go later true q = let m : length g.game.objects - suc n ≡ o = cc in rw m (here o (sym m))
      go later false q = later q

-- A loop with no object left.
pub turning_none : (g : Story) (fs : List Frame) (l : OpenLoop) (n : ℕ) (r : Run) → least_taken g.game r.world l.place n ≡ None
    → loop_at_frames g fs l n r ≡ along g fs (Left true (without_loop r))
turning_none g fs l n r h = ap (along g fs) (passes_none g (length fs) l _ n r h)

-- A loop takes the next object.
pub turning_some : (g : Story) (fs : List Frame) (l : OpenLoop) (n : ℕ) (r : Run) (o : ℕ) → l.level ≡ length fs → n ≤ length g.game.objects
    → least_taken g.game r.world l.place n ≡ Some o
    → loop_at_frames g fs l n r ≡ along g fs (rest_of_table g (length fs) l.table l.entry (suc l.at) true (object_taken g.game l o r))
turning_some g fs l n r o own low h =
    ap (along g fs) (passes_some g (length fs) l _ n r o low h
    ∙ taken_again g (deeper g (length fs)) (length fs) l o _ own
    (plain_leaves_loop g (deeper g (length fs)) (length fs) (deeper_leaves_loop g (length fs)) l.table l.entry (suc l.at) true (object_taken g.game l o r)))

-- ---- a table is left ----

-- At a level with no loop of its own.
pub settled_left : (g : Story) (fs : List Frame) (a : Bool) (r : Run) → at_level (length fs) r.turning ≡ None →
    loop_resolved g fs (Left a r) ≡ along g fs (Left a r)
settled_left g fs a r h = rw h refl

-- At the level of the open loop.
pub settled_looped : (g : Story) (fs : List Frame) (a : Bool) (r : Run) (l : OpenLoop) → r.turning ≡ Some l → l.level ≡ length fs
    → loop_resolved g fs (Left a r) ≡ loop_at_frames g fs l (length g.game.objects - suc l.last) r
settled_looped g fs a r l h own =
    let q : at_level (length fs) r.turning ≡ Some l = rw h (at_level_own (length fs) l own) in rw q refl

-- ---- actions ----

pub acted_go : (g : Story) (fs : List Frame) (f : Frame) (r : Run)
    → acted_at g fs f effect.Go r ≡ along g fs (rest_of_table g (length fs) f.table f.entry (f.at + 1) true r)
acted_go g fs f r = rw add-one refl

pub acted_call : (g : Story) (fs : List Frame) (f : Frame) (u : ℕ) (r : Run) → acted_at g fs f (effect.Call u) r ≡ along g (f ∷ fs) (deeper g (length fs) u r)
acted_call g fs f u r = ap (along g fs) (after_call_again g (deeper g (length fs)) (length fs) f (past_of g fs f) (deeper g (length fs) u r))

pub acted_loop : (g : Story) (fs : List Frame) (f : Frame) (p : ℕ) (r : Run)
    → acted_at g fs f (effect.Loop p) r ≡ loop_at_frames g fs (loop_of (length fs) f p) (length g.game.objects) r
acted_loop g fs f p r =
    let sub : ℕ → Run → Out = deeper g (length fs) in
    ap (along g fs) (again_closed (length fs) (rest_of_loop g sub (length fs)) _
    (passes_closes g sub (length fs) (deeper_leaves_loop g (length fs)) (loop_of (length fs) f p) refl (length g.game.objects) (omega arith) r))

pub acted_redescribes : (g : Story) (fs : List Frame) (f : Frame) (r : Run) →
    acted_at g fs f effect.Redescribe r ≡ Stopped Redescribes (without_loop r)
acted_redescribes g fs f r = along_stopped g fs Redescribes (without_loop r)

pub acted_spent : (g : Story) (fs : List Frame) (f : Frame) (r : Run) →
    acted_at g fs f effect.Spent r ≡ halts (halt.Spent spent.Text) r
acted_spent g fs f r = along_stopped g fs (Halts (halt.Spent spent.Text)) r

-- The piece is closed, and the run goes on at the prompt along the frames.
pub settled_waits : (g : Story) (fs : List Frame) (f : Frame) (p : Prompt) (r : Run)
    → loop_resolved g fs (waits g p f (past_of g fs f) r) ≡ on_path g p 0 (reverse (f ∷ fs)) (piece_closed r)
settled_waits g fs f p r = sym (on_path_reverse g p f fs (piece_closed r))

-- ---- places ----

-- In an entry.
pub going_inside : (g : Story) (fs : List Frame) (f : Frame) (r : Run) → 0 < f.at → going_in g (f ∷ fs) r ≡ reading_at g fs f r
going_inside g fs f r h =
    ap (loop_resolved g fs) (plain_inside g (deeper g (length fs)) (length fs) f.table f.entry f.at f.acted r h)

-- Before an entry.
going_before : (g : Story) (fs : List Frame) (f : Frame) (r : Run) → f.at ≡ 0
    → going_in g (f ∷ fs) r ≡ loop_resolved g fs (from_condact g (deeper g (length fs)) (length fs) f.table f.entry 0 f.acted r)
going_before g fs f r h = rw h refl

pub going_left : (g : Story) (fs : List Frame) (f : Frame) (r : Run) → f.at ≡ 0
    → match_at g.game f.table f.entry (flag r.world VERB_FLAG) (flag r.world NOUN_FLAG) ≡ None
    → going_in g (f ∷ fs) r ≡ loop_resolved g fs (Left f.acted r)
going_left g fs f r zero_at h =
    going_before g fs f r zero_at
    ∙ ap (loop_resolved g fs) (plain_left g (deeper g (length fs)) (length fs) f.table f.entry f.acted r h)

pub going_match : (g : Story) (fs : List Frame) (f : Frame) (r : Run) (found : ℕ) → f.at ≡ 0
    → match_at g.game f.table f.entry (flag r.world VERB_FLAG) (flag r.world NOUN_FLAG) ≡ Some found
    → going_in g (f ∷ fs) r ≡ reading_at g fs (record { table = f.table; entry = found; at = 0; acted = f.acted }) r
going_match g fs f r found zero_at h =
    going_before g fs f r zero_at
    ∙ ap (loop_resolved g fs) (plain_match g (deeper g (length fs)) (length fs) f.table f.entry found f.acted r h)

-- Past the last condact of an entry.
pub reading_end : (g : Story) (fs : List Frame) (f : Frame) (r : Run) → condact_at g.game f.table f.entry f.at ≡ None
    → reading_at g fs f r ≡ along g fs (rest_of_table g (length fs) f.table (f.entry + 1) 0 f.acted r)
reading_end g fs f r h =
    ap (loop_resolved g fs) (inside_end g (deeper g (length fs)) (length fs) f.table f.entry f.at f.acted r h) ∙ rw add-one refl

-- At a condact.
pub reading_condact : (g : Story) (fs : List Frame) (f : Frame) (r : Run) (c : Condact) → condact_at g.game f.table f.entry f.at ≡ Some c
    → length r.read < READ_LIMIT
    → reading_at g fs f r ≡ loop_resolved g fs (reads_one g (deeper g (length fs)) (length fs) f (next_of g fs f) (past_of g fs f) c r)
reading_condact g fs f r c h low =
    ap (loop_resolved g fs) (inside_condact g (deeper g (length fs)) (length fs) f.table f.entry f.at f.acted r c h ∙ within_budget r _ low)

-- The budget is used up.
pub reading_none : (g : Story) (fs : List Frame) (f : Frame) (r : Run) (c : Condact) →
    condact_at g.game f.table f.entry f.at ≡ Some c → READ_LIMIT ≤ length r.read →
    reading_at g fs f r ≡ halts (halt.Spent spent.Condacts) r
reading_none g fs f r c h low =
    ap (loop_resolved g fs) (inside_condact g (deeper g (length fs)) (length fs) f.table f.entry f.at f.acted r c h ∙ within_none r _ low)
    ∙ along_stopped g fs (Halts (halt.Spent spent.Condacts)) r
