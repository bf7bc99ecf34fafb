-- The rules of reading, as equations.
use Rattle.std.proofs.Common.{◌≡◌, ℕ, zero, suc, ◌+◌, ◌-◌, ◌≤◌, ◌<◌, Bool, true, false, List, [], ◌∷◌, Option, Some}
use Rattle.std.proofs.Common.{None, refl, sym, ap, ◌∙◌, length, drop, arith}
use Rattle.std.specs.Prelude.{◌==◌, if◌then◌else◌, nat_lt}
use Rattle.std.proofs.lemmas.Bool.Decides.{nat_tests}
use Rattle.std.proofs.lemmas.Bool.{eqb-true}
use Rattle.std.proofs.lemmas.List.{length-drop}
use Rattle.std.proofs.lemmas.Option.{slice_get_past}
use Rattle.paw_base.specs.declared.limits.TheConstants.{READ_LIMIT, LEVEL_LIMIT}
use Rattle.paw_base.specs.declared.parts.Condact.{Condact}
use Rattle.paw_base.specs.declared.fault.SpentKind.TheVariants as spent
use Rattle.paw_base.specs.declared.flags.TheConstants.{VERB_FLAG, NOUN_FLAG}
use Rattle.paw_game.specs.declared.parts.Entry.{Entry}
use Rattle.paw_game.specs.Game.{GameLists}
use Rattle.paw_effects.specs.Story.{Story}
use Rattle.paw_game.specs.Tables.{table_at, entry_at, condacts_of, condact_at, matches}
use Rattle.paw_game.specs.inner.Tables.{first_match, match_at}
use Rattle.paw_world.specs.World.{flag}
use Rattle.paw_reading.specs.declared.frames.Frame.{Frame}
use Rattle.paw_reading.specs.declared.frames.OpenLoop.{OpenLoop}
use Rattle.paw_reading.specs.Run.{Run}
use Rattle.paw_reading.specs.declared.halt.Halt.TheVariants as halt
use Rattle.paw_reading.specs.Reading.{Out, Left, Waits, Stopped, halts, within, after_call, at_level, next_object_or}
use Rattle.paw_reading.specs.Reading.{reads_one, condacts, is_for_now, entries, rest_of_entry, from_condact}
use Rattle.paw_reading.specs.Reading.{rest_of_loop}
use Rattle.paw_reading.specs.Reading.{table_called, deeper, rest_of_table}
use Rattle.paw_reading.proofs.Lists.{drop_none, drop_some, drop_more}

-- The budget holds, or is used up.
pub within_budget : (r : Run) (x : Out) → length r.read < READ_LIMIT → within r x ≡ x
within_budget r x h = let t : nat_lt (length r.read) READ_LIMIT ≡ true = grind (arith, nat_tests) in rw t refl

pub within_none : (r : Run) (x : Out) → READ_LIMIT ≤ length r.read → within r x ≡ halts (halt.Spent spent.Condacts) r
within_none r x h = let t : nat_lt (length r.read) READ_LIMIT ≡ false = grind (arith, nat_tests) in rw t refl

-- ---- the loop of a level ----

pub at_level_own : (lv : ℕ) (l : OpenLoop) → l.level ≡ lv → at_level lv (Some l) ≡ Some l
at_level_own lv l h = grind (arith, nat_tests)

chosen : (b : Bool) (l l' : OpenLoop) → ◌≡◌ {A = Option OpenLoop} (if b then Some l else None) (Some l') → (b ≡ true) × (l ≡ l')
chosen true l l' h = (refl, cc)
chosen false l l' h = cc

pub at_level_is : (lv : ℕ) (o : Option OpenLoop) (l : OpenLoop) → at_level lv o ≡ Some l → (l.level ≡ lv) × (o ≡ Some l)
at_level_is lv None l h = cc
at_level_is lv (Some l') l h =
    let t = chosen (l'.level == lv) l' l h in (ap (λ x. x.level) (sym t.1) ∙ eqb-true _ _ t.0, ap Some t.1)

-- ---- a table ----

module _ (g : Story) (sub : ℕ → Run → Out) (lv : ℕ) where
  -- Past the last condact of an entry.
  pub inside_end : (t e k : ℕ) (a : Bool) (r : Run) → condact_at g.game t e k ≡ None → rest_of_entry g sub lv t e k a r ≡ from_condact g sub lv t (suc e) 0 a r
  unfolding condacts
  inside_end t e k a r h = rw (drop_none (condacts_of (entry_at g.game t e)) k h) refl

  -- At a condact.
  pub inside_condact : (t e k : ℕ) (a : Bool) (r : Run) (c : Condact) → condact_at g.game t e k ≡ Some c → rest_of_entry g sub lv t e k a r
      ≡ within r
      (reads_one g sub lv (record { table = t; entry = e; at = k; acted = a }) (from_condact g sub lv t (suc e) 0) (from_condact g sub lv t e (suc k)) c r)
  unfolding condacts
  inside_condact t e k a r c h = rw (drop_some (condacts_of (entry_at g.game t e)) k c h) refl

  -- No entry of these matches.
  entries_none : (t e : ℕ) (es : List Entry) (a : Bool) (r : Run)
      → first_match (flag r.world VERB_FLAG) (flag r.world NOUN_FLAG) e es ≡ None →
      entries g sub lv t e es a r ≡ Left a r
  unfolding entries
  entries_none t e [] a r h = refl
  entries_none t e (en ∷ es) a r h = go (entries_none t (suc e) es a r) (is_for_now r en) h
    where
      go : (first_match (flag r.world VERB_FLAG) (flag r.world NOUN_FLAG) (suc e) es ≡ None
          → entries g sub lv t (suc e) es a r ≡ Left a r) → (b : Bool) →
          ◌≡◌ {A = Option ℕ} (if b then Some e else first_match (flag r.world VERB_FLAG) (flag r.world NOUN_FLAG)
          (suc e) es) None →
          (if b then condacts g sub lv t e (entries g sub lv t (suc e) es) 0 en.condacts a r else entries g sub lv t (suc e) es a r) ≡ Left a r
      go later true q = cc
      go later false q = later q

  -- The first of these entries that matches.
  entries_some : (t e : ℕ) (es : List Entry) (a : Bool) (r : Run) (found : ℕ) → drop e (table_at g.game t) ≡ es →
      first_match (flag r.world VERB_FLAG) (flag r.world NOUN_FLAG) e es ≡ Some found
      → entries g sub lv t e es a r ≡ rest_of_entry g sub lv t found 0 a r
  unfolding entries
  entries_some t e [] a r found d h = cc
  entries_some t e (en ∷ es) a r found d h =
      go (entries_some t (suc e) es a r found (drop_more (table_at g.game t) es e en d).1) (is_for_now r en) h
    where
      here : (j : ℕ) → e ≡ j → condacts g sub lv t e (entries g sub lv t (suc e) es) 0 en.condacts a r ≡ rest_of_entry g sub lv t j 0 a r
      here j q = let m = drop_more (table_at g.game t) es e en d in rw (← q, m.0, m.1) refl

      go : (first_match (flag r.world VERB_FLAG) (flag r.world NOUN_FLAG) (suc e) es ≡ Some found
          → entries g sub lv t (suc e) es a r
          ≡ rest_of_entry g sub lv t found 0 a r) →
          (b : Bool) → ◌≡◌ {A = Option ℕ}
          (if b then Some e else first_match (flag r.world VERB_FLAG) (flag r.world NOUN_FLAG) (suc e) es)
          (Some found) →
          (if b then condacts g sub lv t e (entries g sub lv t (suc e) es) 0 en.condacts a r else entries g sub lv t (suc e) es a r)
          ≡ rest_of_entry g sub lv t found 0 a r
      go later true q = let j : e ≡ found = cc in here found j
      go later false q = later q

  -- Before an entry, where none matches any more.
  pub plain_left : (t e : ℕ) (a : Bool) (r : Run)
      → match_at g.game t e (flag r.world VERB_FLAG) (flag r.world NOUN_FLAG) ≡ None
      → from_condact g sub lv t e 0 a r ≡ Left a r
  plain_left t e a r h = entries_none t e (drop e (table_at g.game t)) a r h

  -- Before an entry, where this one matches next.
  pub plain_match : (t e found : ℕ) (a : Bool) (r : Run)
      → match_at g.game t e (flag r.world VERB_FLAG) (flag r.world NOUN_FLAG) ≡ Some found →
      from_condact g sub lv t e 0 a r ≡ rest_of_entry g sub lv t found 0 a r
  plain_match t e found a r h = entries_some t e (drop e (table_at g.game t)) a r found refl h

  -- In an entry.
  pub plain_inside : (t e k : ℕ) (a : Bool) (r : Run) → 0 < k → from_condact g sub lv t e k a r ≡ rest_of_entry g sub lv t e k a r
  plain_inside t e zero a r h = absurd (omega arith)
  plain_inside t e (suc k) a r h = refl

  -- Past the last entry.
  pub plain_past : (t e : ℕ) (a : Bool) (r : Run) → length (table_at g.game t) ≤ e → from_condact g sub lv t e 0 a r ≡ Left a r
  unfolding entries
  plain_past t e a r h = rw (drop_none (table_at g.game t) e (slice_get_past (table_at g.game t) e h)) refl

  -- Past the last entry.
  pub plain_end : (t e : ℕ) (a : Bool) (r : Run) → entry_at g.game t e ≡ None → from_condact g sub lv t e 0 a r ≡ Left a r
  unfolding entries
  plain_end t e a r h = rw (drop_none (table_at g.game t) e h) refl

  -- At an entry.
  pub plain_entry : (t e : ℕ) (en : Entry) (a : Bool) (r : Run) → entry_at g.game t e ≡ Some en →
      from_condact g sub lv t e 0 a r ≡ (if is_for_now r en then rest_of_entry g sub lv t e 0 a r else from_condact g sub lv t (suc e) 0 a r)
  unfolding entries
  plain_entry t e en a r h = rw (drop_some (table_at g.game t) e en h, h) refl

  -- The loop goes on after the call.
  pub after_call_again : (f : Frame) (go : Bool → Run → Out) (x : Out) →
      next_object_or lv (rest_of_loop g sub lv) (after_call f go x) ≡ after_call f (λ a r. next_object_or lv (rest_of_loop g sub lv) (go a r)) x
  after_call_again f go (Left b r) = refl
  after_call_again f go (Waits p path r) = refl
  after_call_again f go (Stopped stop r) = refl

-- A table that is called is read at the next level.
pub deeper_rest : (g : Story) (lv u : ℕ) (r : Run) → lv < LEVEL_LIMIT → deeper g lv u r ≡ rest_of_table g (suc lv) u 0 0 false r
unfolding table_called
deeper_rest g lv u r h = let e : LEVEL_LIMIT - lv ≡ suc (LEVEL_LIMIT - suc lv) = omega arith in rw e refl

-- At the deepest level no table can be called.
pub deeper_none : (g : Story) (lv u : ℕ) (r : Run) → LEVEL_LIMIT ≤ lv → deeper g lv u r ≡ halts (halt.TooDeep u) r
unfolding table_called
deeper_none g lv u r h = let e : LEVEL_LIMIT - lv ≡ 0 = omega arith in rw e refl

-- The entry that matches next isn't below the one from which it is looked for, and stands in the table.
found_within : (verb noun e : ℕ) (es : List Entry) (found : ℕ) → first_match verb noun e es ≡ Some found → (e ≤ found) × (found < e + length es)
found_within verb noun e [] found h = cc
found_within verb noun e (en ∷ es) found h = go (found_within verb noun (suc e) es found) (matches verb noun en) h
  where
    go : (first_match verb noun (suc e) es ≡ Some found → (suc e ≤ found) × (found < suc e + length es)) → (b : Bool) →
        ◌≡◌ {A = Option ℕ} (if b then Some e else first_match verb noun (suc e) es) (Some found) → (e ≤ found) × (found < e + suc (length es))
    go later true q = let j : e ≡ found = cc in (omega arith, omega arith)
    go later false q = let m = later q in (omega (arith, m.0), omega (arith, m.1))

pub match_within : (g : GameLists) (t from verb noun found : ℕ) → match_at g t from verb noun ≡ Some found → (from ≤ found) × (found < length (table_at g t))
match_within g t from verb noun found h =
    let m = found_within verb noun from (drop from (table_at g t)) found h in
    (m.0, omega (arith, m.0, m.1, length-drop from (table_at g t)))
