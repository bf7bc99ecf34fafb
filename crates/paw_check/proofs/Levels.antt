-- Tables read the same with as many levels of calls as there are, and those after a description never describe again.
use Rattle.std.proofs.Common.{◌≡◌, ℕ, zero, suc, ◌+◌, ◌≤◌, ◌<◌, true, false, List, [], ◌∷◌, ◌⊎◌, inl, inr, Option}
use Rattle.std.proofs.Common.{None, refl, sym}
use Rattle.std.proofs.Common.{subst, length, arith}
use Rattle.std.specs.Prelude.{nat_le}
use Rattle.std.specs.List.{list_any, list_all, AllByRecursion}
use Rattle.std.proofs.lemmas.Bool.{leb-true}
use Rattle.std.proofs.lemmas.Bool.Decides.{nat_tests}
use Rattle.paw_base.specs.declared.codes.TheConstants.{PROCESS}
use Rattle.paw_base.specs.declared.limits.TheConstants.{LEVEL_LIMIT, TABLE_LEAST, TABLE_LIMIT}
use Rattle.paw_base.specs.declared.tables.TheConstants.{DESCRIBED_TABLE, FRAME_TABLE}
use Rattle.paw_base.specs.declared.parts.Condact.{Condact}
use Rattle.paw_base.specs.Condacts.{plain_code}
use Rattle.paw_game.specs.Game.{GameLists}
use Rattle.paw_game.specs.Tables.{table_at}
use Rattle.paw_game.specs.Valid.{Valid, is_table, is_within}
use Rattle.paw_game.proofs.ValidGames.{first_of_and}
use Rattle.paw_world.specs.World.{World}
use Rattle.paw_effects.specs.Story.{Story}
use Rattle.paw_effects.specs.declared.act.Effect.{Effect}
use Rattle.paw_effects.specs.declared.act.Effect.TheVariants as effect
use Rattle.paw_effects.specs.Effects.{effect_of}
use Rattle.paw_effects.proofs.Asking.{Leads}
use Rattle.paw_effects.proofs.EachRow.{effect_leads}
use Rattle.paw_reading.specs.Bounds.{ValidStory}
use Rattle.paw_reading.specs.declared.frames.OpenLoop.{OpenLoop}
use Rattle.paw_reading.specs.Run.{Run}
use Rattle.paw_reading.specs.Reading.{Redescribes, Restarts, Halts, Out, Left, Waits, Stopped, read_at_level}
use Rattle.paw_reading.specs.Reading.{table_called, table_read}
use Rattle.paw_reading.proofs.EachStep.{Levels, BeforeEntry, itself, rest}
use Rattle.paw_check.specs.Calls.{turn_tables, table_condacts, called_below, most_levels}
use Rattle.paw_check.specs.Verdicts.{call_too_deep, redescribes}
use Rattle.paw_check.specs.Promise.{CallsWithin}
use Rattle.paw_check.specs.inner.Within.{LeavesDescribed, TablesLeaveDescribed}
use Rattle.paw_check.proofs.Members.{In}
use Rattle.paw_check.proofs.ActionFacts.{MayLead}
use Rattle.paw_check.proofs.Leading.{effect_goes}
use Rattle.paw_check.proofs.Alike.{LeadsOn, IsOpen, IsShut, Leaves, Alike, weaker, relation, steps, higher, lower}
use Rattle.paw_check.proofs.Reaching.{each_of_table, each_at, no_first, calls_below, of_game, in_reached, NoneAt, none_called}
use Rattle.paw_check.proofs.Reaching.{none_behind}

-- A condact after which the location is described again is one that may do so.
describing : (s : Story) (w : World) (c : Condact) → (effect_of s w c).act.effect ≡ effect.Redescribe → redescribes c ≡ true
describing s w c e = subst (MayLead (plain_code c.code)) e (effect_goes s w c)

module _ (s : Story) (v : Valid s.game) (ts : List ℕ) (few : (t : ℕ) → In t ts → t < length s.game.tables) (Describes : Type 0)
    (may : (n t : ℕ) → n ≤ LEVEL_LIMIT → In t (called_below s.game ts n) → list_any redescribes (table_condacts s.game t) ≡ true → Describes) where
  abbrev TablesAt : ℕ → ℕ → Type 0
  TablesAt n t = In t (called_below s.game ts n)

  abbrev Empty : ℕ → Type 0
  Empty n = NoneAt s.game v ts n

  -- A condact of a table at level n.
  record OnLevel (n : ℕ) (c : Condact) : Type 0 where
    calls : c.code ≡ PROCESS → TablesAt (suc n) c.a
    describes : redescribes c ≡ true → Describes

  on_level : (n t : ℕ) → n ≤ LEVEL_LIMIT → TablesAt n t → AllByRecursion (λ en. AllByRecursion (OnLevel n) en.condacts) (table_at s.game t)
  on_level n t low at =
      each_of_table s.game v t (OnLevel n)
      (λ c is kept. record { calls = calls_below s.game v ts n t at c is kept; describes = λ e. may n t low at (is redescribes e) })

  -- It leads on so.
  leads_on : (n : ℕ) (w : World) (c : Condact) → OnLevel n c → LeadsOn Describes (TablesAt (suc n)) (effect_of s w c).act.effect
  leads_on n w c k = go (effect_of s w c).act.effect refl (effect_leads s w c)
    where
      go : (e : Effect) → (effect_of s w c).act.effect ≡ e → Leads w c e → LeadsOn Describes (TablesAt (suc n)) e
      go effect.Go is l = tt
      go (effect.Exit a) is l = tt
      go effect.Redescribe is l = k.describes (describing s w c is)
      go (effect.Call u) is l = subst (TablesAt (suc n)) (sym l.1) (k.calls l.0)
      go (effect.Loop p) is l = tt
      go (effect.Ask p) is l = tt
      go effect.Parse is l = tt
      go effect.Spent is l = tt

  -- As many levels are left, or enough.
  abbrev Enough : ℕ → ℕ → ℕ → Type 0
  Enough n m lv = (lv + m ≡ LEVEL_LIMIT) × ((n ≡ m) ⊎ (Empty (suc (lv + n)) × Empty (suc (lv + m))))

  not_enough : (lv u : ℕ) → TablesAt (suc lv) u → Empty (suc (lv + 0)) → ⊥
  not_enough lv u at none = let e : suc (lv + 0) ≡ suc lv = omega arith in (subst Empty e none) u at

  fewer : (n m lv : ℕ) → Enough (suc n) (suc m) lv → Enough n m (suc lv)
  fewer n m lv (ten, inl e) = (omega (arith, ten), inl (omega (arith, e)))
  fewer n m lv (ten, inr none) =
      let one : suc (lv + suc n) ≡ suc (suc lv + n) = omega arith in
      let other : suc (lv + suc m) ≡ suc (suc lv + m) = omega arith in
      (omega (arith, ten), inr (subst Empty one none.0, subst Empty other none.1))

  -- No call is too deep in one way only.
  not_once : (lv n u : ℕ) → Enough zero (suc n) lv ⊎ Enough (suc n) zero lv → TablesAt (suc lv) u → ⊥
  not_once lv n u (inl (ten, inl e)) at = absurd (omega (arith, e))
  not_once lv n u (inl (ten, inr none)) at = not_enough lv u at none.0
  not_once lv n u (inr (ten, inl e)) at = absurd (omega (arith, e))
  not_once lv n u (inr (ten, inr none)) at = not_enough lv u at none.1

  -- Tables that are called from a level read alike with n levels left and with m, where these are all of ten.
  at_levels : Levels s itself ℕ (λ lv. lv) Enough (relation s Describes TablesAt)
  at_levels = record {
    below = λ lv u. suc lv;
    one_more = λ lv u. refl;
    fewer = fewer;
    steps = λ lv n m enough.
        steps s Describes TablesAt lv
        (λ f c w own stands. leads_on lv w c (each_at s.game f.table f.entry f.at c (OnLevel lv) (on_level lv f.table (omega (arith, enough.0)) own) stands))
        (table_called s n lv) (table_called s m lv);
    too_deep = λ lv u r own low. (refl, tt);
    deep_once = λ lv n u r x y odd own low. absurd (not_once lv n u odd own);
    called = λ lv n m u r x y enough h own low.
        weaker s Describes TablesAt (IsShut s Describes TablesAt (suc lv)) (IsOpen s Describes TablesAt lv) (lower s Describes TablesAt lv) x y
        (h own (higher s Describes TablesAt lv r.turning low));
  }

  none_open : (o : Option OpenLoop) → o ≡ None → IsOpen s Describes TablesAt 0 o
  none_open o e = subst (IsOpen s Describes TablesAt 0) (sym e) tt

  from_start : (n : ℕ) → (n ≡ LEVEL_LIMIT) ⊎ (Empty (suc n) × Empty (suc LEVEL_LIMIT)) → Enough n LEVEL_LIMIT 0
  from_start n (inl e) = (refl, inl e)
  from_start n (inr none) = let e : suc n ≡ suc (0 + n) = omega arith in (refl, inr (subst Empty e none.0, none.1))

  -- So does a table at level 0.
  pub table_alike : (n t : ℕ) → (n ≡ LEVEL_LIMIT) ⊎ (Empty (suc n) × Empty (suc LEVEL_LIMIT)) → In t ts → (r : Run) → r.turning ≡ None →
      Alike s Describes TablesAt (IsShut s Describes TablesAt 0) (read_at_level s (table_called s n 0) 0 t 0 0 false r) (table_read s t r)
  unfolding called_below
  table_alike n t enough at r none =
      rest s itself ℕ (λ lv. lv) Enough (relation s Describes TablesAt) at_levels n LEVEL_LIMIT 0 (from_start n enough) (BeforeEntry t 0) false r at
      (none_open r.turning none)

-- ---- the tables of a turn ----

pub some_tables : (g : GameLists) → Valid g → TABLE_LEAST ≤ length g.tables
some_tables g v =
    leb-true TABLE_LEAST (length g.tables)
    (first_of_and (nat_le TABLE_LEAST (length g.tables)) _
    (first_of_and (is_within TABLE_LEAST TABLE_LIMIT (length g.tables)) (list_all (is_table g) g.tables) v.tables))

pub one_of_three : (t : ℕ) → In t turn_tables → t < 3
one_of_three t at = grind (arith, nat_tests)

pub in_three : (t : ℕ) → t ≤ FRAME_TABLE → In t turn_tables
in_three zero low = refl
in_three (suc zero) low = refl
in_three (suc (suc zero)) low = refl
in_three (suc (suc (suc t))) low = absurd (omega arith)

one_of_two : (t : ℕ) → In t (DESCRIBED_TABLE ∷ FRAME_TABLE ∷ []) → t < 3
one_of_two t at = grind (arith, nat_tests)

-- With as many levels of calls as there are each table of a turn reads the same, where no call is too deep.
pub levels_hold : (s : Story) → ValidStory s → call_too_deep s.game ≡ None → CallsWithin (most_levels s.game) s
levels_hold s valid calm t r low none =
    (table_alike s valid.game turn_tables (λ u at. omega (arith, one_of_three u at, some_tables s.game valid.game)) (Unit {0}) (λ n u few at h. tt)
    (most_levels s.game) t (inr (none_behind s.game valid.game calm, none_called s.game valid.game turn_tables LEVEL_LIMIT calm)) (in_three t low) r none).0

never : (s : Story) (Own : ℕ → ℕ → Type 0) (P : Option OpenLoop → Type 0) (x : Out) → Leaves s ⊥ Own P x → LeavesDescribed x
never s Own P (Left a r) h = tt
never s Own P (Waits p path r) h = tt
never s Own P (Stopped Redescribes r) h = h
never s Own P (Stopped Restarts r) h = tt
never s Own P (Stopped (Halts halt) r) h = tt

-- A table that is read after a description, or in a time frame, never describes again where no table that it reaches
-- May.
pub tables_leave_described : TablesLeaveDescribed
tables_leave_described s t r valid quiet at none =
    let few : (u : ℕ) → In u (DESCRIBED_TABLE ∷ FRAME_TABLE ∷ []) → u < length s.game.tables = λ u two.
    omega (arith, one_of_two u two, some_tables s.game valid.game) in
    never s (λ n u. In u (called_below s.game (DESCRIBED_TABLE ∷ FRAME_TABLE ∷ []) n)) _ (table_read s t r)
    (table_alike s valid.game (DESCRIBED_TABLE ∷ FRAME_TABLE ∷ []) few ⊥
    (λ n u low two h.
    no_first s.game redescribes _ quiet u
    (in_reached s.game valid.game (DESCRIBED_TABLE ∷ FRAME_TABLE ∷ []) n u low two
    (of_game s.game valid.game (DESCRIBED_TABLE ∷ FRAME_TABLE ∷ []) few n u two)) h)
    LEVEL_LIMIT t (inl refl) at r none).1
