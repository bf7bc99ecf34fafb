-- Which tables reading may reach, level by level.
use Rattle.std.proofs.Common.{◌≡◌, ℕ, zero, suc, ◌+◌, ◌≤◌, ◌<◌, ◌==◌, ◌||◌, Bool, true, false, List, [], ◌∷◌, ◌⊎◌, inl}
use Rattle.std.proofs.Common.{inr, Option, Some}
use Rattle.std.proofs.Common.{None, refl, sym, ap, subst, length, slice_get, arith, IsTrue}
use Rattle.std.specs.Prelude.{nat_le, nat_lt, count_by, cond}
use Rattle.std.specs.List.{list_all, list_any, flat_map, range_with_len, AllByRecursion}
use Rattle.std.specs.Option.{option_map_or}
use Rattle.std.proofs.lemmas.Bool.{or_cases, eqb-true, ltb-true, ltb-false}
use Rattle.std.proofs.lemmas.Bool.Decides.{nat_tests}
use Rattle.std.proofs.lemmas.List.Sums.{sum_by-cons}
use Rattle.paw_base.specs.declared.limits.TheConstants.{ENTRY_LIMIT, CONDACT_LIMIT, LEVEL_LIMIT}
use Rattle.paw_base.specs.declared.codes.TheConstants.{PROCESS}
use Rattle.paw_base.specs.declared.words.TheConstants.{NOUN_CLASS}
use Rattle.paw_base.specs.declared.parts.Condact.{Condact}
use Rattle.paw_base.specs.declared.rows.ParamKind.TheVariants as kind
use Rattle.paw_base.specs.Condacts.{condact_lines, line_of, plain_line, is_indirect, first_kind}
use Rattle.paw_game.specs.declared.parts.Entry.{Entry}
use Rattle.paw_game.specs.Game.{GameLists}
use Rattle.paw_game.specs.Tables.{table_at, entry_at, condacts_of, condact_at}
use Rattle.paw_game.specs.Valid.{Valid, is_condact, is_entry, is_wildcard, is_verb_value, has_word}
use Rattle.paw_game.proofs.ValidGames.{first_of_and, second_of_and, table_follows}
use Rattle.paw_game.proofs.Right.{right_condact}
use Rattle.paw_effects.proofs.Placed.{first_follows}
use Rattle.paw_check.specs.Verbs.{is_among}
use Rattle.paw_check.specs.Calls.{turn_tables, all_tables, calls_table, is_call_of, table_condacts, called_below}
use Rattle.paw_check.specs.Calls.{reached_from, most_levels}
use Rattle.paw_check.specs.Verdicts.{entry_with, first_with}
use Rattle.paw_check.proofs.Members.{In, or_left, or_right, any_front, any_behind, any_of_joined, any_within, Found}
use Rattle.paw_check.proofs.Members.{found_within, any_weaker, in_filtered, of_filtered}
use Rattle.paw_check.proofs.Members.{in_range, of_range, no_position}

-- ---- what a condact of a table is found by ----

-- Each test that this condact passes finds one among these.
abbrev pub Member : List Condact → Condact → Type 0
Member all c = (p : Condact → Bool) → p c ≡ true → list_any p all ≡ true

-- Each test that finds one of these finds one among all.
abbrev IsPart : List Condact → List Condact → Type 0
IsPart all cs = (p : Condact → Bool) → list_any p cs ≡ true → list_any p all ≡ true

-- What holds of each member that follows its rules holds of each condact of these.
module _ (g : GameLists) (all : List Condact) (Q : Condact → Type 0) (holds : (c : Condact) → Member all c → IsTrue (is_condact g c) → Q c) where
  each_member : (cs : List Condact) → IsTrue (list_all (is_condact g) cs) → IsPart all cs → AllByRecursion Q cs
  each_member [] kept part = tt
  each_member (c ∷ cs) kept part = (
    holds c (λ p e. part p (or_left (p c) (list_any p cs) e)) (first_of_and (is_condact g c) _ kept),
    each_member cs (second_of_and (is_condact g c) _ kept) (λ p e. part p (or_right (p c) (list_any p cs) e)),
  )

  entry_condacts : (en : Entry) → IsTrue (is_entry g en) → IsTrue (list_all (is_condact g) en.condacts)
  entry_condacts en h =
      second_of_and (nat_le (length en.condacts) CONDACT_LIMIT) _
      (second_of_and (is_wildcard en.noun || has_word g.words NOUN_CLASS en.noun) _ (second_of_and (is_wildcard en.verb || is_verb_value g.words en.verb) _ h))

  each_entry : (es : List Entry) → IsTrue (list_all (is_entry g) es) → IsPart all (flat_map (λ e. e.condacts) es) →
      AllByRecursion (λ en. AllByRecursion Q en.condacts) es
  each_entry [] kept part = tt
  each_entry (en ∷ es) kept part = (
    each_member en.condacts (entry_condacts en (first_of_and (is_entry g en) _ kept))
        (λ p e. part p (any_front p en.condacts (flat_map (λ e. e.condacts) es) e)),
    each_entry es (second_of_and (is_entry g en) _ kept) (λ p e. part p (any_behind p en.condacts (flat_map (λ e. e.condacts) es) e)),
  )

-- And so of each of a table.
pub each_of_table : (g : GameLists) (v : Valid g) (t : ℕ) (Q : Condact → Type 0) →
    ((c : Condact) → Member (table_condacts g t) c → IsTrue (is_condact g c) → Q c) → AllByRecursion (λ en. AllByRecursion Q en.condacts) (table_at g t)
each_of_table g v t Q holds =
    each_entry g (table_condacts g t) Q holds (table_at g t) (second_of_and (nat_le (length (table_at g t)) ENTRY_LIMIT) _ (table_follows g v t)) (λ p e. e)

all_at : {A : Type 0} (P : A → Type 0) (xs : List A) → AllByRecursion P xs → (k : ℕ) (x : A) → slice_get xs k ≡ Some x → P x
all_at P [] all k x h = cc
all_at P (y ∷ xs) all zero x h = let e : y ≡ x = cc in subst P e all.0
all_at P (y ∷ xs) all (suc k) x h = all_at P xs all.1 k x h

-- What holds of each condact of a table holds of the one that stands somewhere in it.
pub each_at : (g : GameLists) (t e k : ℕ) (c : Condact) (Q : Condact → Type 0) → AllByRecursion (λ en. AllByRecursion Q en.condacts) (table_at g t) →
    condact_at g t e k ≡ Some c → Q c
each_at g t e k c Q all h = by_entry (entry_at g t e) refl h
  where
    by_entry : (o : Option Entry) → entry_at g t e ≡ o → slice_get (condacts_of o) k ≡ Some c → Q c
    by_entry None is here = cc
    by_entry (Some en) is here = all_at Q en.condacts (all_at (λ n. AllByRecursion Q n.condacts) (table_at g t) all e en is) k c here

-- ---- condacts of a table, one by one ----

any_entry : (is_so : Condact → Bool) (es : List Entry) → list_any is_so (flat_map (λ e. e.condacts) es) ≡ true →
    list_any (λ (e : Entry). list_any is_so e.condacts) es ≡ true
any_entry is_so [] h = cc
any_entry is_so (en ∷ es) h =
    elim (any_of_joined is_so en.condacts (flat_map (λ e. e.condacts) es) h) [
      | inl here ↦ or_left (list_any is_so en.condacts) (list_any (λ (e : Entry). list_any is_so e.condacts) es) here
      | inr later ↦ or_right (list_any is_so en.condacts) (list_any (λ (e : Entry). list_any is_so e.condacts) es) (any_entry is_so es later)
    ]

-- Neither here nor later.
record NoSpot (t : ℕ) (here : Option ℕ) (later : Option (ℕ × ℕ)) : Type 0 where
  none_here : here ≡ None
  none_later : later ≡ None

no_spot : (t : ℕ) (here : Option ℕ) (later : Option (ℕ × ℕ)) →
    ◌≡◌ {A = Option (ℕ × ℕ)} (option_map_or (λ (e : ℕ). Some (t, e)) here later) None → NoSpot t here later
no_spot t None later h = record { none_here = refl; none_later = h }
no_spot t (Some e) later h = cc

-- Where there is no spot none of these tables has such a condact.
pub no_first : (g : GameLists) (is_so : Condact → Bool) (ts : List ℕ) → first_with g is_so ts ≡ None → (t : ℕ) → In t ts →
    list_any is_so (table_condacts g t) ≡ true → ⊥
no_first g is_so [] none t at h = cc
no_first g is_so (u ∷ us) none t at h =
    let k : NoSpot u (entry_with is_so (table_at g u)) (first_with g is_so us) =
    no_spot u (entry_with is_so (table_at g u)) (first_with g is_so us) none in
    elim (or_cases (u == t) (is_among us t) at) [
      | inl here ↦
          no_position (λ (e : Entry). list_any is_so e.condacts) (table_at g u) k.none_here
          (any_entry is_so (table_at g u) (subst (λ w. list_any is_so (table_condacts g w) ≡ true) (sym (eqb-true u t here)) h))
      | inr later ↦ no_first g is_so us k.none_later t later h
    ]

-- ---- levels ----

process_takes : first_kind PROCESS ≡ kind.Table
unfolding condact_lines line_of plain_line is_indirect
process_takes = refl

same_table : (c : Condact) → c.code ≡ PROCESS → is_call_of c.a c ≡ true
same_table c is = grind (arith, nat_tests)

module _ (g : GameLists) (v : Valid g) (ts : List ℕ) where
  -- The table that a PROCESS calls is one of the game.
  called_table : (c : Condact) → IsTrue (is_condact g c) → c.code ≡ PROCESS → c.a < length g.tables
  called_table c kept is = ltb-true c.a (length g.tables) (first_follows g c PROCESS kind.Table process_takes is (right_condact g c v kept))

  -- It stands one level below.
  pub calls_below : (n t : ℕ) → In t (called_below g ts n) → (c : Condact) → Member (table_condacts g t) c → IsTrue (is_condact g c) → c.code ≡ PROCESS →
      In c.a (called_below g ts (suc n))
  unfolding called_below
  calls_below n t at c is kept process =
      in_filtered (λ u. list_any (is_call_of u) (flat_map (table_condacts g) (called_below g ts n))) (all_tables g) c.a
      (any_within (is_call_of c.a) (table_condacts g) (called_below g ts n) t at (is (is_call_of c.a) (same_table c process)))
      (in_range 0 (length g.tables) c.a (omega arith) (omega (arith, called_table c kept process)))

  -- The tables of a level are the game's.
  pub of_game : ((t : ℕ) → In t ts → t < length g.tables) → (n t : ℕ) → In t (called_below g ts n) → t < length g.tables
  unfolding called_below
  of_game few zero t at = few t at
  of_game few (suc n) t at =
      omega (
        arith,
        of_range 0 (length g.tables) t
            (of_filtered (λ u. list_any (is_call_of u) (flat_map (table_condacts g) (called_below g ts n))) (all_tables g) t at).among,
      )

  -- Within ten levels they are reached.
  pub in_reached : (n t : ℕ) → n ≤ LEVEL_LIMIT → In t (called_below g ts n) → t < length g.tables → In t (reached_from g ts)
  in_reached n t low at few =
      in_filtered (is_among (flat_map (called_below g ts) (range_with_len 0 (suc LEVEL_LIMIT)))) (all_tables g) t
      (any_within (λ m. m == t) (called_below g ts) (range_with_len 0 (suc LEVEL_LIMIT)) n (in_range 0 (suc LEVEL_LIMIT) n (omega arith) (omega arith)) at)
      (in_range 0 (length g.tables) t (omega arith) (omega arith))

  -- No table stands at this level.
  abbrev pub NoneAt : ℕ → Type 0
  NoneAt n = (t : ℕ) → In t (called_below g ts n) → ⊥

  -- A table at a level is called by one above it.
  caller : (n t : ℕ) → In t (called_below g ts (suc n)) → Found (is_call_of t) (table_condacts g) (called_below g ts n)
  unfolding called_below
  caller n t at =
      found_within (is_call_of t) (table_condacts g) (called_below g ts n)
      (of_filtered (λ u. list_any (is_call_of u) (flat_map (table_condacts g) (called_below g ts n))) (all_tables g) t at).passes

  none_below : (n : ℕ) → NoneAt n → NoneAt (suc n)
  none_below n none t at = let k = caller n t at in none k.place k.among

  pub none_further : (n k : ℕ) → NoneAt n → NoneAt (n + k)
  none_further n zero none = let e : n ≡ n + 0 = omega arith in subst NoneAt e none
  none_further n (suc k) none = let e : suc (n + k) ≡ n + suc k = omega arith in subst NoneAt e (none_below (n + k) (none_further n k none))

  is_a_call : (u : ℕ) (c : Condact) → is_call_of u c ≡ true → calls_table c ≡ true
  is_a_call u c h = first_of_and (calls_table c) (c.a == u) h

  -- Below a level without calls.
  pub none_called : (n : ℕ) → first_with g calls_table (called_below g ts n) ≡ None → NoneAt (suc n)
  none_called n none t at =
      let k = caller n t at in
      no_first g calls_table (called_below g ts n) none k.place k.among (any_weaker (is_call_of t) calls_table (is_a_call t) (table_condacts g k.place) k.found)

-- ---- how many levels there are ----

abbrev has_tables : GameLists → ℕ → Bool
has_tables g n = nat_lt 0 (length (called_below g turn_tables n))

no_tables : (ts : List ℕ) → nat_lt 0 (length ts) ≡ false → (t : ℕ) → In t ts → ⊥
no_tables [] h t at = cc
no_tables (u ∷ us) h t at = absurd (omega (arith, ltb-false 0 (suc (length us)) h))

module _ (g : GameLists) (v : Valid g) where
  abbrev None_at : ℕ → Type 0
  None_at n = NoneAt g v turn_tables n

  -- Of these levels as many as have a table are the first ones, or all have.
  first_levels : (a k : ℕ) → None_at (a + count_by (has_tables g) (range_with_len a k)) ⊎ (count_by (has_tables g) (range_with_len a k) ≡ k)
  first_levels a zero = inr refl
  first_levels a (suc k) =
      let more : count_by (has_tables g) (range_with_len a (suc k))
      ≡ cond (has_tables g a) 1 0 + count_by (has_tables g) (range_with_len (a + 1) k) =
      sum_by-cons (λ x. cond (has_tables g x) 1 0) a (range_with_len (a + 1) k) in
      go (has_tables g a) refl more (first_levels (a + 1) k)
    where
      go : (b : Bool) → has_tables g a ≡ b →
          count_by (has_tables g) (range_with_len a (suc k)) ≡ cond (has_tables g a) 1 0 + count_by (has_tables g) (range_with_len (a + 1) k) →
          None_at ((a + 1) + count_by (has_tables g) (range_with_len (a + 1) k)) ⊎ (count_by (has_tables g) (range_with_len (a + 1) k) ≡ k) →
          None_at (a + count_by (has_tables g) (range_with_len a (suc k))) ⊎ (count_by (has_tables g) (range_with_len a (suc k)) ≡ suc k)
      go false e more later =
          inl (none_further g v turn_tables a (count_by (has_tables g) (range_with_len a (suc k))) (no_tables (called_below g turn_tables a) e))
      go true e more (inl none) =
          let one : ◌≡◌ {A = ℕ} (cond (has_tables g a) 1 0) 1 = ap (λ (b : Bool). cond b 1 0) e in
          let same : (a + 1) + count_by (has_tables g) (range_with_len (a + 1) k) ≡ a + count_by (has_tables g) (range_with_len a (suc k)) =
          omega (arith, one, more) in
          inl (subst None_at same none)
      go true e more (inr all) =
          let one : ◌≡◌ {A = ℕ} (cond (has_tables g a) 1 0) 1 = ap (λ (b : Bool). cond b 1 0) e in
          inr (omega (arith, one, more, all))

  -- Below as many levels as there are stands no table.
  pub none_behind : first_with g calls_table (called_below g turn_tables LEVEL_LIMIT) ≡ None → None_at (suc (most_levels g))
  none_behind calm = go (first_levels 1 LEVEL_LIMIT)
    where
      go : None_at (1 + most_levels g) ⊎ (most_levels g ≡ LEVEL_LIMIT) → None_at (suc (most_levels g))
      go (inl none) = let e : 1 + most_levels g ≡ suc (most_levels g) = omega arith in subst None_at e none
      go (inr all) = let e : suc LEVEL_LIMIT ≡ suc (most_levels g) = ap suc (sym all) in subst None_at e (none_called g v turn_tables LEVEL_LIMIT calm)
