-- What the reading of tables takes, by what the tables take that they call.
use Rattle.std.proofs.Common.{◌≡◌, ℕ, zero, suc, ◌+◌, ◌*◌, Bool, true, false, cond, List, [], length}
use Rattle.std.proofs.Common.{refl, sym, ap, ◌∙◌, arith}
use Rattle.std.specs.Prelude.{◌==◌, count_by}
use Rattle.paw_base.specs.declared.codes.TheConstants.{DOALL}
use Rattle.paw_base.specs.declared.limits.TheConstants.{LEVEL_LIMIT}
use Rattle.paw_base.specs.declared.parts.Condact.{Condact}
use Rattle.paw_game.specs.Game.{GameLists}
use Rattle.paw_game.specs.Tables.{table_at}
use Rattle.paw_game.specs.declared.parts.Entry.{Entry}
use Rattle.paw_check.specs.Calls.{calls_table, turn_tables}
use Rattle.paw_check.specs.Costs.{cost, counting, passed_over, with_call, all_verbs}
use Rattle.paw_check.specs.inner.Capped.{in_32_bits, cell_at, condacts_of_entries, VerbCosts}
use Rattle.paw_check.specs.inner.Levels.{HoldsLevel, HoldsCosts, most_taken, round_taken}
use Rattle.paw_check.proofs.Capped.{add_alike, product_alike, sum_alike, from_capped}
use Rattle.paw_check.proofs.Entries.{sum_same}
use Rattle.paw_check.proofs.FoundLaws.{cell_past}
use Rattle.paw_check.proofs.Greatest.{greatest_alike}

-- ---- condacts that take the same but for the cap ----

pub call_alike : (own own' : Condact → ℕ) (f h : ℕ → ℕ) → ((c : Condact) → in_32_bits (own c) ≡ in_32_bits (own' c))
    → ((u : ℕ) → in_32_bits (f u) ≡ in_32_bits (h u)) → (c : Condact) → in_32_bits (with_call own f c) ≡ in_32_bits (with_call own' h c)
call_alike own own' f h same calls c = add_alike (own c) (own' c) _ _ (same c) (at (calls_table c)) where
  at : (b : Bool) → in_32_bits (cond b (f c.a) 0) ≡ in_32_bits (cond b (h c.a) 0)
  at true = calls c.a
  at false = refl

pub passed_alike : (g : GameLists) (t t' : Condact → ℕ) (cs : List Condact) → ((c : Condact) → in_32_bits (t c) ≡ in_32_bits (t' c))
    → in_32_bits (passed_over g t cs) ≡ in_32_bits (passed_over g t' cs)
passed_alike g t t' cs same = product_alike _ _ _ _ refl (sum_alike t t' cs same)

-- ---- levels ----

cost_none : (g : GameLists) (own : Condact → ℕ) (count : List Entry → List Entry) (t : ℕ)
    → cost g own count 0 t ≡ passed_over g own (condacts_of_entries (count (table_at g t)))
unfolding cost
cost_none g own count t = refl

cost_more : (g : GameLists) (own : Condact → ℕ) (count : List Entry → List Entry) (n t : ℕ)
    → cost g own count (suc n) t ≡ passed_over g (with_call own (cost g own count n)) (condacts_of_entries (count (table_at g t)))
unfolding cost
cost_more g own count n t = refl

-- A condact takes no more where the tables that it may call take nothing.
no_call : (own : Condact → ℕ) (v : ℕ) (c : Condact) → with_call own (λ u. cell_at [] u v) c ≡ own c
no_call own v c = at (calls_table c) where
  none : cell_at [] c.a v ≡ 0
  none = cell_past [] c.a v (omega arith)

  at : (b : Bool) → own c + cond b (cell_at [] c.a v) 0 ≡ own c
  at true = omega (arith, none)
  at false = omega arith

pub first_costs : (g : GameLists) (own : Condact → ℕ) (changing : Bool) (rows : VerbCosts)
    → HoldsLevel g own changing [] rows → HoldsCosts g own changing 0 rows
first_costs g own changing rows holds = λ t v low.
    holds t v low
    ∙ ap (λ (k : ℕ). in_32_bits ((1 + length g.objects * count_by (λ c. c.code == DOALL) (condacts_of_entries (counting changing v (table_at g t)))) * k))
    (sum_same _ own (condacts_of_entries (counting changing v (table_at g t))) (no_call own v))
    ∙ ap in_32_bits (sym (cost_none g own (counting changing v) t))

pub next_costs : (g : GameLists) (own : Condact → ℕ) (changing : Bool) (n : ℕ) (called rows : VerbCosts)
    → HoldsCosts g own changing n called → HoldsLevel g own changing called rows
    → HoldsCosts g own changing (suc n) rows
next_costs g own changing n called rows below holds = λ t v low.
    holds t v low
    ∙ passed_alike g _ (with_call own (cost g own (counting changing v) n)) (condacts_of_entries (counting changing v (table_at g t)))
    (call_alike own own _ _ (λ c. refl) (λ u. from_capped _ _ (below u v low)))
    ∙ ap in_32_bits (sym (cost_more g own (counting changing v) n t))

-- ---- what condacts take of their own ----

cost_alike : (g : GameLists) (own own' : Condact → ℕ) (count : List Entry → List Entry) → ((c : Condact) → in_32_bits (own c) ≡ in_32_bits (own' c))
    → (n t : ℕ) → in_32_bits (cost g own count n t) ≡ in_32_bits (cost g own' count n t)
cost_alike g own own' count same zero t =
    ap in_32_bits (cost_none g own count t) ∙ passed_alike g own own' (condacts_of_entries (count (table_at g t))) same
    ∙ ap in_32_bits (sym (cost_none g own' count t))
cost_alike g own own' count same (suc n) t =
    ap in_32_bits (cost_more g own count n t)
    ∙ passed_alike g (with_call own (cost g own count n)) (with_call own' (cost g own' count n)) (condacts_of_entries (count (table_at g t)))
    (call_alike own own' (cost g own count n) (cost g own' count n) same (cost_alike g own own' count same n))
    ∙ ap in_32_bits (sym (cost_more g own' count n t))

pub round_alike : (g : GameLists) (own own' : Condact → ℕ) (changing : Bool) → ((c : Condact) → in_32_bits (own c) ≡ in_32_bits (own' c))
    → in_32_bits (round_taken g own changing) ≡ in_32_bits (round_taken g own' changing)
round_alike g own own' changing same =
    sum_alike (most_taken g own changing) (most_taken g own' changing) turn_tables (λ t.
    greatest_alike _ _ all_verbs (λ verb. cost_alike g own own' (counting changing verb) same LEVEL_LIMIT t))
