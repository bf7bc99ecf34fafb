-- What the reading of a table takes, as sums over its condacts.
use Rattle.std.proofs.Common.{◌≡◌, ℕ, zero, suc, ◌+◌, ◌*◌, ◌≤◌, ◌<◌, ◌==◌, Bool, true, false, List, [], ◌∷◌, refl, sym}
use Rattle.std.proofs.Common.{ap, ◌∙◌, length, map, arith, inl, inr}
use Rattle.std.specs.Prelude.{if◌then◌else◌, cond, sum_by, count_by}
use Rattle.std.specs.List.{flat_map, range_with_len}
use Rattle.std.proofs.Math.Nat.{add-mul, one-mul, mul_comm, mul_assoc, suc-mul}
use Rattle.std.proofs.lemmas.Bool.{cases_lt}
use Rattle.std.proofs.lemmas.List.Sums.{sum_by-cons}
use Rattle.paw_base.specs.declared.codes.TheConstants.{DOALL}
use Rattle.paw_base.specs.declared.limits.TheConstants.{LEVEL_LIMIT}
use Rattle.paw_base.specs.declared.parts.Condact.{Condact}
use Rattle.paw_game.specs.declared.parts.Entry.{Entry}
use Rattle.paw_game.specs.Game.{GameLists}
use Rattle.paw_game.specs.Tables.{table_at}
use Rattle.paw_check.specs.Measures.{greatest}
use Rattle.paw_check.specs.Costs.{counting, with_call, passed_over, cost, most_cost, verb_may_change}
use Rattle.paw_check.proofs.Tables.{in_all_passes}

-- A condact opens a loop.
abbrev pub opens : Condact → Bool
opens c = c.code == DOALL

-- What a DOALL takes for all its passes, and any other condact takes none of that.
abbrev pub if_opens : ℕ → Condact → ℕ
if_opens k c = if opens c then k else 0

-- What a condact takes where n more levels of calls are looked at.
abbrev pub takes_at : GameLists → (Condact → ℕ) → (List Entry → List Entry) → ℕ → Condact → ℕ
takes_at g own count zero c = own c
takes_at g own count (suc n) c = with_call own (cost g own count n) c

pub own_takes : (g : GameLists) (own : Condact → ℕ) (count : List Entry → List Entry) (n : ℕ) (c : Condact) → own c ≤ takes_at g own count n c
own_takes g own count zero c = omega arith
own_takes g own count (suc n) c = omega arith

-- ---- numbers ----

passes_cost : (o d s : ℕ) → (1 + o * d) * s ≡ s + d * (o * s)
passes_cost o d s = rw (add-mul 1 (o * d) s, one-mul s, mul_comm o d, mul_assoc d o s) refl

-- A loop over n objects whose passes take at most s.
pub in_all_passes_most : (s once more n : ℕ) → once ≤ s → in_all_passes once more n ≤ n * s + more
in_all_passes_most s once more zero h = omega arith
in_all_passes_most s once more (suc n) h = omega (arith, h, in_all_passes_most s once more n h, suc-mul n s)

counted_if : (k : ℕ) (b : Bool) (n : ℕ) → (if b then k else 0) + n * k ≡ (cond b 1 0 + n) * k
counted_if k true n = rw (add-mul 1 n k, one-mul k) refl
counted_if k false n =
    let none : 0 + n ≡ n = omega arith in
    let same : 0 + n * k ≡ n * k = omega arith in
    same ∙ sym (ap (λ x. x * k) none)

opened : (k : ℕ) (cs : List Condact) → sum_by (if_opens k) cs ≡ count_by opens cs * k
opened k [] = omega arith
opened k (c ∷ cs) =
    sum_by-cons (if_opens k) c cs ∙ ap (λ x. if_opens k c + x) (opened k cs) ∙ counted_if k (opens c) (count_by opens cs)
    ∙ ap (λ x. x * k) (sym (sum_by-cons (λ c. cond (opens c) 1 0) c cs))

-- What condacts take in all passes is what they take once, and what the loops take.
passed_is : (g : GameLists) (takes : Condact → ℕ) (cs : List Condact) →
    passed_over g takes cs ≡ sum_by takes cs + sum_by (if_opens (length g.objects * sum_by takes cs)) cs
passed_is g takes cs =
    passes_cost (length g.objects) (count_by opens cs) (sum_by takes cs)
    ∙ ap (λ x. sum_by takes cs + x) (sym (opened (length g.objects * sum_by takes cs) cs))

cost_passed : (g : GameLists) (own : Condact → ℕ) (count : List Entry → List Entry) (n t : ℕ) →
    cost g own count n t ≡ passed_over g (takes_at g own count n) (flat_map (λ e. e.condacts) (count (table_at g t)))
unfolding cost
cost_passed g own count zero t = refl
cost_passed g own count (suc n) t = refl

-- So is the cost of a table.
pub cost_is : (g : GameLists) (own : Condact → ℕ) (count : List Entry → List Entry) (n t : ℕ) →
    let cs = flat_map (λ e. e.condacts) (count (table_at g t)) in
    cost g own count n t
    ≡ sum_by (takes_at g own count n) cs + sum_by (if_opens (length g.objects * sum_by (takes_at g own count n) cs)) cs
cost_is g own count n t =
    cost_passed g own count n t ∙ passed_is g (takes_at g own count n) (flat_map (λ e. e.condacts) (count (table_at g t)))

-- ---- the verb that takes most ----

greatest_within : (f : ℕ → ℕ) (a n v : ℕ) → a ≤ v → v < a + n → f v ≤ greatest (map f (range_with_len a n))
unfolding greatest
greatest_within f a zero v low high = absurd (omega arith)
greatest_within f a (suc n) v low high =
    elim (cases_lt a v) [
      | inl above ↦ omega (arith, greatest_within f (a + 1) n v (omega (arith, above)) (omega (arith, high)))
      | inr at ↦ let same : a ≡ v = omega (arith, low, at) in omega (arith, ap f same)
    ]

-- No verb takes more.
pub verb_most : (g : GameLists) (own : Condact → ℕ) (t verb : ℕ) → verb < 256 →
    cost g own (counting (verb_may_change g) verb) LEVEL_LIMIT t ≤ most_cost g own t
verb_most g own t verb small =
    greatest_within (λ v. cost g own (counting (verb_may_change g) v) LEVEL_LIMIT t) 0 256 verb (omega arith) (omega (arith, small))
