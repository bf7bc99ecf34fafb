-- Sums over the condacts of the entries that count, in parts: those of entries that count for every verb, with their
-- calls by table, and those of the other entries of a verb.
use Rattle.std.proofs.Common.{◌≡◌, ◌≢◌, ◌≤◌, ◌<◌, inl, inr, ℕ, zero, suc, ◌+◌, ◌*◌, Bool, true, false, cond, List}
use Rattle.std.proofs.Common.{[], ◌∷◌, ◌++◌, refl, sym, ap, ◌∙◌, arith}
use Rattle.std.specs.Prelude.{◌==◌, ◌&&◌, ◌||◌, sum_by, count_by, filter, if◌then◌else◌}
use Rattle.std.specs.List.{range_with_len}
use Rattle.std.proofs.Math.Nat.{zero-mul, one-mul, add-mul}
use Rattle.std.proofs.lemmas.Bool.{cases_lt, ne_eqb, eq-eqb}
use Rattle.std.proofs.lemmas.List.Sums.{sum_by-cons, sum_by-append, sum_by_push}
use Rattle.paw_base.specs.declared.parts.Condact.{Condact}
use Rattle.paw_base.specs.declared.words.TheConstants.{ANY_WORD, NO_WORD}
use Rattle.paw_game.specs.declared.parts.Entry.{Entry}
use Rattle.paw_check.specs.Calls.{calls_table, is_call_of}
use Rattle.paw_check.specs.Costs.{with_call, counting}
use Rattle.paw_check.specs.inner.Capped.{over_every, over_verb, is_for_every, condacts_of_entries}

-- ---- sums ----

-- A sum over the condacts of the entries that pass.
pub sum_passing : (p : Entry → Bool) (t : Condact → ℕ) (es : List Entry)
    → sum_by t (condacts_of_entries (filter p es)) ≡ sum_by (λ e. if p e then sum_by t e.condacts else 0) es
sum_passing p t [] = refl
sum_passing p t (e ∷ es) =
    at (p e) ∙ ap (λ (n : ℕ). cond (p e) (sum_by t e.condacts) 0 + n) (sum_passing p t es)
    ∙ sym (sum_by-cons (λ (x : Entry). if p x then sum_by t x.condacts else 0) e es) where
      at : (b : Bool) → sum_by t (condacts_of_entries (cond b (e ∷ filter p es) (filter p es)))
          ≡ cond b (sum_by t e.condacts) 0 + sum_by t (condacts_of_entries (filter p es))
      at true = sum_by-append t e.condacts (condacts_of_entries (filter p es))
      at false = omega arith

-- A sum of two numbers each.
pub sum_of_both : {X : Type 0} (f h : X → ℕ) (xs : List X) → sum_by (λ x. f x + h x) xs ≡ sum_by f xs + sum_by h xs
sum_of_both f h [] = refl
sum_of_both {X} f h (x ∷ xs) =
    let both = sum_by-cons (λ (y : X). f y + h y) x xs in
    let first = sum_by-cons f x xs in
    let second = sum_by-cons h x xs in
    let rest = sum_of_both f h xs in
    omega (arith, both, first, second, rest)

-- Numbers that are the same have the same sum.
pub sum_same : {X : Type 0} (f h : X → ℕ) (xs : List X) → ((x : X) → f x ≡ h x) → sum_by f xs ≡ sum_by h xs
sum_same f h [] same = refl
sum_same f h (x ∷ xs) same =
    sum_by-cons f x xs ∙ (ap (λ (n : ℕ). n + sum_by f xs) (same x) ∙ ap (λ (n : ℕ). h x + n) (sum_same f h xs same))
    ∙ sym (sum_by-cons h x xs)

pub sum_of_none : {X : Type 0} (f : X → ℕ) (xs : List X) → ((x : X) → f x ≡ 0) → sum_by f xs ≡ 0
sum_of_none f [] none = refl
sum_of_none f (x ∷ xs) none =
    let first = sum_by-cons f x xs in
    let rest = sum_of_none f xs none in
    let here = none x in
    omega (arith, first, rest, here)

-- ---- verbs ----

-- An entry that counts for a verb counts for every verb, or it is one of this verb.
one_or_other : (changing any none same : Bool) (n : ℕ)
    → cond (changing || (any || (none || same))) n 0
    ≡ cond (changing || (any || none)) n 0 + cond (changing || (any || none)) 0 (cond same n 0)
one_or_other true any none same n = omega arith
one_or_other false true none same n = omega arith
one_or_other false false true same n = omega arith
one_or_other false false false true n = omega arith
one_or_other false false false false n = omega arith

pub counting_parts : (changing : Bool) (v : ℕ) (t : Condact → ℕ) (es : List Entry)
    → sum_by t (condacts_of_entries (counting changing v es))
    ≡ over_every changing (sum_by t) es + over_verb changing v (sum_by t) es
counting_parts changing v t es =
    sum_passing _ t es
    ∙ sum_same _ (λ (e : Entry). cond (is_for_every changing e) (sum_by t e.condacts) 0
    + cond (is_for_every changing e) 0 (cond (e.verb == v) (sum_by t e.condacts) 0)) es
    (λ (e : Entry). one_or_other changing (e.verb == ANY_WORD) (e.verb == NO_WORD) (e.verb == v) (sum_by t e.condacts))
    ∙ sum_of_both _ _ es

-- ---- calls ----

-- A range that goes on by one.
pub range_more : (a n : ℕ) → range_with_len a (suc n) ≡ range_with_len a n ++ (a + n) ∷ []
range_more a zero = ap (λ (k : ℕ). k ∷ []) (omega arith)
range_more a (suc n) = ap (λ (ks : List ℕ). a ∷ ks) (range_more (a + 1) n ∙ ap (λ (k : ℕ). range_with_len (a + 1) n ++ k ∷ []) (omega arith))

pub range_to : (n : ℕ) → range_with_len 0 (suc n) ≡ range_with_len 0 n ++ n ∷ []
range_to n = range_more 0 n ∙ ap (λ (k : ℕ). range_with_len 0 n ++ k ∷ []) (omega arith)

pub sum_to_more : (f : ℕ → ℕ) (n : ℕ) → sum_by f (range_with_len 0 (suc n)) ≡ sum_by f (range_with_len 0 n) + f n
sum_to_more f n = ap (sum_by f) (range_to n) ∙ sum_by_push f (range_with_len 0 n) n

-- A number, at its own place.
abbrev pick : (ℕ → ℕ) → ℕ → ℕ → ℕ
pick f a u = cond (a == u) 1 0 * f u

pick_other : (f : ℕ → ℕ) (a u : ℕ) → a ≢ u → pick f a u ≡ 0
pick_other f a u other = ap (λ (b : Bool). cond b 1 0 * f u) (ne_eqb a u other) ∙ zero-mul (f u)

pick_same : (f : ℕ → ℕ) (a : ℕ) → pick f a a ≡ f a
pick_same f a = ap (λ (b : Bool). cond b 1 0 * f a) (eq-eqb a a refl) ∙ one-mul (f a)

picked_none : (f : ℕ → ℕ) (a n : ℕ) → n ≤ a → sum_by (pick f a) (range_with_len 0 n) ≡ 0
picked_none f a zero high = refl
picked_none f a (suc n) high =
    let more = sum_to_more (pick f a) n in
    let before = picked_none f a n (omega (arith, high)) in
    let last = pick_other f a n (omega (arith, high)) in
    omega (arith, more, before, last)

picked : (f : ℕ → ℕ) (a n : ℕ) → a < n → sum_by (pick f a) (range_with_len 0 n) ≡ f a
picked f a zero low = absurd (omega (arith, low))
picked f a (suc n) low = elim (cases_lt a n) [
  | inl below ↦
      let more = sum_to_more (pick f a) n in
      let before = picked f a n below in
      let last = pick_other f a n (omega (arith, below)) in
      omega (arith, more, before, last)
  | inr high ↦
      let same : a ≡ n = omega (arith, low, high) in
      let more = sum_to_more (pick f a) n in
      let before = picked_none f a n high in
      let last : pick f a n ≡ f a = ap (pick f a) (sym same) ∙ pick_same f a in
      omega (arith, more, before, last)
]

-- It is nothing past the last place, so this is the number itself.
picked_all : (f : ℕ → ℕ) (a n : ℕ) → (n ≤ a → f a ≡ 0) → sum_by (pick f a) (range_with_len 0 n) ≡ f a
picked_all f a n past = elim (cases_lt a n) [
  | inl low ↦ picked f a n low
  | inr high ↦ picked_none f a n high ∙ sym (past high)
]

-- What condacts take by the tables that they call is what each table takes, as often as it is called.
abbrev called_by : (ℕ → ℕ) → Condact → ℕ
called_by f c = if calls_table c then f c.a else 0

abbrev times_called : (ℕ → ℕ) → List Condact → ℕ → ℕ
times_called f cs u = count_by (is_call_of u) cs * f u

one_call : (f : ℕ → ℕ) (c : Condact) (n : ℕ) → ((u : ℕ) → n ≤ u → f u ≡ 0)
    → sum_by (λ u. cond (is_call_of u c) 1 0 * f u) (range_with_len 0 n) ≡ called_by f c
one_call f c n past = at (calls_table c) where
  at : (b : Bool) → sum_by (λ u. cond (b && (c.a == u)) 1 0 * f u) (range_with_len 0 n) ≡ cond b (f c.a) 0
  at true = picked_all f c.a n (past c.a)
  at false = sum_of_none _ (range_with_len 0 n) (λ (u : ℕ). zero-mul (f u))

pub calls_counted : (f : ℕ → ℕ) (n : ℕ) → ((u : ℕ) → n ≤ u → f u ≡ 0) → (cs : List Condact)
    → sum_by (called_by f) cs ≡ sum_by (times_called f cs) (range_with_len 0 n)
calls_counted f n past [] = sym (sum_of_none _ (range_with_len 0 n) (λ (u : ℕ). zero-mul (f u)))
calls_counted f n past (c ∷ cs) =
    sum_by-cons (called_by f) c cs
    ∙ ap (λ (k : ℕ). k + sum_by (called_by f) cs) (sym (one_call f c n past))
    ∙ ap (λ (k : ℕ). sum_by (λ u. cond (is_call_of u c) 1 0 * f u) (range_with_len 0 n) + k) (calls_counted f n past cs)
    ∙ sym (sum_of_both _ (times_called f cs) (range_with_len 0 n))
    ∙ sum_same _ (times_called f (c ∷ cs)) (range_with_len 0 n) (λ (u : ℕ).
    sym (add-mul (cond (is_call_of u c) 1 0) (count_by (is_call_of u) cs) (f u))
    ∙ ap (λ (k : ℕ). k * f u) (sym (sum_by-cons (λ x. cond (is_call_of u x) 1 0) c cs)))

-- ---- entries that count for every verb ----

-- With their calls by table.
pub every_parts : (changing : Bool) (own : Condact → ℕ) (g : ℕ → ℕ) (n : ℕ) → ((u : ℕ) → n ≤ u → g u ≡ 0) → (es : List Entry)
    → over_every changing (sum_by (with_call own g)) es
    ≡ over_every changing (sum_by own) es
    + sum_by (λ u. over_every changing (count_by (is_call_of u)) es * g u) (range_with_len 0 n)
every_parts changing own g n past es =
    let p = is_for_every changing in
    let cs = condacts_of_entries (filter p es) in
    sym (sum_passing p (with_call own g) es)
    ∙ sum_of_both own (called_by g) cs
    ∙ ap (λ (k : ℕ). k + sum_by (called_by g) cs) (sum_passing p own es)
    ∙ ap (λ (k : ℕ). over_every changing (sum_by own) es + k)
    (calls_counted g n past cs
    ∙ sum_same _ _ (range_with_len 0 n) (λ (u : ℕ). ap (λ (k : ℕ). k * g u) (sum_passing p (λ x. cond (is_call_of u x) 1 0) es)))
