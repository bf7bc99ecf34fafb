-- Rows of 256 numbers, written one by one.
use Rattle.std.proofs.Common.{◌≡◌, ◌≢◌, ◌≤◌, ◌<◌, inl, inr, ℕ, ◌+◌, ◌-◌, ◌^◌, min, Bool, true, false, List, length}
use Rattle.std.proofs.Common.{replicate, refl, sym, ap, ◌∙◌, arith, cond, take, get_or}
use Rattle.std.specs.Prelude.{◌==◌, slice_set, count_by, if◌then◌else◌}
use Rattle.std.specs.List.{slice_index_or}
use Rattle.std.proofs.lemmas.Bool.{cases_lt, cases_eq, eq-eqb, ne_eqb}
use Rattle.std.proofs.lemmas.List.{length-replicate, get_or-replicate, get_or_past, get_or-set_same, get_or-set_other}
use Rattle.std.proofs.lemmas.List.{length-set, take_all}
use Rattle.std.proofs.lemmas.List.Sums.{sum_by_more}
use Rattle.paw_base.specs.declared.parts.Condact.{Condact}
use Rattle.paw_check.specs.Calls.{is_call_of}
use Rattle.paw_game.specs.declared.parts.Entry.{Entry}
use Rattle.paw_check.specs.inner.Capped.{HoldsCapped, in_32_bits, over_every, over_verb, is_for_every}

-- A row holds these numbers up to one of them, and nothing from there on.
pub record HoldsUpTo (row : List ℕ) (f : ℕ → ℕ) (n : ℕ) : Type 0 where
  pub long : length row ≡ 256
  pub done : (v : ℕ) → v < n → slice_index_or row v 0 ≡ in_32_bits (f v)
  pub left : (v : ℕ) → n ≤ v → slice_index_or row v 0 ≡ 0

-- 256 zeros.
abbrev pub zeros : List ℕ
zeros = replicate 256 0

zeros_long : length zeros ≡ 256
zeros_long = let none : ℕ = 0 in length-replicate 256 none

zero_at : (v : ℕ) → slice_index_or zeros v 0 ≡ 0
zero_at v = elim (cases_lt v 256) [
  | inl low ↦ let none : ℕ = 0 in get_or-replicate 256 v none none low
  | inr high ↦ get_or_past zeros v 0 (omega (arith, high, zeros_long))
]

pub upto_none : (f : ℕ → ℕ) → HoldsUpTo zeros f 0
upto_none f = record {
  long = zeros_long;
  done = λ v low. absurd (omega (arith, low));
  left = λ v high. zero_at v;
}

pub upto_more : (row : List ℕ) (f : ℕ → ℕ) (n x : ℕ) → n < 256 → x ≡ in_32_bits (f n) → HoldsUpTo row f n
    → HoldsUpTo (slice_set row n x) f (n + 1)
upto_more row f n x within is so = record {
  long = length-set row n x ∙ so.long;
  done = λ v low. elim (cases_lt v n) [
    | inl below ↦ get_or-set_other row n v x 0 (omega (arith, below)) ∙ so.done v below
    | inr high ↦
        let same : v ≡ n = omega (arith, low, high) in
        ap (λ (k : ℕ). slice_index_or (slice_set row n x) k 0) same ∙ get_or-set_same row n x 0 (omega (arith, within, so.long))
        ∙ is ∙ ap (λ (k : ℕ). in_32_bits (f k)) (sym same)
  ];
  left = λ v high. get_or-set_other row n v x 0 (omega (arith, high)) ∙ so.left v (omega (arith, high));
}

-- With the rest 0, the row holds all.
pub upto_rest : (row : List ℕ) (f : ℕ → ℕ) (n : ℕ) → HoldsUpTo row f n → ((v : ℕ) → n ≤ v → f v ≡ 0) → HoldsCapped row f
upto_rest row f n so none = record {
  long = so.long;
  each = λ v low. elim (cases_lt v n) [
    | inl below ↦ so.done v below
    | inr high ↦ so.left v high ∙ ap in_32_bits (sym (none v high))
  ];
}

pub upto_all : (row : List ℕ) (f : ℕ → ℕ) (n : ℕ) → 256 ≤ n → HoldsUpTo row f n → HoldsCapped row f
upto_all row f n whole so = record {
  long = so.long;
  each = λ v low. so.done v (omega (arith, low, whole));
}

-- A row of zeros holds nothing.
pub holds_none : (f : ℕ → ℕ) → ((v : ℕ) → f v ≡ 0) → HoldsCapped zeros f
holds_none f none = record {
  long = zeros_long;
  each = λ v low. zero_at v ∙ ap in_32_bits (sym (none v));
}

-- A row of numbers that are the same.
pub holds_same : (f h : ℕ → ℕ) (row : List ℕ) → ((v : ℕ) → f v ≡ h v) → HoldsCapped row f → HoldsCapped row h
holds_same f h row same so = record {
  long = so.long;
  each = λ v low. so.each v low ∙ ap in_32_bits (same v);
}

-- One number more at a place.
pub holds_one_more : (f h : ℕ → ℕ) (row : List ℕ) (at x : ℕ) → at < 256 → x ≡ in_32_bits (f at + 1)
    → h at ≡ f at + 1 → ((v : ℕ) → v ≢ at → h v ≡ f v) → HoldsCapped row f → HoldsCapped (slice_set row at x) h
holds_one_more f h row at x within is here there so = record {
  long = length-set row at x ∙ so.long;
  each = λ v low. elim (cases_eq v at) [
    | inl same ↦ ap (λ (k : ℕ). slice_index_or (slice_set row at x) k 0) same
        ∙ get_or-set_same row at x 0 (omega (arith, within, so.long)) ∙ is ∙ ap in_32_bits (sym here)
        ∙ ap (λ (k : ℕ). in_32_bits (h k)) (sym same)
    | inr other ↦ get_or-set_other row at v x 0 other ∙ so.each v low ∙ ap in_32_bits (sym (there v other))
  ];
}

-- How often condacts call each table, one condact more.
pub counts_more : (f : ℕ → ℕ) (cs : List Condact) (i : ℕ) (d : Condact) (row : List ℕ) → i < length cs
    → HoldsCapped row (λ u. f u + count_by (is_call_of u) (take i cs) + cond (is_call_of u (get_or cs i d)) 1 0)
    → HoldsCapped row (λ u. f u + count_by (is_call_of u) (take (i + 1) cs))
counts_more f cs i d row within so =
    holds_same _ _ row (λ u.
    let more = sum_by_more (λ x. cond (is_call_of u x) 1 0) cs i d within in
    omega (arith, more)) so

-- And all.
pub counts_all : (f : ℕ → ℕ) (cs : List Condact) (i : ℕ) (row : List ℕ) → length cs ≤ i
    → HoldsCapped row (λ u. f u + count_by (is_call_of u) (take i cs)) → HoldsCapped row (λ u. f u + count_by (is_call_of u) cs)
counts_all f cs i row past so = holds_same _ _ row (λ u. ap (λ ds. f u + count_by (is_call_of u) ds) (take_all i cs past)) so

-- What is added at a place.
pub holds_added : (f k : ℕ → ℕ) (row : List ℕ) (at x t : ℕ) → at < 256 → x ≡ min (slice_index_or row at 0 + t) (2 ^ 32 - 1)
    → t ≡ in_32_bits (k at) → HoldsCapped row f → HoldsCapped (slice_set row at x) (λ v. f v + cond (at == v) (k v) 0)
holds_added f k row at x t within is add so = record {
  long = length-set row at x ∙ so.long;
  each = λ v low. elim (cases_eq v at) [
    | inl same ↦
        let here : slice_index_or (slice_set row at x) v 0 ≡ x =
        ap (λ (n : ℕ). slice_index_or (slice_set row at x) n 0) same ∙ get_or-set_same row at x 0 (omega (arith, within, so.long)) in
        let old : slice_index_or row at 0 ≡ in_32_bits (f at) = so.each at within in
        let more : f v + cond (at == v) (k v) 0 ≡ f at + k at =
        ap (λ (n : ℕ). f n + cond (at == n) (k n) 0) same ∙ ap (λ (b : Bool). f at + cond b (k at) 0) (eq-eqb at at refl) in
        omega (arith, here, old, is, add, more)
    | inr other ↦
        let there : slice_index_or (slice_set row at x) v 0 ≡ slice_index_or row v 0 = get_or-set_other row at v x 0 other in
        let old : slice_index_or row v 0 ≡ in_32_bits (f v) = so.each v low in
        let none : f v + cond (at == v) (k v) 0 ≡ f v + 0 =
        ap (λ (b : Bool). f v + cond b (k v) 0) (ne_eqb at v (λ h. other (sym h))) in
        omega (arith, there, old, none)
  ];
}

-- Sums over entries, one entry more.
pub every_more : (changing : Bool) (g : ℕ → List Condact → ℕ) (es : List Entry) (i : ℕ) (d : Entry) (row : List ℕ) → i < length es → d ≡ get_or es i d
    → HoldsCapped row (λ u. over_every changing (g u) (take i es) + cond (is_for_every changing d) (g u d.condacts) 0)
    → HoldsCapped row (λ u. over_every changing (g u) (take (i + 1) es))
every_more changing g es i d row within here so = holds_same _ _ row (λ u.
    ap (λ (e : Entry). over_every changing (g u) (take i es) + cond (is_for_every changing e) (g u e.condacts) 0) here
    ∙ sym (sum_by_more (λ e. if is_for_every changing e then g u e.condacts else 0) es i d within)) so

either : (b c : Bool) (n : ℕ) → cond c (cond b 0 n) 0 ≡ cond b 0 (cond c n 0)
either true true n = refl
either true false n = refl
either false true n = refl
either false false n = refl

pub verb_more : (changing : Bool) (g : ℕ → List Condact → ℕ) (es : List Entry) (i : ℕ) (d : Entry) (row : List ℕ) → i < length es → d ≡ get_or es i d
    → HoldsCapped row (λ v. over_verb changing v (g v) (take i es) + cond (d.verb == v) (cond (is_for_every changing d) 0 (g v d.condacts)) 0)
    → HoldsCapped row (λ v. over_verb changing v (g v) (take (i + 1) es))
verb_more changing g es i d row within here so = holds_same _ _ row (λ v.
    ap (λ (n : ℕ). over_verb changing v (g v) (take i es) + n) (either (is_for_every changing d) (d.verb == v) (g v d.condacts))
    ∙ ap (λ (e : Entry). over_verb changing v (g v) (take i es) + cond (is_for_every changing e) 0 (cond (e.verb == v) (g v e.condacts) 0)) here
    ∙ sym (sum_by_more (λ e. if is_for_every changing e then 0 else (if e.verb == v then g v e.condacts else 0)) es i d within)) so

-- An entry that counts for every verb.
pub holds_every : (f : ℕ → ℕ) (g : ℕ → List Condact → ℕ) (b : Bool) (cs ds : List Condact) (row : List ℕ) → b ≡ true → cs ≡ ds
    → HoldsCapped row (λ u. f u + g u cs) → HoldsCapped row (λ u. f u + cond b (g u ds) 0)
holds_every f g b cs ds row is same so = holds_same _ _ row (λ u.
    ap (λ xs. f u + g u xs) same ∙ sym (ap (λ (x : Bool). f u + cond x (g u ds) 0) is)) so
