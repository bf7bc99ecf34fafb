-- Flags that are marked one after the other.
use Rattle.std.proofs.Common.{◌≡◌, ◌≤◌, ℕ, suc, ◌+◌, Bool, true, false, cond, List, [], ◌∷◌, length}
use Rattle.std.proofs.Common.{replicate, refl, sym, ap, ◌∙◌, arith}
use Rattle.std.specs.Prelude.{◌||◌, ◌==◌, filter, flat_map, count_by, nat_lt}
use Rattle.std.specs.List.{slice_index_or, range_with_len}
use Rattle.std.proofs.lemmas.List.{length-replicate, get_or-replicate}
use Rattle.std.proofs.lemmas.List.Concat.{flat_map-append}
use Rattle.std.proofs.lemmas.List.Folds.{list_any-append}
use Rattle.std.proofs.lemmas.List.Sums.{sum_by_push}
use Rattle.paw_game.specs.Game.{GameLists}
use Rattle.paw_check.specs.Calls.{called_below}
use Rattle.paw_check.specs.Verbs.{is_among}
use Rattle.paw_check.specs.inner.Capped.{MarksTables}
use Rattle.paw_check.specs.inner.Reached.{levels_from}
use Rattle.paw_check.proofs.Entries.{range_more, range_to}
use Rattle.paw_check.proofs.ReachedLaws.{Marked, below_none}
use Rattle.paw_check.proofs.SetLaws.{filter_alike}

or_none : (b : Bool) → (b || false) ≡ b
or_none true = refl
or_none false = refl

-- Nothing marked.
pub marks_none : (a : List Bool) (p : ℕ → Bool) → ((u : ℕ) → p u ≡ false) → MarksTables a a p
marks_none a p none = record {
  long = refl;
  each = λ u low. sym (ap (λ (x : Bool). slice_index_or a u false || x) (none u) ∙ or_none (slice_index_or a u false));
}

-- One more of the tables with a condact that passes.
pub marks_same : (a b : List Bool) (p q : ℕ → Bool) → ((u : ℕ) → p u ≡ q u) → MarksTables a b p → MarksTables a b q
marks_same a b p q same so = record {
  long = so.long;
  each = λ u low. so.each u low ∙ ap (λ (x : Bool). slice_index_or a u false || x) (same u);
}

-- The flags mark one level more.
pub marked_more : (g : GameLists) (ts : List ℕ) (n : ℕ) (a b : List Bool) → Marked g ts n a → MarksTables a b (is_among (called_below g ts n)) →
    Marked g ts (suc n) b
marked_more g ts n a b so more = record {
  long = more.long ∙ so.long;
  each = λ u low. more.each u low ∙ ap (λ (x : Bool). x || is_among (called_below g ts n) u) (so.each u low)
      ∙ sym (ap (λ ns. is_among (flat_map (called_below g ts) ns) u) (range_to n)
      ∙ ap (λ ns. is_among ns u) (flat_map-append (called_below g ts) (range_with_len 0 n) (n ∷ []))
      ∙ list_any-append (λ m. m == u) (flat_map (called_below g ts) (range_with_len 0 n)) (flat_map (called_below g ts) (n ∷ []))
      ∙ ap (λ (x : Bool). is_among (flat_map (called_below g ts) (range_with_len 0 n)) u || x)
      (list_any-append (λ m. m == u) (called_below g ts n) [] ∙ or_none (is_among (called_below g ts n) u)));
}

-- Nothing is marked at first.
pub marked_none : (g : GameLists) (ts : List ℕ) → Marked g ts 0 (replicate 256 false)
marked_none g ts = record {
  long = length-replicate 256 false;
  each = λ u low. get_or-replicate 256 u false false low;
}

pub marked_first : (g : GameLists) (ts : List ℕ) (b : List Bool) → MarksTables (replicate 256 false) b (is_among ts) → Marked g ts 1 b
marked_first g ts b so =
    marked_more g ts 0 (replicate 256 false) b (marked_none g ts)
    (marks_same (replicate 256 false) b (is_among ts) (is_among (called_below g ts 0)) (λ u. ap (λ ns. is_among ns u) (sym (below_none g ts))) so)

-- The marked numbers below a count are those of the levels.
pub marked_filter : (g : GameLists) (ts : List ℕ) (n : ℕ) (b : List Bool) (count : ℕ) → count ≤ 256 → Marked g ts n b
    → filter (λ u. slice_index_or b u false) (range_with_len 0 count)
    ≡ filter (is_among (flat_map (called_below g ts) (range_with_len 0 n))) (range_with_len 0 count)
marked_filter g ts n b count few so = filter_alike _ _ 0 count (λ u low. so.each u (omega (arith, low, few)))

-- One level more.
pub levels_more : (g : GameLists) (ts : List ℕ) (n l x : ℕ) → l ≡ levels_from g ts n
    → x ≡ cond (nat_lt 0 (length (called_below g ts (suc n)))) 1 0 → l + x ≡ levels_from g ts (suc n)
levels_more g ts n l x so is =
    let p : ℕ → Bool = λ k. nat_lt 0 (length (called_below g ts k)) in
    let more : levels_from g ts (suc n) ≡ levels_from g ts n + cond (p (suc n)) 1 0 =
    ap (count_by p) (range_more 1 n) ∙ sum_by_push (λ k. cond (p k) 1 0) (range_with_len 1 n) (1 + n)
    ∙ ap (λ (k : ℕ). levels_from g ts n + cond (p k) 1 0) (omega arith) in
    omega (arith, so, is, more)
