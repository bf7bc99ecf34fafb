-- What the code finds of a table's entries is what the definition says that their reading takes.
use Rattle.std.proofs.Common.{◌≡◌, ◌≤◌, ◌<◌, ℕ, zero, suc, ◌+◌, ◌*◌, Bool, cond, List, []}
use Rattle.std.proofs.Common.{length, refl, sym, ap, ◌∙◌, arith}
use Rattle.std.specs.Prelude.{sum_by, count_by}
use Rattle.std.specs.List.{range_with_len, slice_index_or}
use Rattle.std.specs.Option.{unwrap_or}
use Rattle.std.proofs.lemmas.List.Sums.{sum_by-cons}
use Rattle.std.proofs.lemmas.Option.{slice_get_past}
use Rattle.paw_base.specs.declared.parts.Condact.{Condact}
use Rattle.paw_game.specs.declared.parts.Entry.{Entry}
use Rattle.paw_check.specs.Calls.{is_call_of}
use Rattle.paw_check.specs.Costs.{with_call, counting}
use Rattle.paw_check.specs.declared.sums.TableSums.{TableSums}
use Rattle.paw_check.specs.inner.Capped.{HoldsCapped, in_32_bits, cell_at, dot, is_doall, over_every, over_verb}
use Rattle.paw_check.specs.inner.Capped.{condacts_of_entries, entries_take, VerbCosts}
use Rattle.paw_check.specs.inner.Found.{IsFound, found_sum, found_taken}
use Rattle.paw_check.proofs.Capped.{add_alike, product_alike, from_capped}
use Rattle.paw_check.proofs.Entries.{counting_parts, every_parts}

-- Sums over a range of numbers that are the same but for the cap.
pub range_alike : (f h : ℕ → ℕ) (a n : ℕ) → ((u : ℕ) → u < a + n → in_32_bits (f u) ≡ in_32_bits (h u))
    → in_32_bits (sum_by f (range_with_len a n)) ≡ in_32_bits (sum_by h (range_with_len a n))
range_alike f h a zero same = refl
range_alike f h a (suc n) same =
    ap in_32_bits (sum_by-cons f a (range_with_len (a + 1) n))
    ∙ add_alike (f a) (h a) _ _ (same a (omega arith)) (range_alike f h (a + 1) n (λ u low. same u (omega (arith, low))))
    ∙ ap in_32_bits (sym (sum_by-cons h a (range_with_len (a + 1) n)))

-- Past the last table nothing is taken.
pub cell_past : (rows : VerbCosts) (u v : ℕ) → length rows ≤ u → cell_at rows u v ≡ 0
cell_past rows u v past = ap (λ row. slice_index_or (unwrap_or row []) v 0) (slice_get_past rows u past)

-- How many loops the entries that count for a verb open.
doalls_alike : (x : TableSums) (takes : Condact → ℕ) (changing : Bool) (called : VerbCosts) (es : List Entry) (v : ℕ)
    → IsFound x takes changing called es → v < 256
    → in_32_bits (x.doalls + slice_index_or x.verb_doalls v 0) ≡ in_32_bits (count_by is_doall (condacts_of_entries (counting changing v es)))
doalls_alike x takes changing called es v is low =
    add_alike x.doalls (over_every changing (count_by is_doall) es) _ (over_verb changing v (count_by is_doall) es)
    (from_capped _ _ is.doalls) (from_capped _ _ (is.verb_doalls.each v low))
    ∙ ap in_32_bits (sym (counting_parts changing v (λ (c : Condact). cond (is_doall c) 1 0) es))

-- What the tables take that the entries for every verb call.
calls_alike : (x : TableSums) (takes : Condact → ℕ) (changing : Bool) (called : VerbCosts) (es : List Entry) (v : ℕ)
    → IsFound x takes changing called es → length called ≤ 256
    → in_32_bits (dot x.calls called v)
    ≡ in_32_bits (sum_by (λ u. over_every changing (count_by (is_call_of u)) es * cell_at called u v) (range_with_len 0 (length called)))
calls_alike x takes changing called es v is few =
    range_alike _ _ 0 (length called) (λ u low.
    product_alike _ _ (cell_at called u v) (cell_at called u v) (from_capped _ _ (is.calls.each u (omega (arith, low, few)))) refl)

-- What their condacts take.
sum_alike : (x : TableSums) (takes : Condact → ℕ) (changing : Bool) (called : VerbCosts) (es : List Entry) (v : ℕ)
    → IsFound x takes changing called es → length called ≤ 256 → v < 256
    → in_32_bits (found_sum x called v)
    ≡ in_32_bits (sum_by (with_call takes (λ u. cell_at called u v)) (condacts_of_entries (counting changing v es)))
sum_alike x takes changing called es v is few low =
    let t : Condact → ℕ = with_call takes (λ u. cell_at called u v) in
    let calls : ℕ = sum_by (λ u. over_every changing (count_by (is_call_of u)) es * cell_at called u v) (range_with_len 0 (length called)) in
    let parts : over_every changing (sum_by t) es ≡ over_every changing (sum_by takes) es + calls =
    every_parts changing takes (λ u. cell_at called u v) (length called) (λ u past. cell_past called u v past) es in
    add_alike (x.own + dot x.calls called v) (over_every changing (sum_by takes) es + calls) _ (over_verb changing v (sum_by t) es)
    (add_alike x.own (over_every changing (sum_by takes) es) _ calls (from_capped _ _ is.own) (calls_alike x takes changing called es v is few))
    (from_capped _ _ (is.verb_taken.each v low))
    ∙ ap (λ (k : ℕ). in_32_bits (k + over_verb changing v (sum_by t) es)) (sym parts)
    ∙ ap in_32_bits (sym (counting_parts changing v t es))

-- What their reading takes.
pub found_is : (objects : ℕ) (x : TableSums) (takes : Condact → ℕ) (changing : Bool) (called : VerbCosts) (es : List Entry) (v : ℕ)
    → IsFound x takes changing called es → length called ≤ 256 → v < 256
    → in_32_bits (found_taken objects x called v)
    ≡ in_32_bits (entries_take objects (with_call takes (λ u. cell_at called u v)) changing v es)
found_is objects x takes changing called es v is few low =
    product_alike _ _ _ _
    (add_alike 1 1 _ _ refl (product_alike objects objects _ _ refl (doalls_alike x takes changing called es v is low)))
    (sum_alike x takes changing called es v is few low)

-- And so for each verb.
pub found_holds : (objects : ℕ) (row : List ℕ) (x : TableSums) (takes : Condact → ℕ) (changing : Bool) (called : VerbCosts) (es : List Entry)
    → IsFound x takes changing called es → length called ≤ 256 → HoldsCapped row (found_taken objects x called)
    → HoldsCapped row (λ v. entries_take objects (with_call takes (λ u. cell_at called u v)) changing v es)
found_holds objects row x takes changing called es is few holds = record {
  long = holds.long;
  each = λ v low. holds.each v low ∙ found_is objects x takes changing called es v is few low;
}
