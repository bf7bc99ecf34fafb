-- Rows of numbers by table, made one after the other.
use Rattle.std.proofs.Common.{◌≡◌, ◌≤◌, ◌<◌, inl, inr, ℕ, ◌+◌, Bool, List, [], ◌∷◌, ◌++◌, length, get_or}
use Rattle.std.proofs.Common.{refl, sym, ap, ◌∙◌, arith}
use Rattle.std.specs.List.{slice_index_or}
use Rattle.std.specs.Option.{unwrap_or}
use Rattle.std.proofs.Math.Nat.{mul-zero}
use Rattle.std.proofs.Math.Seq.{get_or-append_seam}
use Rattle.std.proofs.lemmas.Bool.{cases_lt}
use Rattle.std.proofs.lemmas.List.{get_or_append_left, length_push}
use Rattle.std.proofs.lemmas.Option.{slice_get_past, unwrap_or-slice_get}
use Rattle.paw_base.specs.declared.parts.Condact.{Condact}
use Rattle.paw_game.specs.declared.parts.Entry.{Entry}
use Rattle.paw_game.specs.Game.{GameLists}
use Rattle.paw_game.specs.Tables.{table_at}
use Rattle.paw_check.specs.Costs.{counting, passed_over, with_call}
use Rattle.paw_check.specs.inner.Capped.{HoldsCapped, in_32_bits, cell_at, condacts_of_entries, entries_take, VerbCosts}
use Rattle.paw_check.specs.inner.Levels.{HoldsLevel}
use Rattle.paw_check.proofs.Capped.{add_alike, product_alike, from_capped}
use Rattle.paw_check.proofs.FoundLaws.{cell_past}

-- What rows hold of the tables before a number.
pub record HoldBefore (objects : ℕ) (own : Condact → ℕ) (changing : Bool) (tables : List (List Entry)) (called rows : VerbCosts) (n : ℕ) : Type 0 where
  pub long : length rows ≡ n
  pub each : (t v : ℕ) → t < n → v < 256 → cell_at rows t v
      ≡ in_32_bits (entries_take objects (with_call own (λ u. cell_at called u v)) changing v (get_or tables t []))

cell_is : (rows : VerbCosts) (t v : ℕ) → cell_at rows t v ≡ slice_index_or (get_or rows t []) v 0
cell_is rows t v = ap (λ (row : List ℕ). slice_index_or row v 0) (unwrap_or-slice_get rows t [])

pub before_more : (objects : ℕ) (own : Condact → ℕ) (changing : Bool) (tables : List (List Entry)) (called rows : VerbCosts)
    (n : ℕ) (row : List ℕ) (es : List Entry)
    → HoldBefore objects own changing tables called rows n → es ≡ get_or tables n []
    → HoldsCapped row (λ v. entries_take objects (with_call own (λ u. cell_at called u v)) changing v es)
    → HoldBefore objects own changing tables called (rows ++ row ∷ []) (n + 1)
before_more objects own changing tables called rows n row es so is holds = record {
  long = length_push rows row ∙ ap (λ (k : ℕ). k + 1) so.long;
  each = λ t v low small. cell_is (rows ++ row ∷ []) t v ∙ elim (cases_lt t n) [
    | inl below ↦
        ap (λ (r : List ℕ). slice_index_or r v 0) (get_or_append_left rows (row ∷ []) [] t (omega (arith, below, so.long)))
        ∙ sym (cell_is rows t v) ∙ so.each t v below small
    | inr high ↦
        let same : t ≡ length rows = omega (arith, low, high, so.long) in
        let here : t ≡ n = omega (arith, low, high) in
        ap (λ (k : ℕ). slice_index_or (get_or (rows ++ row ∷ []) k []) v 0) same
        ∙ ap (λ (r : List ℕ). slice_index_or r v 0) (get_or-append_seam rows row [] [])
        ∙ holds.each v small
        ∙ ap (λ xs. in_32_bits (entries_take objects (with_call own (λ u. cell_at called u v)) changing v xs))
        (is ∙ ap (λ (k : ℕ). get_or tables k []) (sym here))
  ];
}

-- Where the number of objects is the game's but for the cap, the definition takes as much.
entries_alike : (g : GameLists) (objects : ℕ) (t : Condact → ℕ) (changing : Bool) (v : ℕ) (es : List Entry) → objects ≡ in_32_bits (length g.objects)
    → in_32_bits (entries_take objects t changing v es) ≡ in_32_bits (passed_over g t (condacts_of_entries (counting changing v es)))
entries_alike g objects t changing v es h =
    product_alike _ _ _ _ (add_alike 1 1 _ _ refl (product_alike objects (length g.objects) _ _ (from_capped _ _ h) refl)) refl

-- No table has no condacts.
none_taken : (g : GameLists) (t : Condact → ℕ) (changing : Bool) (v u : ℕ) → length g.tables ≤ u
    → passed_over g t (condacts_of_entries (counting changing v (table_at g u))) ≡ 0
none_taken g t changing v u past =
    ap (λ found. passed_over g t (condacts_of_entries (counting changing v (unwrap_or found [])))) (slice_get_past g.tables u past)
    ∙ mul-zero _

pub before_all : (g : GameLists) (objects : ℕ) (own : Condact → ℕ) (changing : Bool) (called rows : VerbCosts) (n : ℕ)
    → objects ≡ in_32_bits (length g.objects) → length g.tables ≤ n
    → HoldBefore objects own changing g.tables called rows n → HoldsLevel g own changing called rows
before_all g objects own changing called rows n many whole so = λ t v small. elim (cases_lt t n) [
  | inl low ↦
      so.each t v low small
      ∙ ap (λ es. in_32_bits (entries_take objects (with_call own (λ u. cell_at called u v)) changing v es)) (sym (unwrap_or-slice_get g.tables t []))
      ∙ entries_alike g objects (with_call own (λ u. cell_at called u v)) changing v (table_at g t) many
  | inr high ↦
      cell_past rows t v (omega (arith, high, so.long))
      ∙ ap in_32_bits (sym (none_taken g (with_call own (λ u. cell_at called u v)) changing v t (omega (arith, high, whole))))
]

pub before_none : (objects : ℕ) (own : Condact → ℕ) (changing : Bool) (tables : List (List Entry)) (called : VerbCosts)
    → HoldBefore objects own changing tables called [] 0
before_none objects own changing tables called = record {
  long = refl;
  each = λ t v low small. absurd (omega (arith, low));
}
