-- Lists with one row for each number.
use Rattle.std.proofs.Common.{◌≡◌, ℕ, zero, suc, ◌+◌, ◌≤◌, ◌<◌, Bool, true, false, List, [], ◌∷◌, ◌++◌, map, length}
use Rattle.std.proofs.Common.{drop, refl, sym, ap, ◌∙◌, arith}
use Rattle.std.proofs.Common.{append_assoc}
use Rattle.std.specs.Prelude.{◌&&◌}
use Rattle.std.specs.List.{range_with_len, list_all, list_any}
use Rattle.std.proofs.lemmas.List.{take-append-drop}
use Rattle.std.proofs.lemmas.List.Folds.{list_any_at, list_all_at}
use Rattle.std.proofs.lemmas.List.FromFn.{map-range_with_len_more, length-map-range_with_len, take-map-range_with_len}
use Rattle.std.proofs.lemmas.List.FromFn.{get_or-map-range_with_len}
use Rattle.paw_gen.specs.Trial.{rows}

-- One row more.
rows_more : {A : Type 0} (row : ℕ → A) (n : ℕ) → rows (n + 1) row ≡ rows n row ++ row n ∷ []
rows_more row n = map-range_with_len_more row 0 n n (omega arith)

-- One row more, pushed after some others that come first.
pub pushed : {A : Type 0} (row : ℕ → A) (before : List A) (n : ℕ) (old new : List A) (x : A) → old ≡ before ++ rows n row → x ≡ row n
    → new ≡ old ++ x ∷ [] → new ≡ before ++ rows (n + 1) row
pushed row before n old new x e f g =
    g ∙ (ap (λ xs. xs ++ x ∷ []) e ∙ (ap (λ y. (before ++ rows n row) ++ y ∷ []) f
    ∙ (append_assoc before (rows n row) (row n ∷ []) ∙ ap (λ xs. before ++ xs) (sym (rows_more row n)))))

pub length_rows : {A : Type 0} (row : ℕ → A) (n : ℕ) → length (rows n row) ≡ n
length_rows row n = length-map-range_with_len row 0 n

-- Fewer rows are the first of them.
pub rows_fewer : {A : Type 0} (row : ℕ → A) (n m : ℕ) → n ≤ m → rows n row ++ drop n (rows m row) ≡ rows m row
rows_fewer row n m h = ap (λ xs. xs ++ drop n (rows m row)) (sym (take-map-range_with_len row 0 m n h)) ∙ take-append-drop n (rows m row)

all_from : {A : Type 0} (rule : A → Bool) (row : ℕ → A) (from n : ℕ) → ((k : ℕ) → k < from + n → rule (row k) ≡ true)
    → list_all rule (map row (range_with_len from n)) ≡ true
all_from rule row from zero h = refl
all_from rule row from (suc n) h =
    ap (λ b. b && list_all rule (map row (range_with_len (from + 1) n))) (h from (omega arith))
    ∙ all_from rule row (from + 1) n (λ k low. h k (omega (arith, low)))

-- Each row follows the rule.
pub all_rows : {A : Type 0} (rule : A → Bool) (row : ℕ → A) (n : ℕ) → ((k : ℕ) → k < n → rule (row k) ≡ true) → list_all rule (rows n row) ≡ true
all_rows rule row n h = all_from rule row 0 n (λ k low. h k (omega (arith, low)))

-- A rule that all rows follow is followed by row k.
pub all_at : {A : Type 0} (rule : A → Bool) (row : ℕ → A) (n k : ℕ) → list_all rule (rows n row) ≡ true → k < n → rule (row k) ≡ true
all_at rule row n k h low = kept (rule (row k)) refl
  where
    kept : (b : Bool) → rule (row k) ≡ b → rule (row k) ≡ true
    kept true e = e
    kept false e =
        let broken : list_all rule (rows n row) ≡ false = list_all_at rule (rows n row) k (row 0) (omega (arith, low, length_rows row n))
        (ap rule (get_or-map-range_with_len row 0 n k k (row 0) low (omega arith)) ∙ e) in
        absurd cc

-- A rule that row k follows is followed by one of the rows.
pub any_row : {A : Type 0} (rule : A → Bool) (row : ℕ → A) (n k : ℕ) → k < n → rule (row k) ≡ true → list_any rule (rows n row) ≡ true
any_row rule row n k low h =
    list_any_at rule (rows n row) k (row 0) (omega (arith, low, length_rows row n))
    (ap rule (get_or-map-range_with_len row 0 n k k (row 0) low (omega arith)) ∙ h)
