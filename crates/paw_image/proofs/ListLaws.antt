-- Lists of rows: what is read is their images one after another, and these are read again.
use Rattle.std.proofs.Common.{◌≡◌, ℕ, zero, suc, List, [], ◌∷◌, ◌++◌, length, Result, Ok, Err, refl, sym, ap, subst}
use Rattle.std.proofs.Common.{◌∙◌, append_assoc}
use Rattle.std.specs.Prelude.{OnOk}
use Rattle.std.specs.List.{flat_map, AllByRecursion}
use Rattle.paw_base.specs.Bytes.{Bytes}
use Rattle.paw_image.specs.Reading.{Reading, byte_at}
use Rattle.paw_image.specs.inner.Reading.{few_at, leading_rows}
use Rattle.paw_image.proofs.FieldLaws.{IsBytes, Takes, Takes-then, bind_then, at_ok, byte_takes}

-- A row that is read stands there as its image.
abbrev pub TakesRow : {A : Type 0} → (Bytes → Reading A) → (A → Bytes) → Type 0
TakesRow {A} row image = (bytes : Bytes) (x : A × Bytes) → IsBytes bytes → row bytes ≡ Ok x → Takes bytes (image x.0) x.1

-- The image of a row that fits is read as that row.
abbrev pub ReadsAgain : {A : Type 0} → (Bytes → Reading A) → (A → Bytes) → (A → Type 0) → Type 0
ReadsAgain {A} row image Fits = (x : A) (rest : Bytes) → Fits x → row (image x ++ rest) ≡ Ok (x, rest)

pub rows_take : {A : Type 0} (row : Bytes → Reading A) (image : A → Bytes) → TakesRow row image
    → (n : ℕ) (bytes : Bytes) (x : List A × Bytes) → IsBytes bytes → leading_rows row n bytes ≡ Ok x → Takes bytes (flat_map image x.0) x.1 × (length x.0 ≡ n)
unfolding leading_rows
rows_take {A} row image takes zero bytes x fits e =
    at_ok (λ (y : List A × Bytes). Takes bytes (flat_map image y.0) y.1 × (length y.0 ≡ 0)) ([], bytes) x e (record { parts = refl; rest_fits = fits }, refl)
rows_take {A} row image takes (suc n) bytes x fits e =
    bind_then _ (row bytes) _ x e (λ first first_ok e.
    bind_then _ (leading_rows row n first.1) _ x e (λ others others_ok e.
    let first_taken = takes bytes first fits first_ok in
    let others_taken = rows_take row image takes n first.1 others first_taken.rest_fits others_ok in
    at_ok (λ (y : List A × Bytes). Takes bytes (flat_map image y.0) y.1 × (length y.0 ≡ suc n)) _ x e
    (Takes-then (image first.0) (flat_map image others.0) first_taken others_taken.0, ap suc others_taken.1)))

pub rows_again : {A : Type 0} (row : Bytes → Reading A) (image : A → Bytes) (Fits : A → Type 0) → ReadsAgain row image Fits
    → (xs : List A) (rest : Bytes) → AllByRecursion Fits xs → leading_rows row (length xs) (flat_map image xs ++ rest) ≡ Ok (xs, rest)
unfolding leading_rows
rows_again row image Fits again [] rest fits = refl
rows_again row image Fits again (x ∷ xs) rest fits =
    rw (append_assoc (image x) (flat_map image xs) rest, again x (flat_map image xs ++ rest) fits.0, rows_again row image Fits again xs rest fits.1) refl

-- ---- after a count of one byte ----

pub few_take : {A : Type 0} (row : Bytes → Reading A) (image : A → Bytes) → TakesRow row image
    → TakesRow (few_at row) (λ xs. length xs ∷ flat_map image xs)
unfolding few_at
few_take row image takes bytes x fits e =
    bind_then _ (byte_at bytes) _ x e (λ count count_ok e.
    let count_taken = (byte_takes bytes count fits count_ok).0 in
    let rows_taken = rows_take row image takes count.0 count.1 x count_taken.rest_fits e in
    subst (λ (n : ℕ). Takes bytes (n ∷ flat_map image x.0) x.1) (sym rows_taken.1)
    (Takes-then (count.0 ∷ []) (flat_map image x.0) count_taken rows_taken.0))

pub few_again : {A : Type 0} (row : Bytes → Reading A) (image : A → Bytes) (Fits : A → Type 0) → ReadsAgain row image Fits
    → ReadsAgain (few_at row) (λ xs. length xs ∷ flat_map image xs) (AllByRecursion Fits)
unfolding few_at
few_again row image Fits again xs rest fits = rows_again row image Fits again xs rest fits

-- ---- writing at the end ----

-- What was written, and then more.
pub grows : (a x y : Bytes) {b c z : Bytes} → b ≡ a ++ x → c ≡ b ++ z → z ≡ y → c ≡ a ++ (x ++ y)
grows a x y {b = b} first second is = second ∙ ap (λ (t : Bytes). b ++ t) is ∙ ap (λ (t : Bytes). t ++ y) first ∙ append_assoc a x y

-- The same where the last step may have failed.
pub grows_last : {T E : Type 0} (r : Result T E) (a x y : Bytes) {b z : Bytes} (c : Bytes) → b ≡ a ++ x
    → OnOk r (c ≡ b ++ z) → z ≡ y → OnOk r (c ≡ a ++ (x ++ y))
grows_last (Ok _) a x y c first second is = grows a x y first second is
grows_last (Err _) a x y c first second is = tt
