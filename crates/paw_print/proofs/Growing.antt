-- Lines after lines: what a loop over rows has written.
use Rattle.std.proofs.Common.{◌≡◌, ℕ, suc, ◌<◌, ◌+◌, List, [], ◌∷◌, ◌++◌, length, take, map, get_or, Result, Ok, Err}
use Rattle.std.proofs.Common.{refl, sym, ap, ◌∙◌, zero-add, arith}
use Rattle.std.specs.Prelude.{OnOk}
use Rattle.std.specs.List.{flat_map}
use Rattle.std.proofs.lemmas.Grind.{flat_map-append}
use Rattle.std.proofs.lemmas.List.{append_assoc, append-nil, take_more, map-append, length-take-le}
use Rattle.paw_base.specs.Bytes.{Lines, Line, Text}
use Rattle.paw_print.specs.Canonical.{numbered_lines, with_line_end, with_line_ends}

-- More lines.
pub written_more : (a b c z : Text) (xs ys : Lines) → b ≡ a ++ with_line_ends xs → c ≡ b ++ z → z ≡ with_line_ends ys →
    c ≡ a ++ with_line_ends (xs ++ ys)
written_more a b c z xs ys first second is =
    second
    ∙ ap (λ (t : Text). t ++ z) first
    ∙ append_assoc a (with_line_ends xs) z
    ∙ ap (λ (t : Text). a ++ (with_line_ends xs ++ t)) is
    ∙ ap (λ (t : Text). a ++ t) (sym (flat_map-append with_line_end xs ys))

-- The same where the last step may have failed.
pub written_last : {T E : Type 0} (r : Result T E) (a b c z : Text) (xs ys : Lines) → b ≡ a ++ with_line_ends xs
    → OnOk r (c ≡ b ++ z) → z ≡ with_line_ends ys → OnOk r (c ≡ a ++ with_line_ends (xs ++ ys))
written_last (Ok _) a b c z xs ys first second is = written_more a b c z xs ys first second is
written_last (Err _) a b c z xs ys first second is = tt

-- The first rows, and the next.
take_next : {A : Type 0} (xs : List A) (i : ℕ) (x : A) → i < length xs → x ≡ get_or xs i x → take i xs ++ x ∷ [] ≡ take (i + 1) xs
take_next {A} xs i x h is = sym (take_more xs i x h ∙ ap (λ (y : A). take i xs ++ y ∷ []) (sym is))

-- A line for each row.
pub map_more : {A : Type 0} (f : A → Line) (before : Lines) (xs : List A) (i : ℕ) (x : A) (a b c : Text) → i < length xs → x ≡ get_or xs i x
    → b ≡ a ++ with_line_ends (before ++ map f (take i xs)) → c ≡ b ++ with_line_end (f x) → c ≡ a ++ with_line_ends (before ++ map f (take (i + 1) xs))
map_more {A} f before xs i x a b c h is first second =
    written_more a b c (with_line_end (f x)) (before ++ map f (take i xs)) (f x ∷ []) first second (sym (append-nil (with_line_end (f x))))
    ∙ ap (λ (ls : Lines). a ++ with_line_ends ls)
    (append_assoc before (map f (take i xs)) (f x ∷ [])
    ∙ ap (λ (ls : Lines). before ++ ls) (sym (map-append f (take i xs) (x ∷ [])))
    ∙ ap (λ (ys : List A). before ++ map f ys) (take_next xs i x h is))

-- Lines for each row.
pub rows_more : {A : Type 0} (g : A → Lines) (before : Lines) (xs : List A) (i : ℕ) (x : A) (a b c : Text) → i < length xs → x ≡ get_or xs i x
    → b ≡ a ++ with_line_ends (before ++ flat_map g (take i xs)) → c ≡ b ++ with_line_ends (g x) →
    c ≡ a ++ with_line_ends (before ++ flat_map g (take (i + 1) xs))
rows_more {A} g before xs i x a b c h is first second =
    written_more a b c (with_line_ends (g x)) (before ++ flat_map g (take i xs)) (g x) first second refl
    ∙ ap (λ (ls : Lines). a ++ with_line_ends ls)
    (append_assoc before (flat_map g (take i xs)) (g x)
    ∙ ap (λ (ls : Lines). before ++ (flat_map g (take i xs) ++ ls)) (sym (append-nil (g x)))
    ∙ ap (λ (ls : Lines). before ++ ls) (sym (flat_map-append g (take i xs) (x ∷ [])))
    ∙ ap (λ (ys : List A). before ++ flat_map g ys) (take_next xs i x h is))

pub numbered-push : {A : Type 0} (g : ℕ → A → Lines) (n : ℕ) (xs : List A) (x : A)
    → numbered_lines g n (xs ++ x ∷ []) ≡ numbered_lines g n xs ++ g (n + length xs) x
numbered-push g n [] x =
    let e : n + 0 ≡ n = omega arith in
    append-nil (g n x) ∙ ap (λ k. g k x) (sym e)
numbered-push g n (y ∷ ys) x =
    let e : suc n + length ys ≡ n + suc (length ys) = omega arith in
    ap (λ (ls : Lines). g n y ++ ls) (numbered-push g (suc n) ys x)
    ∙ sym (append_assoc (g n y) (numbered_lines g (suc n) ys) (g (suc n + length ys) x))
    ∙ ap (λ k. (g n y ++ numbered_lines g (suc n) ys) ++ g k x) e

numbered-take : {A : Type 0} (g : ℕ → A → Lines) (xs : List A) (i : ℕ) (x : A) → i < length xs
    → numbered_lines g 0 (take i xs ++ x ∷ []) ≡ numbered_lines g 0 (take i xs) ++ g i x
numbered-take {A} g xs i x h =
    let e : 0 + length (take i xs) ≡ i = zero-add (length (take i xs)) ∙ length-take-le i xs (omega arith) in
    numbered-push g 0 (take i xs) x ∙ ap (λ k. numbered_lines g 0 (take i xs) ++ g k x) e

-- Lines for each row and its number.
pub numbered_more : {A : Type 0} (g : ℕ → A → Lines) (before : Lines) (xs : List A) (i : ℕ) (x : A)
    (a b c : Text) → i < length xs → x ≡ get_or xs i x
    → b ≡ a ++ with_line_ends (before ++ numbered_lines g 0 (take i xs)) → c ≡ b ++ with_line_ends (g i x) →
    c ≡ a ++ with_line_ends (before ++ numbered_lines g 0 (take (i + 1) xs))
numbered_more {A} g before xs i x a b c h is first second =
    written_more a b c (with_line_ends (g i x)) (before ++ numbered_lines g 0 (take i xs)) (g i x) first second refl
    ∙ ap (λ (ls : Lines). a ++ with_line_ends ls)
    (append_assoc before (numbered_lines g 0 (take i xs)) (g i x)
    ∙ ap (λ (ls : Lines). before ++ ls) (sym (numbered-take g xs i x h))
    ∙ ap (λ (ys : List A). before ++ numbered_lines g 0 ys) (take_next xs i x h is))

-- Rows of which a part is printed.
pub numbered-map : {A B : Type 0} (g : ℕ → B → Lines) (part : A → B) (n : ℕ) (xs : List A)
    → numbered_lines g n (map part xs) ≡ numbered_lines (λ k x. g k (part x)) n xs
numbered-map g part n [] = refl
numbered-map g part n (x ∷ xs) = ap (λ (ls : Lines). g n (part x) ++ ls) (numbered-map g part (suc n) xs)
