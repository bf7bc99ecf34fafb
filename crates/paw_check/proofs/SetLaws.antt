-- Flags and lists of tables.
use Rattle.std.proofs.Common.{◌≡◌, ◌≤◌, ◌<◌, ℕ, zero, suc, ◌+◌, Bool, true, false, cond, List, [], ◌∷◌, ◌++◌, length}
use Rattle.std.proofs.Common.{replicate, take, get_or, refl, sym, ap, ◌∙◌, arith}
use Rattle.std.specs.Prelude.{◌||◌, filter, flat_map, slice_get}
use Rattle.std.specs.List.{list_any, range_with_len, slice_index_or}
use Rattle.std.specs.Option.{unwrap_or}
use Rattle.std.proofs.Math.Numerals.{add-one}
use Rattle.std.proofs.lemmas.List.{take_more, get_or-replicate, append-nil}
use Rattle.std.proofs.lemmas.List.Concat.{flat_map-append}
use Rattle.std.proofs.lemmas.List.Folds.{list_any-append}
use Rattle.paw_base.specs.declared.parts.Condact.{Condact}
use Rattle.paw_game.specs.declared.parts.Entry.{Entry}
use Rattle.paw_check.specs.Calls.{is_call_of}
use Rattle.paw_check.specs.inner.Capped.{MarksTables, condacts_of_entries, condacts_of_tables}
use Rattle.paw_check.proofs.Entries.{range_to}

-- Nothing besides.
pub or_false : (b : Bool) → (b || false) ≡ b
or_false true = refl
or_false false = refl

-- One of what a list is mapped to passes where one of what an element is mapped to does.
pub any_of_flat : {X A : Type 0} (p : A → Bool) (f : X → List A) (xs : List X) → list_any p (flat_map f xs) ≡ list_any (λ x. list_any p (f x)) xs
any_of_flat p f [] = refl
any_of_flat p f (x ∷ xs) = list_any-append p (f x) (flat_map f xs) ∙ ap (λ (b : Bool). list_any p (f x) || b) (any_of_flat p f xs)

-- A list of tables that goes on by one.
pub any_table_more : (p : Condact → Bool) (tables : List (List Entry)) (from : List ℕ) (i d : ℕ) → i < length from
    → list_any p (condacts_of_tables tables (take (i + 1) from))
    ≡ (list_any p (condacts_of_tables tables (take i from))
    || list_any p (condacts_of_entries (unwrap_or (slice_get tables (get_or from i d)) [])))
any_table_more p tables from i d within =
    let f : ℕ → List Condact = λ t. condacts_of_entries (unwrap_or (slice_get tables t) []) in
    ap (λ ts. list_any p (flat_map f ts)) (take_more from i d within)
    ∙ ap (list_any p) (flat_map-append f (take i from) (get_or from i d ∷ []))
    ∙ list_any-append p (flat_map f (take i from)) (flat_map f (get_or from i d ∷ []))
    ∙ ap (λ (b : Bool). list_any p (flat_map f (take i from)) || b) (any_of_flat p f (get_or from i d ∷ []) ∙ or_false _)

-- The numbers that pass, of one more.
pub filter_push : {X : Type 0} (p : X → Bool) (xs : List X) (x : X) → filter p (xs ++ x ∷ []) ≡ filter p xs ++ cond (p x) (x ∷ []) []
filter_push p [] x = refl
filter_push {X} p (y ∷ xs) x = at (p y) ∙ ap (λ (zs : List X). cond (p y) (y ∷ zs) zs) (filter_push p xs x) ∙ after (p y) where
  at : (b : Bool) → cond b (y ∷ filter p (xs ++ x ∷ [])) (filter p (xs ++ x ∷ [])) ≡ cond b (y ∷ filter p (xs ++ x ∷ [])) (filter p (xs ++ x ∷ []))
  at b = refl

  after : (b : Bool) → cond b (y ∷ (filter p xs ++ cond (p x) (x ∷ []) [])) (filter p xs ++ cond (p x) (x ∷ []) [])
      ≡ cond b (y ∷ filter p xs) (filter p xs) ++ cond (p x) (x ∷ []) []
  after true = refl
  after false = refl

pub filter_range_more : (p : ℕ → Bool) (n : ℕ) → filter p (range_with_len 0 (n + 1)) ≡ filter p (range_with_len 0 n) ++ cond (p n) (n ∷ []) []
filter_range_more p n = ap (λ (k : ℕ). filter p (range_with_len 0 k)) (add-one n) ∙ ap (filter p) (range_to n) ∙ filter_push p (range_with_len 0 n) n

-- Tests that agree on the numbers of a range pass the same of them.
pub filter_alike : (p q : ℕ → Bool) (a n : ℕ) → ((u : ℕ) → u < a + n → p u ≡ q u) → filter p (range_with_len a n) ≡ filter q (range_with_len a n)
filter_alike p q a zero same = refl
filter_alike p q a (suc n) same =
    ap (λ (b : Bool). cond b (a ∷ filter p (range_with_len (a + 1) n)) (filter p (range_with_len (a + 1) n))) (same a (omega arith))
    ∙ ap (λ (zs : List ℕ). cond (q a) (a ∷ zs) zs) (filter_alike p q (a + 1) n (λ u low. same u (omega (arith, low))))

-- ---- marks ----

or_assoc : (a b c : Bool) → ((a || b) || c) ≡ (a || (b || c))
or_assoc true b c = refl
or_assoc false b c = refl

-- Marked twice.
pub marks_both : (a b c : List Bool) (p q r : ℕ → Bool) → ((u : ℕ) → (p u || q u) ≡ r u) → MarksTables a b p → MarksTables b c q → MarksTables a c r
marks_both a b c p q r both first second = record {
  long = second.long ∙ first.long;
  each = λ u low. second.each u low ∙ ap (λ (x : Bool). x || q u) (first.each u low)
      ∙ or_assoc (slice_index_or a u false) (p u) (q u) ∙ ap (λ (x : Bool). slice_index_or a u false || x) (both u);
}

-- The tables that one more table calls.
pub marks_table_more : (a b c : List Bool) (tables : List (List Entry)) (from : List ℕ) (i d : ℕ) → i < length from
    → (es : List Entry) → es ≡ unwrap_or (slice_get tables (get_or from i d)) []
    → MarksTables a b (λ u. list_any (is_call_of u) (condacts_of_tables tables (take i from)))
    → MarksTables b c (λ u. list_any (is_call_of u) (condacts_of_entries es))
    → MarksTables a c (λ u. list_any (is_call_of u) (condacts_of_tables tables (take (i + 1) from)))
marks_table_more a b c tables from i d within es is first second =
    marks_both a b c _ _ _ (λ u.
    ap (λ xs. list_any (is_call_of u) (condacts_of_tables tables (take i from)) || list_any (is_call_of u) (condacts_of_entries xs)) is
    ∙ sym (any_table_more (is_call_of u) tables from i d within)) first second

-- A marked number more, and one that isn't marked.
pub marked_yes : (p : ℕ → Bool) (n : ℕ) (xs ys : List ℕ) → xs ≡ filter p (range_with_len 0 n) → p n ≡ true → ys ≡ xs ++ n ∷ []
    → ys ≡ filter p (range_with_len 0 (n + 1))
marked_yes p n xs ys so passes is =
    is ∙ ap (λ (zs : List ℕ). zs ++ n ∷ []) so
    ∙ sym (filter_range_more p n ∙ ap (λ (b : Bool). filter p (range_with_len 0 n) ++ cond b (n ∷ []) []) passes)

pub marked_no : (p : ℕ → Bool) (n : ℕ) (xs ys : List ℕ) → xs ≡ filter p (range_with_len 0 n) → p n ≡ false → ys ≡ xs
    → ys ≡ filter p (range_with_len 0 (n + 1))
marked_no p n xs ys so fails is =
    is ∙ so ∙ sym (filter_range_more p n ∙ ap (λ (b : Bool). filter p (range_with_len 0 n) ++ cond b (n ∷ []) []) fails
    ∙ append-nil (filter p (range_with_len 0 n)))

-- The marked numbers below a count are those that pass.
pub marks_filter : (b : List Bool) (p : ℕ → Bool) (n : ℕ) → n ≤ 256 → MarksTables (replicate 256 false) b p
    → filter (λ u. slice_index_or b u false) (range_with_len 0 n) ≡ filter p (range_with_len 0 n)
marks_filter b p n few so = filter_alike _ p 0 n (λ u low.
    so.each u (omega (arith, low, few)) ∙ ap (λ (x : Bool). x || p u) (get_or-replicate 256 u false false (omega (arith, low, few))))
