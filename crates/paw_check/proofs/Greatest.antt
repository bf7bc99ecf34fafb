-- The greatest of some numbers, found one by one.
use Rattle.std.proofs.Common.{◌≡◌, ◌≤◌, ◌<◌, ℕ, ◌+◌, max, List, [], ◌∷◌, length, map, drop, get_or, refl}
use Rattle.std.proofs.Common.{sym, ap, ◌∙◌, arith}
use Rattle.std.proofs.lemmas.List.{drop_more, drop_all}
use Rattle.paw_check.specs.Measures.{greatest}
use Rattle.paw_check.specs.inner.Capped.{in_32_bits}
use Rattle.paw_check.proofs.Capped.{capped_max}

greatest_none : greatest [] ≡ 0
unfolding greatest
greatest_none = refl

greatest_cons : (n : ℕ) (ns : List ℕ) → greatest (n ∷ ns) ≡ max n (greatest ns)
unfolding greatest
greatest_cons n ns = refl

-- One number more.
pub most_more : (m : ℕ) (xs : List ℕ) (i d whole : ℕ) → i < length xs → max m (greatest (drop i xs)) ≡ whole
    → max (max m (get_or xs i d)) (greatest (drop (i + 1) xs)) ≡ whole
most_more m xs i d whole within so =
    let first = ap greatest (drop_more xs i d within) ∙ greatest_cons (get_or xs i d) (drop (i + 1) xs) in
    omega (arith, so, first)

-- None is left.
pub most_all : (m : ℕ) (xs : List ℕ) (i whole : ℕ) → length xs ≤ i → max m (greatest (drop i xs)) ≡ whole → m ≡ whole
most_all m xs i whole past so =
    let none = ap greatest (drop_all i xs past) ∙ greatest_none in
    omega (arith, so, none)

-- The same of what a list is mapped to, with the cap.
pub capped_more : {X : Type 0} (f : X → ℕ) (m : ℕ) (xs : List X) (i : ℕ) (d : X) (whole : ℕ) → i < length xs
    → max m (in_32_bits (greatest (map f (drop i xs)))) ≡ whole
    → max (max m (in_32_bits (f (get_or xs i d)))) (in_32_bits (greatest (map f (drop (i + 1) xs)))) ≡ whole
capped_more f m xs i d whole within so =
    let first = ap (λ ys. greatest (map f ys)) (drop_more xs i d within) ∙ greatest_cons (f (get_or xs i d)) (map f (drop (i + 1) xs)) in
    omega (arith, so, first)

pub capped_all : {X : Type 0} (f : X → ℕ) (m : ℕ) (xs : List X) (i whole : ℕ) → length xs ≤ i
    → max m (in_32_bits (greatest (map f (drop i xs)))) ≡ whole → m ≡ whole
capped_all f m xs i whole past so =
    let none = ap (λ ys. greatest (map f ys)) (drop_all i xs past) ∙ greatest_none in
    omega (arith, so, none)

-- The greatest of numbers with the cap is the greatest with the cap.
pub greatest_capped : {X : Type 0} (f : X → ℕ) (xs : List X) → greatest (map (λ x. in_32_bits (f x)) xs) ≡ in_32_bits (greatest (map f xs))
greatest_capped f [] = greatest_none ∙ ap in_32_bits (sym greatest_none)
greatest_capped f (x ∷ xs) =
    greatest_cons (in_32_bits (f x)) _ ∙ ap (max (in_32_bits (f x))) (greatest_capped f xs)
    ∙ capped_max (f x) (greatest (map f xs)) ∙ ap in_32_bits (sym (greatest_cons (f x) (map f xs)))

-- Numbers that are the same but for the cap have the same greatest.
pub greatest_alike : {X : Type 0} (f h : X → ℕ) (xs : List X) → ((x : X) → in_32_bits (f x) ≡ in_32_bits (h x))
    → in_32_bits (greatest (map f xs)) ≡ in_32_bits (greatest (map h xs))
greatest_alike f h [] same = refl
greatest_alike f h (x ∷ xs) same =
    let rest = greatest_alike f h xs same in
    let first = greatest_cons (f x) (map f xs) in
    let second = greatest_cons (h x) (map h xs) in
    let here = same x in
    omega (arith, rest, first, second, here)

-- The same of what a list is mapped to.
pub mapped_more : {X : Type 0} (f : X → ℕ) (m : ℕ) (xs : List X) (i : ℕ) (d : X) (whole : ℕ) → i < length xs
    → max m (greatest (map f (drop i xs))) ≡ whole
    → max (max m (f (get_or xs i d))) (greatest (map f (drop (i + 1) xs))) ≡ whole
mapped_more f m xs i d whole within so =
    let first = ap (λ ys. greatest (map f ys)) (drop_more xs i d within) ∙ greatest_cons (f (get_or xs i d)) (map f (drop (i + 1) xs)) in
    omega (arith, so, first)

pub mapped_all : {X : Type 0} (f : X → ℕ) (m : ℕ) (xs : List X) (i whole : ℕ) → length xs ≤ i
    → max m (greatest (map f (drop i xs))) ≡ whole → m ≡ whole
mapped_all f m xs i whole past so =
    let none = ap (λ ys. greatest (map f ys)) (drop_all i xs past) ∙ greatest_none in
    omega (arith, so, none)
