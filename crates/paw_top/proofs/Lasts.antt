-- The last of a list.
use Rattle.std.proofs.Common.{◌≡◌, ◌-◌, List, [], ◌∷◌, ◌++◌, length, get_or, set, refl, ap, ◌∙◌, arith, length-append}
use Rattle.paw_grammar.specs.GrammarState.{last_or, with_last}

get_or-last : {A : Type 0} (xs : List A) (y d : A) → get_or (xs ++ y ∷ []) (length xs) d ≡ y
get_or-last [] y d = refl
get_or-last (x ∷ xs) y d = get_or-last xs y d

set-last : {A : Type 0} (xs : List A) (y z : A) → set (xs ++ y ∷ []) (length xs) z ≡ xs ++ z ∷ []
set-last [] y z = refl
set-last {A} (x ∷ xs) y z = ap (λ (ys : List A). x ∷ ys) (set-last xs y z)

last_index : {A : Type 0} (xs : List A) (y : A) → length (xs ++ y ∷ []) - 1 ≡ length xs
last_index xs y = omega (arith, length-append xs (y ∷ []))

pub last_or-push : {A : Type 0} (other : A) (xs : List A) (y : A) → last_or other (xs ++ y ∷ []) ≡ y
last_or-push {A} other xs y = ap (λ n. get_or (xs ++ y ∷ []) n other) (last_index xs y) ∙ get_or-last xs y other

pub with_last-push : {A : Type 0} (z : A) (xs : List A) (y : A) → with_last z (xs ++ y ∷ []) ≡ xs ++ z ∷ []
with_last-push {A} z xs y = ap (λ n. set (xs ++ y ∷ []) n z) (last_index xs y) ∙ set-last xs y z
