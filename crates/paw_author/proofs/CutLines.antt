-- The parts of a line, one after another.
use Rattle.std.proofs.Common.{◌≡◌, ℕ, zero, suc, ◌<◌, ◌≤◌, ◌+◌, ◌==◌, ◌++◌, Bool, true, false, [], ◌∷◌, length, drop}
use Rattle.std.proofs.Common.{if◌then◌else◌, refl, sym, ap, ◌∙◌, append_assoc, append-nil, arith, length-drop}
use Rattle.std.specs.List.{position_or_len, prefix_len}
use Rattle.paw_base.specs.Bytes.{Bytes}
use Rattle.paw_author.specs.declared.fragment.Origin.{Origin}
use Rattle.paw_author.specs.Fragments.{WithOrigin, Fragments}
use Rattle.paw_author.specs.Parts.{is_gap, stops_token, quoted_len, part_len, first_part, further, parts_from}

positive : (a b c d : Bool) (v w x y : ℕ)
    → 1 ≤ (if a then 1 + v else if b then 1 + w else if c then 1 else if d then 1 + x else 1 + y)
positive true b c d v w x y = omega arith
positive false true c d v w x y = omega arith
positive false false true d v w x y = omega arith
positive false false false true v w x y = omega arith
positive false false false false v w x y = omega arith

-- No part is empty.
pub some_part : (b : ℕ) (bs : Bytes) → 1 ≤ part_len (b ∷ bs)
some_part b bs =
    positive (is_gap b) (b == 59) (b == 43) (b == 34) (prefix_len is_gap bs) (length bs) (quoted_len true bs)
    (position_or_len stops_token bs)

-- What is left after a part is shorter.
pub rest_is_shorter : (b : ℕ) (bs : Bytes) → length (drop (part_len (b ∷ bs)) (b ∷ bs)) ≤ length bs
rest_is_shorter b bs =
    let some : 1 ≤ part_len (b ∷ bs) = some_part b bs in
    omega (arith, length-drop (part_len (b ∷ bs)) (b ∷ bs))

-- How many parts there may be is of no effect from the number of bytes on.
pub same_parts : (n m : ℕ) (origin : Origin) (s : Bytes) → length s ≤ n → length s ≤ m
    → parts_from n origin s ≡ parts_from m origin s
unfolding parts_from
same_parts zero zero origin s h k = refl
same_parts zero (suc m) origin [] h k = refl
same_parts zero (suc m) origin (b ∷ bs) h k = absurd (omega arith)
same_parts (suc n) zero origin [] h k = refl
same_parts (suc n) zero origin (b ∷ bs) h k = absurd (omega arith)
same_parts (suc n) (suc m) origin [] h k = refl
same_parts (suc n) (suc m) origin (b ∷ bs) h k =
    let len : ℕ = part_len (b ∷ bs) in
    let short : length (drop len (b ∷ bs)) ≤ length bs = rest_is_shorter b bs in
    ap (λ (more : Fragments). first_part origin len (b ∷ bs) ∷ more)
    (same_parts n m (further len origin) (drop len (b ∷ bs)) (omega arith) (omega arith))

-- The first part of a line, and those of what is left.
pub one_part : (origin : Origin) (s : Bytes) → 0 < length s
    → parts_from (length s) origin s
    ≡ first_part origin (part_len s) s ∷ parts_from (length (drop (part_len s) s)) (further (part_len s) origin) (drop (part_len s) s)
unfolding parts_from
one_part origin [] h = absurd (omega arith)
one_part origin (b ∷ bs) h =
    let len : ℕ = part_len (b ∷ bs) in
    let short : length (drop len (b ∷ bs)) ≤ length bs = rest_is_shorter b bs in
    ap (λ (more : Fragments). first_part origin len (b ∷ bs) ∷ more)
    (same_parts (length bs) (length (drop len (b ∷ bs))) (further len origin) (drop len (b ∷ bs)) short (omega arith))

-- One part more is read.
pub part_more : (before : Fragments) (x : WithOrigin) (origin : Origin) (k : ℕ) (s : Bytes) (all : Fragments)
    → 0 < length s → k ≡ part_len s → x ≡ first_part origin k s → before ++ parts_from (length s) origin s ≡ all
    → (before ++ x ∷ []) ++ parts_from (length (drop k s)) (further k origin) (drop k s) ≡ all
part_more before x origin k s all h e f g =
    append_assoc before (x ∷ []) (parts_from (length (drop k s)) (further k origin) (drop k s))
    ∙ ap (λ (more : Fragments). before ++ more) (rw (f, e) (sym (one_part origin s h)))
    ∙ g

-- No byte is left.
pub no_part : (before : Fragments) (origin : Origin) (s : Bytes) (all : Fragments) → length s ≡ 0
    → before ++ parts_from (length s) origin s ≡ all → before ≡ all
unfolding parts_from
no_part before origin [] all e f = sym (append-nil before) ∙ f
no_part before origin (b ∷ bs) all e f = absurd (omega arith)
