-- The first line of some bytes.
use Rattle.std.proofs.Common.{◌≡◌, ◌≢◌, ℕ, ◌+◌, ◌-◌, ◌<◌, ◌≤◌, zero, suc, ◌&&◌, Bool, true, false, List, [], ◌∷◌, ◌++◌}
use Rattle.std.proofs.Common.{length, take, get_or, nat_lt, refl, ap, ◌∙◌, sym, subst}
use Rattle.std.proofs.Common.{arith, length-append, append_assoc, ◌⊎◌, inl, inr}
use Rattle.std.specs.Prelude.{if◌then◌else◌, ◌==◌}
use Rattle.std.specs.Io.BufRead.{take_through, drop_through, ends_with_byte, strip_last, first_line}
use Rattle.std.proofs.Math.Seq.{take-append_seam}
use Rattle.std.proofs.lemmas.List.{length-take, append-nil, take_more}
use Rattle.paw_base.specs.Bytes.{Bytes, Line}
use Rattle.paw_stage.specs.inner.LineParts.{HasNoEnd}

not_same : (x y : ℕ) → x ≢ y → (x == y) ≡ false
not_same x y h = grind arith

take_through-end : (xs rest : Bytes) → HasNoEnd xs → take_through 10 (xs ++ 10 ∷ rest) ≡ xs ++ 10 ∷ []
take_through-end [] rest h = refl
take_through-end (x ∷ xs) rest h = rw (not_same x 10 h.0) (ap (λ ys. x ∷ ys) (take_through-end xs rest h.1))

pub drop_through-end : (xs rest : Bytes) → HasNoEnd xs → drop_through 10 (xs ++ 10 ∷ rest) ≡ rest
drop_through-end [] rest h = refl
drop_through-end (x ∷ xs) rest h = rw (not_same x 10 h.0) (drop_through-end xs rest h.1)

take_through-whole : (xs : Bytes) → HasNoEnd xs → take_through 10 xs ≡ xs
take_through-whole [] h = refl
take_through-whole (x ∷ xs) h = rw (not_same x 10 h.0) (ap (λ ys. x ∷ ys) (take_through-whole xs h.1))

pub drop_through-whole : (xs : Bytes) → HasNoEnd xs → drop_through 10 xs ≡ []
drop_through-whole [] h = refl
drop_through-whole (x ∷ xs) h = rw (not_same x 10 h.0) (drop_through-whole xs h.1)

pub HasNoEnd-push : (xs : Bytes) (x : ℕ) → HasNoEnd xs → x ≢ 10 → HasNoEnd (xs ++ x ∷ [])
HasNoEnd-push [] x h ne = (ne, tt)
HasNoEnd-push (y ∷ xs) x h ne = (h.0, HasNoEnd-push xs x h.1 ne)

pub HasNoEnd-append : (xs ys : Bytes) → HasNoEnd xs → HasNoEnd ys → HasNoEnd (xs ++ ys)
HasNoEnd-append [] ys h k = k
HasNoEnd-append (x ∷ xs) ys h k = (h.0, HasNoEnd-append xs ys h.1 k)

get_last : (xs : List ℕ) (x : ℕ) → get_or (xs ++ x ∷ []) (length xs) 0 ≡ x
get_last [] x = refl
get_last (y ∷ xs) x = get_last xs x

same : (x : ℕ) → (x == x) ≡ true
same x = grind arith

and_false : (b : Bool) → (b && false) ≡ false
and_false true = refl
and_false false = refl

-- The last byte decides.
pub ends_with_byte-push : (b : ℕ) (xs : Bytes) (x : ℕ) → ends_with_byte b (xs ++ x ∷ []) ≡ (x == b)
ends_with_byte-push b xs x =
    let n : length (xs ++ x ∷ []) - 1 ≡ length xs = omega (arith, length-append xs (x ∷ [])) in
    let some : nat_lt 0 (length (xs ++ x ∷ [])) ≡ true = grind (arith, length-append xs (x ∷ [])) in
    ap (λ t. t && (get_or (xs ++ x ∷ []) (length (xs ++ x ∷ []) - 1) 0 == b)) some
    ∙ (ap (λ k. get_or (xs ++ x ∷ []) k 0 == b) n ∙ ap (λ v. v == b) (get_last xs x))

none_or : (n : ℕ) → (n ≡ 0) ⊎ (0 < n)
none_or n = grind arith

-- The last of some bytes decides, or where there is none of them the last byte before them.
pub ends_with_byte-part : (b : ℕ) (xs bytes : Bytes) (n : ℕ) (before : Bool) → before ≡ ends_with_byte b xs →
    n ≤ length bytes → (if nat_lt 0 n then get_or bytes (n - 1) 0 == b else before) ≡ ends_with_byte b (xs ++ take n bytes)
ends_with_byte-part b xs bytes n before e low = elim (none_or n) [
  | inl none ↦
      let test : nat_lt 0 n ≡ false = grind (arith, none) in
      ap (λ t. if t then get_or bytes (n - 1) 0 == b else before) test
      ∙ (e ∙ ap (ends_with_byte b) (sym (ap (λ k. xs ++ take k bytes) none ∙ append-nil xs)))
  | inr some ↦
      let test : nat_lt 0 n ≡ true = grind (arith, some) in
      let next : n ≡ (n - 1) + 1 = omega (arith, some) in
      let byte : ℕ = get_or bytes (n - 1) 0 in
      let parts : xs ++ take n bytes ≡ (xs ++ take (n - 1) bytes) ++ byte ∷ [] =
      ap (λ k. xs ++ take k bytes) next
      ∙ (ap (λ ys. xs ++ ys) (take_more bytes (n - 1) 0 (omega (arith, some, low)))
      ∙ sym (append_assoc xs (take (n - 1) bytes) (byte ∷ []))) in
      ap (λ t. if t then byte == b else before) test
      ∙ (sym (ends_with_byte-push b (xs ++ take (n - 1) bytes) byte) ∙ ap (ends_with_byte b) (sym parts))
]

strip_last-push : (b : ℕ) (xs : Bytes) → strip_last b (xs ++ b ∷ []) ≡ xs
strip_last-push b xs =
    let n : length (xs ++ b ∷ []) - 1 ≡ length xs = omega (arith, length-append xs (b ∷ [])) in
    ap (λ t. if t then take (length (xs ++ b ∷ []) - 1) (xs ++ b ∷ []) else xs ++ b ∷ [])
    (ends_with_byte-push b xs b ∙ same b) ∙ (ap (λ k. take k (xs ++ b ∷ [])) n ∙ take-append_seam xs (b ∷ []))

pub get_plain : (xs : Bytes) (i : ℕ) → HasNoEnd xs → i < length xs → get_or xs i 0 ≢ 10
get_plain [] i h low = absurd (omega arith)
get_plain (x ∷ xs) zero h low = h.0
get_plain (x ∷ xs) (suc i) h low = get_plain xs i h.1 (omega arith)

not_ended : (xs : Bytes) → HasNoEnd xs → ends_with_byte 10 xs ≡ false
not_ended [] h = refl
not_ended (x ∷ xs) h =
    ap (λ t. nat_lt 0 (length (x ∷ xs)) && t)
    (not_same (get_or (x ∷ xs) (length (x ∷ xs) - 1) 0) 10 (get_plain (x ∷ xs) (length (x ∷ xs) - 1) h (omega arith)))
    ∙ and_false (nat_lt 0 (length (x ∷ xs)))

-- The line in the bytes up to the first LF, or in all of them.
line_in : Bytes → Line
line_in t = if ends_with_byte 10 t then strip_last 13 (strip_last 10 t) else strip_last 10 t

line_in-end : (xs : Bytes) → line_in (xs ++ 10 ∷ []) ≡ strip_last 13 xs
unfolding line_in
line_in-end xs =
    ap (λ t. if t then strip_last 13 (strip_last 10 (xs ++ 10 ∷ [])) else strip_last 10 (xs ++ 10 ∷ [])) (ends_with_byte-push 10 xs 10)
    ∙ ap (strip_last 13) (strip_last-push 10 xs)

line_in-whole : (xs : Bytes) → HasNoEnd xs → line_in xs ≡ xs
unfolding line_in
line_in-whole xs h =
    ap (λ t. if t then strip_last 13 (if t then take (length xs - 1) xs else xs) else (if t then take (length xs - 1) xs else xs)) (not_ended xs h)

-- A line up to its LF.
pub first_line-end : (xs rest : Bytes) → HasNoEnd xs → first_line (xs ++ 10 ∷ rest) ≡ strip_last 13 xs
unfolding line_in
first_line-end xs rest h = ap line_in (take_through-end xs rest h) ∙ line_in-end xs

-- A line that has no end.
pub first_line-whole : (xs : Bytes) → HasNoEnd xs → first_line xs ≡ xs
unfolding line_in
first_line-whole xs h = ap line_in (take_through-whole xs h) ∙ line_in-whole xs h

-- No more than the last byte is left out.
strip_last-length : (b : ℕ) (xs : Bytes) → length xs ≤ length (strip_last b xs) + 1
strip_last-length b xs = by_test (ends_with_byte b xs)
  where
    by_test : (t : Bool) → length xs ≤ length (if t then take (length xs - 1) xs else xs) + 1
    by_test true = omega (arith, length-take (length xs - 1) xs)
    by_test false = omega arith

take_through-more : (xs rest : Bytes) → HasNoEnd xs → take_through 10 (xs ++ rest) ≡ xs ++ take_through 10 rest
take_through-more [] rest h = refl
take_through-more (x ∷ xs) rest h = rw (not_same x 10 h.0) (ap (λ ys. x ∷ ys) (take_through-more xs rest h.1))

-- A line of bytes without an LF and more has all of them but a CR at their end.
line_in-long : (xs more : Bytes) → HasNoEnd xs → length xs ≤ length (line_in (xs ++ more)) + 1
unfolding line_in
line_in-long xs [] h = rw (append-nil xs) (rw (line_in-whole xs h) (omega arith))
line_in-long xs (y ∷ ys) h = by_test (ends_with_byte 10 (xs ++ y ∷ ys))
  where
    t : Bytes
    t = xs ++ y ∷ ys

    by_test : (b : Bool) → length xs ≤ length (if b then strip_last 13 (strip_last 10 t) else strip_last 10 t) + 1
    by_test true =
        omega (arith, length-append xs (y ∷ ys), strip_last-length 10 t, strip_last-length 13 (strip_last 10 t))
    by_test false = omega (arith, length-append xs (y ∷ ys), strip_last-length 10 t)

pub first_line-long : (xs rest : Bytes) → HasNoEnd xs → length xs ≤ length (first_line (xs ++ rest)) + 1
unfolding line_in
first_line-long xs rest h = subst (λ l. length xs ≤ length (line_in l) + 1) (sym (take_through-more xs rest h)) (line_in-long xs (take_through 10 rest) h)
