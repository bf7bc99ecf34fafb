-- What goes into the buffer of a part of a line.
use Rattle.std.proofs.Common.{◌≡◌, ◌≢◌, ℕ, zero, suc, ◌+◌, ◌-◌, ◌<◌, ◌≤◌, inl, inr, Bool, true, false, [], ◌∷◌, ◌++◌}
use Rattle.std.proofs.Common.{length, take, drop, set, get_or, sym, ap, ◌∙◌, subst, arith, append_assoc}
use Rattle.std.specs.Prelude.{◌==◌, nat_lt, not, if◌then◌else◌, slice_range, Option, Some, None}
use Rattle.std.specs.Option.{unwrap_or}
use Rattle.std.specs.Io.KnownBytes.{prepend_known}
use Rattle.std.specs.List.{position, position_or_len}
use Rattle.std.proofs.lemmas.Bool.{cases_lt, false≢true}
use Rattle.std.proofs.lemmas.List.{take_more, take_more_set, drop_more, drop-take, drop-drop, take-append-drop}
use Rattle.std.proofs.lemmas.List.{length-take, length-drop, get_or-drop}
use Rattle.std.proofs.lemmas.List.Sums.{fails_before_first, passes_at_first, prefix_len-le-length}
use Rattle.std.proofs.Math.Seq.{take-add}
use Rattle.paw_base.specs.Bytes.{Bytes}
use Rattle.paw_stage.specs.inner.LineParts.{HasNoEnd, CopiesPart, Gathers, line_end}
use Rattle.paw_stage.proofs.FirstLine.{HasNoEnd-append, HasNoEnd-push}
use Rattle.paw_stage.proofs.Consumed.{consumes_part}
use Rattle.paw_stage.proofs.Gathered.{gathers_part}

-- Without the first bytes of a range.
pub range_taken : (bytes : Bytes) (from to n : ℕ) → n ≤ length (slice_range bytes from to) →
    slice_range bytes (from + n) to ≡ drop n (slice_range bytes from to)
range_taken bytes from to n low =
    let rest : ℕ = to - (from + n) in
    let sum : to - from ≡ n + rest = omega (arith, low, length-take (to - from) (drop from bytes)) in
    sym (ap (λ k. drop n (take k (drop from bytes))) sum
    ∙ (drop-take n rest (drop from bytes) ∙ ap (take rest) (drop-drop n from bytes)))

-- One byte more is copied.
pub copied_more : (old into bytes : Bytes) (to at : ℕ) → to + at < length into → at < length bytes →
    take (to + at) into ≡ take to old ++ take at bytes →
    take (to + (at + 1)) (set into (to + at) (get_or bytes at 0)) ≡ take to old ++ take (at + 1) bytes
copied_more old into bytes to at room low copied =
    let byte : ℕ = get_or bytes at 0 in
    let next : to + (at + 1) ≡ (to + at) + 1 = omega arith in
    ap (λ k. take k (set into (to + at) byte)) next
    ∙ (take_more_set into (to + at) byte room
    ∙ (ap (λ l. l ++ byte ∷ []) copied
    ∙ (append_assoc (take to old) (take at bytes) (byte ∷ []) ∙ ap (λ l. take to old ++ l) (sym (take_more bytes at 0 low)))))

-- One byte more that isn't an LF.
pub plain_more : (bytes : Bytes) (at : ℕ) → at < length bytes → HasNoEnd (take at bytes) → get_or bytes at 0 ≢ 10 →
    HasNoEnd (take (at + 1) bytes)
plain_more bytes at low plain ne =
    subst HasNoEnd (sym (take_more bytes at 0 low)) (HasNoEnd-push (take at bytes) (get_or bytes at 0) plain ne)

-- Where no byte of some first ones is an LF.
plain_at : (n : ℕ) (xs : Bytes) → n ≤ length xs → ((k : ℕ) → k < n → get_or xs k 0 ≢ 10) → HasNoEnd (take n xs)
plain_at zero xs low each = tt
plain_at (suc n) [] low each = absurd (omega (arith, low))
plain_at (suc n) (x ∷ xs) low each = (each 0 (omega arith), plain_at n xs (omega (arith, low)) (λ k lt. each (suc k) (omega (arith, lt))))

below : (m n : ℕ) → true ≡ nat_lt m n → m < n
below m n e = elim (cases_lt m n) [
  | inl lt ↦ lt
  | inr le ↦ let test : nat_lt m n ≡ false = grind (arith, le) in absurd (false≢true (sym test ∙ sym e))
]

is_same : (x : ℕ) → (x == 10) ≡ true → x ≡ 10
is_same x h = grind (arith, h)

differs : (x : ℕ) → (x == 10) ≡ false → x ≢ 10
differs x h = grind (arith, h)

same : (x : ℕ) → x ≡ 10 → (x == 10) ≡ true
same x h = grind (arith, h)

pub first_or_length : (xs : Bytes) →
    unwrap_or (position (λ byte. byte == 10) xs) (length xs) ≡ position_or_len (λ byte. byte == 10) xs
first_or_length xs =
    let at : ℕ = position_or_len (λ byte. byte == 10) xs in elim (cases_lt at (length xs)) [
      | inl lt ↦
          let test : nat_lt at (length xs) ≡ true = grind (arith, lt) in
          ap (λ t. unwrap_or (if t then Some at else None) (length xs)) test
      | inr le ↦
          let test : nat_lt at (length xs) ≡ false = grind (arith, le) in
          ap (λ t. unwrap_or (if t then Some at else None) (length xs)) test
          ∙ omega (arith, le, prefix_len-le-length (λ byte. not (byte == 10)) xs)
    ]

pub before_within : (xs : Bytes) (n : ℕ) → n ≡ position_or_len (λ byte. byte == 10) xs → n ≤ length xs
before_within xs n e = omega (arith, e, prefix_len-le-length (λ byte. not (byte == 10)) xs)

-- The bytes before the first LF.
pub plain_before : (xs : Bytes) (n : ℕ) → n ≡ position_or_len (λ byte. byte == 10) xs → n ≤ length xs → HasNoEnd (take n xs)
plain_before xs n e low =
    plain_at n xs low (λ k lt. differs (get_or xs k 0) (fails_before_first (λ byte. byte == 10) xs k 0 (subst (λ m. k < m) e lt)))

-- What stands before the LF in two parts.
pub plain_both : (bytes : Bytes) (k m : ℕ) → HasNoEnd (take k bytes) → HasNoEnd (take m (drop k bytes)) → HasNoEnd (take (k + m) bytes)
plain_both bytes k m plain more =
    subst HasNoEnd (sym (take-add k m bytes)) (HasNoEnd-append (take k bytes) (take m (drop k bytes)) plain more)

-- The LF at the end of two parts.
pub end_of_both : (bytes : Bytes) (k m : ℕ) → m ≡ position_or_len (λ byte. byte == 10) (drop k bytes) → k + m < length bytes →
    get_or bytes (k + m) 0 ≡ 10
end_of_both bytes k m e low =
    let within : position_or_len (λ byte. byte == 10) (drop k bytes) < length (drop k bytes) = omega (arith, low, e, length-drop k bytes) in
    sym (get_or-drop k bytes m 0)
    ∙ (ap (λ i. get_or (drop k bytes) i 0) e
    ∙ is_same (get_or (drop k bytes) (position_or_len (λ byte. byte == 10) (drop k bytes)) 0) (passes_at_first (λ byte. byte == 10) (drop k bytes) 0 within))

-- How many bytes are taken with the LF where there is one.
pub past_line : (n m : ℕ) → n < m → (if nat_lt n m then n + 1 else n) ≡ n + 1
past_line n m lt = let test : nat_lt n m ≡ true = grind (arith, lt) in ap (λ t. if t then n + 1 else n) test

pub past_all : (n m : ℕ) → m ≤ n → (if nat_lt n m then n + 1 else n) ≡ n
past_all n m le = let test : nat_lt n m ≡ false = grind (arith, le) in ap (λ t. if t then n + 1 else n) test

-- A part of the bytes read ahead is taken, and the LF after it where there is one.
pub takes_part : (first remaining : Option Bytes) (ahead into into' : Bytes) (len n : ℕ) (returned ended : Bool) →
    ended ≡ nat_lt n (length ahead) → n ≤ length ahead → HasNoEnd (take n ahead) →
    (n < length ahead → get_or ahead n 0 ≡ 10) → CopiesPart into into' len n ahead →
    Gathers first (prepend_known ahead remaining) into len returned →
    Gathers first (prepend_known (line_end ended) (prepend_known (drop (if ended then n + 1 else n) ahead) remaining))
    into' (len + n) (if nat_lt 0 n then get_or ahead (n - 1) 0 == 13 else returned)
takes_part first remaining ahead into into' len n returned ended e low plain end copied h =
    gathers_part first (prepend_known ahead remaining)
    (prepend_known (line_end ended) (prepend_known (drop (if ended then n + 1 else n) ahead) remaining))
    into into' ahead len n returned h
    (consumes_part remaining ahead (take n ahead) (line_end ended) (drop (if ended then n + 1 else n) ahead) (by_test ended e))
    low plain copied
  where
    by_test : (t : Bool) → t ≡ nat_lt n (length ahead) → ahead ≡ take n ahead ++ (line_end t ++ drop (if t then n + 1 else n) ahead)
    by_test true is =
        let lt : n < length ahead = below n (length ahead) is in
        sym (take-append-drop n ahead)
        ∙ ap (λ l. take n ahead ++ l) (drop_more ahead n 0 lt ∙ ap (λ b. b ∷ drop (n + 1) ahead) (end lt))
    by_test false is = sym (take-append-drop n ahead)
