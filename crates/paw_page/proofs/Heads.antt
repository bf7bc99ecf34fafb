-- Bytes begin in one way at most.
use Rattle.std.proofs.Common.{◌≡◌, ◌≢◌, ℕ, zero, suc, ◌+◌, ◌<◌, ◌≤◌, List, [], ◌∷◌, ◌++◌, length, take, drop}
use Rattle.std.proofs.lemmas.List.{append-nil}
use Rattle.std.proofs.Common.{refl, sym, ap, ◌∙◌, subst, arith, append_assoc, length-append}
use Rattle.std.specs.Prelude.{◌^◌}
use Rattle.std.specs.List.{All, flat_map}
use Rattle.std.specs.Int.{w32, to_le_bytes, from_le_bytes}
use Rattle.std.proofs.lemmas.Nat.{from_le_bytes-to_le_bytes_4}
use Rattle.std.proofs.lemmas.List.{append_cancel_left}
use Rattle.std.proofs.lemmas.List.Elements.{All-append, All-cons, All-head, All-nil, All-tail}
use Rattle.std.proofs.lemmas.Grind.{flat_map-append}
use Rattle.std.proofs.Math.Seq.{take-append_seam, drop-append_seam}
use Rattle.paw_base.specs.Bytes.{Bytes, Name}
use Rattle.paw_page.specs.Request.{PageRequest, IsRequest}
use Rattle.paw_page.specs.Request.{number_bytes, part_bytes, entry_bytes, list_bytes, IsNumber, IsPart, IsTextPart, IsEntry, IsListed}
use Rattle.paw_page.specs.inner.Heads.{HasAtHead, HasNoneAtHead, IsReadSoFar}

-- What has these bytes is known by them, whatever follows.
abbrev pub IsKnown : {A : Type 0} → (A → Bytes) → (A → Type 0) → Type 0
IsKnown {A = A} bytes_of Is = (x y : A) (p q : Bytes) → Is x → Is y → bytes_of x ++ p ≡ bytes_of y ++ q → (x ≡ y) × (p ≡ q)

-- Two lists of the same length, each with more after it, are the same.
pub halves : {A : Type 0} → (xs ys ps qs : List A) → length xs ≡ length ys → xs ++ ps ≡ ys ++ qs → (xs ≡ ys) × (ps ≡ qs)
halves xs ys ps qs long same =
    let first : xs ≡ ys = sym (take-append_seam xs ps) ∙ (ap (take (length xs)) same ∙ (ap (λ n. take n (ys ++ qs)) long ∙ take-append_seam ys qs)) in
    let second : ps ≡ qs = sym (drop-append_seam xs ps) ∙ (ap (drop (length xs)) same ∙ (ap (λ n. drop n (ys ++ qs)) long ∙ drop-append_seam ys qs)) in
    (first, second)

pub numbers_known : IsKnown number_bytes IsNumber
numbers_known n m p q low below same =
    let both = halves (number_bytes n) (number_bytes m) p q refl same in
    (sym (from_le_bytes-to_le_bytes_4 n low) ∙ (ap (from_le_bytes w32) both.0 ∙ from_le_bytes-to_le_bytes_4 m below), both.1)

pub parts_known : IsKnown part_bytes IsPart
parts_known x y p q low below same =
    let apart = sym (append_assoc (number_bytes (length x)) x p) ∙ (same ∙ append_assoc (number_bytes (length y)) y q) in
    let counts = numbers_known (length x) (length y) (x ++ p) (y ++ q) low below apart in
    halves x y p q counts.0 counts.1

pub texts_known : IsKnown part_bytes IsTextPart
texts_known x y p q low below same = parts_known x y p q low.0 below.0 same

pub entries_known : IsKnown entry_bytes IsEntry
entries_known x y p q low below same =
    let apart = sym (append_assoc (part_bytes x.0) (part_bytes x.1) p) ∙ (same ∙ append_assoc (part_bytes y.0) (part_bytes y.1) q) in
    let names = texts_known x.0 y.0 (part_bytes x.1 ++ p) (part_bytes y.1 ++ q) low.0 below.0 apart in
    let parts = parts_known x.1 y.1 p q low.1 below.1 names.1 in
    let one : x ≡ y = ap (λ n. (n, x.1)) names.0 ∙ ap (λ n. (y.0, n)) parts.0 in
    (one, parts.1)

-- Of lists of the same number.
pub rows_known : {A : Type 0} (f : A → Bytes) (Is : A → Type 0) → IsKnown f Is →
    (xs ys : List A) (p q : Bytes) → length xs ≡ length ys → All Is xs → All Is ys →
    flat_map f xs ++ p ≡ flat_map f ys ++ q → (xs ≡ ys) × (p ≡ q)
rows_known f Is known [] [] p q long a b same = (refl, same)
rows_known f Is known [] (y ∷ ys) p q long a b same = absurd (omega (arith, long))
rows_known f Is known (x ∷ xs) [] p q long a b same = absurd (omega (arith, long))
rows_known f Is known (x ∷ xs) (y ∷ ys) p q long a b same =
    let apart = sym (append_assoc (f x) (flat_map f xs) p) ∙ (same ∙ append_assoc (f y) (flat_map f ys) q) in
    let one = known x y (flat_map f xs ++ p) (flat_map f ys ++ q) (All-head Is x xs a) (All-head Is y ys b) apart in
    let others = rows_known f Is known xs ys p q (omega (arith, long)) (All-tail Is x xs a) (All-tail Is y ys b) one.1 in
    (ap (λ z. z ∷ xs) one.0 ∙ ap (λ zs. y ∷ zs) others.0, others.1)

pub lists_known : {A : Type 0} (f : A → Bytes) (Is : A → Type 0) → IsKnown f Is → IsKnown (list_bytes f) (IsListed Is)
lists_known f Is known xs ys p q low below same =
    let apart = sym (append_assoc (number_bytes (length xs)) (flat_map f xs) p)
    ∙ (same ∙ append_assoc (number_bytes (length ys)) (flat_map f ys) q) in
    let counts = numbers_known (length xs) (length ys) (flat_map f xs ++ p) (flat_map f ys ++ q) low.0 below.0 apart in
    rows_known f Is known xs ys p q counts.0 low.1 below.1 counts.1

-- ---- reading one after another ----

pub none_read : {A : Type 0} (f : A → Bytes) (Is : A → Type 0) (bytes : Bytes) → IsReadSoFar f Is bytes 0 [] bytes
none_read f Is bytes = record { same = refl; count = refl; each = All-nil Is }

pub read_one : {A : Type 0} (f : A → Bytes) (Is : A → Type 0) (bytes : Bytes) (n : ℕ) (xs : List A) (rest : Bytes) (x : A) (after : Bytes) →
    IsReadSoFar f Is bytes n xs rest → HasAtHead f Is rest x after → IsReadSoFar f Is bytes (n + 1) (xs ++ x ∷ []) after
read_one f Is bytes n xs rest x after h b = record {
  same = h.same ∙ (ap (λ l. flat_map f xs ++ l) b.0 ∙ (sym (append_assoc (flat_map f xs) (f x) after)
      ∙ ap (λ l. l ++ after) (sym (flat_map_push f xs x))));
  count = omega (arith, length-append xs (x ∷ []), h.count);
  each = All-append Is xs (x ∷ []) h.each (All-cons Is x [] b.1 (All-nil Is));
}
  where
    flat_map_push : {A : Type 0} (f : A → Bytes) (xs : List A) (x : A) → flat_map f (xs ++ x ∷ []) ≡ flat_map f xs ++ f x
    flat_map_push f xs x = flat_map-append f xs (x ∷ []) ∙ ap (λ l. flat_map f xs ++ l) (append-nil (f x))

pub all_read : {A : Type 0} (f : A → Bytes) (Is : A → Type 0) (bytes : Bytes) (n : ℕ) (body : Bytes) (xs : List A) (rest : Bytes) →
    bytes ≡ number_bytes n ++ body → IsNumber n → IsReadSoFar f Is body n xs rest → HasAtHead (list_bytes f) (IsListed Is) bytes xs rest
all_read f Is bytes n body xs rest is small h =
    let counted : number_bytes n ≡ number_bytes (length xs) = ap number_bytes (sym h.count) in (
      is ∙ (ap (λ l. number_bytes n ++ l) h.same ∙ (ap (λ l. l ++ (flat_map f xs ++ rest)) counted
          ∙ sym (append_assoc (number_bytes (length xs)) (flat_map f xs) rest))),
      (subst (λ k. IsNumber k) (sym h.count) small, h.each),
    )

-- Where rows were read and the next one isn't there, no longer list of rows is.
further : {A : Type 0} (f : A → Bytes) (Is : A → Type 0) → IsKnown f Is → (xs ys : List A) (rest q : Bytes) →
    length xs < length ys → All Is xs → All Is ys → flat_map f xs ++ rest ≡ flat_map f ys ++ q → HasNoneAtHead f Is rest → ⊥
further f Is known xs [] rest q low a b same none = absurd (omega (arith, low))
further f Is known [] (y ∷ ys) rest q low a b same none =
    none y (flat_map f ys ++ q) (All-head Is y ys b) (same ∙ append_assoc (f y) (flat_map f ys) q)
further f Is known (x ∷ xs) (y ∷ ys) rest q low a b same none =
    let apart = sym (append_assoc (f x) (flat_map f xs) rest) ∙ (same ∙ append_assoc (f y) (flat_map f ys) q) in
    let one = known x y (flat_map f xs ++ rest) (flat_map f ys ++ q) (All-head Is x xs a) (All-head Is y ys b) apart in
    further f Is known xs ys rest q (omega (arith, low)) (All-tail Is x xs a) (All-tail Is y ys b) one.1 none

-- Where the next one isn't there, the whole list isn't.
pub not_read : {A : Type 0} (f : A → Bytes) (Is : A → Type 0) → IsKnown f Is → (bytes : Bytes) (n i : ℕ) (body : Bytes)
    (xs : List A) (rest : Bytes) → bytes ≡ number_bytes n ++ body → IsNumber n → i < n → IsReadSoFar f Is body i xs rest →
    HasNoneAtHead f Is rest → HasNoneAtHead (list_bytes f) (IsListed Is) bytes
not_read f Is known bytes n i body xs rest is small low h none ys q listed same =
    let apart = sym is ∙ (same ∙ append_assoc (number_bytes (length ys)) (flat_map f ys) q) in
    let counts = numbers_known n (length ys) body (flat_map f ys ++ q) small listed.0 apart in
    further f Is known xs ys rest q (omega (arith, counts.0, h.count, low)) h.each listed.1 (sym h.same ∙ counts.1) none

-- Where there is no number, there is no list.
pub not_counted : {A : Type 0} (f : A → Bytes) (Is : A → Type 0) (bytes : Bytes) → length bytes < 4 →
    HasNoneAtHead (list_bytes f) (IsListed Is) bytes
not_counted f Is bytes short ys q listed same =
    let a = ap length same in
    let b = length-append (list_bytes f ys) q in
    let c = length-append (number_bytes (length ys)) (flat_map f ys) in
    let four : length (number_bytes (length ys)) ≡ 4 = refl in
    absurd (omega (arith, a, b, c, four, short))

-- Where a text is there and no part after it, there is no file.
pub no_entry : (bytes name after : Bytes) → HasAtHead part_bytes IsTextPart bytes name after → HasNoneAtHead part_bytes IsPart after →
    HasNoneAtHead entry_bytes IsEntry bytes
no_entry bytes name after b none x q is same =
    let apart = sym b.0 ∙ (same ∙ append_assoc (part_bytes x.0) (part_bytes x.1) q) in
    let names = texts_known name x.0 after (part_bytes x.1 ++ q) b.1 is.0 apart in
    none x.1 q is.1 names.1

-- ---- a whole request ----

words_known : IsKnown (list_bytes part_bytes) (IsListed IsTextPart)
words_known = lists_known part_bytes IsTextPart texts_known

files_known : IsKnown (list_bytes entry_bytes) (IsListed IsEntry)
files_known = lists_known entry_bytes IsEntry entries_known

lines_known : IsKnown (list_bytes part_bytes) (IsListed IsPart)
lines_known = lists_known part_bytes IsPart parts_known

-- What stands after the words of a request, where these were read.
behind_words : (bytes : Bytes) (words : List Bytes) (rest : Bytes) (r : PageRequest) →
    HasAtHead (list_bytes part_bytes) (IsListed IsTextPart) bytes words rest → IsRequest r bytes →
    rest ≡ list_bytes entry_bytes r.files ++ list_bytes part_bytes r.lines
behind_words bytes words rest r b is =
    (words_known words r.words rest (list_bytes entry_bytes r.files ++ list_bytes part_bytes r.lines) b.1 is.words (sym b.0 ∙ is.same)).1

behind_files : (bytes : Bytes) (words : List Bytes) (rest : Bytes) (files : List (Name × Bytes)) (after : Bytes) (r : PageRequest) →
    HasAtHead (list_bytes part_bytes) (IsListed IsTextPart) bytes words rest →
    HasAtHead (list_bytes entry_bytes) (IsListed IsEntry) rest files after → IsRequest r bytes → after ≡ list_bytes part_bytes r.lines
behind_files bytes words rest files after r b d is =
    (files_known files r.files after (list_bytes part_bytes r.lines) d.1 is.files (sym d.0 ∙ behind_words bytes words rest r b is)).1

pub no_files : (bytes : Bytes) (words : List Bytes) (rest : Bytes) (r : PageRequest) →
    HasAtHead (list_bytes part_bytes) (IsListed IsTextPart) bytes words rest → HasNoneAtHead (list_bytes entry_bytes) (IsListed IsEntry) rest →
    IsRequest r bytes → ⊥
no_files bytes words rest r b none is = none r.files (list_bytes part_bytes r.lines) is.files (behind_words bytes words rest r b is)

pub no_lines : (bytes : Bytes) (words : List Bytes) (rest : Bytes) (files : List (Name × Bytes)) (after : Bytes) (r : PageRequest) →
    HasAtHead (list_bytes part_bytes) (IsListed IsTextPart) bytes words rest →
    HasAtHead (list_bytes entry_bytes) (IsListed IsEntry) rest files after →
    HasNoneAtHead (list_bytes part_bytes) (IsListed IsPart) after → IsRequest r bytes → ⊥
no_lines bytes words rest files after r b d none is =
    none r.lines [] is.lines (behind_files bytes words rest files after r b d is ∙ sym (append-nil (list_bytes part_bytes r.lines)))

pub more_left : (bytes : Bytes) (words : List Bytes) (rest : Bytes) (files : List (Name × Bytes)) (after : Bytes) (lines : List Bytes)
    (left : Bytes) (r : PageRequest) →
    HasAtHead (list_bytes part_bytes) (IsListed IsTextPart) bytes words rest →
    HasAtHead (list_bytes entry_bytes) (IsListed IsEntry) rest files after →
    HasAtHead (list_bytes part_bytes) (IsListed IsPart) after lines left → 0 < length left → IsRequest r bytes → ⊥
more_left bytes words rest files after lines left r b d e some is =
    let none : left ≡ [] = (lines_known lines r.lines left [] e.1 is.lines (sym e.0
    ∙ (behind_files bytes words rest files after r b d is ∙ sym (append-nil (list_bytes part_bytes r.lines))))).1 in
    let long = ap length none in
    omega (arith, long, some)
