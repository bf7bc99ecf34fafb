-- Ranges of bytes, one after the other.
use Rattle.std.proofs.Common.{◌≡◌, ℕ, zero, suc, ◌+◌, ◌-◌, ◌<◌, ◌≤◌, [], ◌∷◌, ◌++◌, length, take, drop}
use Rattle.std.proofs.Common.{get_or, sym, ap, ◌∙◌, add-zero, lit<, arith}
use Rattle.std.specs.Prelude.{slice_index, slice_range}
use Rattle.std.proofs.Math.Seq.{take-add, drop-cons}
use Rattle.std.proofs.lemmas.List.{drop-drop, drop_at, take_at, get_or-drop, length-take, length-drop}
use Rattle.std.proofs.lemmas.List.Elements.{All-take}
use Rattle.paw_base.specs.Bytes.{Bytes}
use Rattle.paw_state.specs.State.{AreBytes}

-- ---- what stands at an offset of bytes ----

-- The range that these bytes fill.
pub range_is : (bytes x q : Bytes) (at n : ℕ) → drop at bytes ≡ x ++ q → length x ≡ n → slice_range bytes at (at + n) ≡ x
range_is bytes x q at n h k =
    let m : at + n - at ≡ n = omega arith in
    rw m (ap (take n) h ∙ take_at x q n k)

-- What follows them.
pub behind : (bytes x q : Bytes) (at n : ℕ) → drop at bytes ≡ x ++ q → length x ≡ n → drop (at + n) bytes ≡ q
behind bytes x q at n h k = sym (drop-drop n at bytes) ∙ (ap (drop n) h ∙ drop_at x q n k)

-- One byte.
pub byte_is : (bytes q : Bytes) (at b : ℕ) → drop at bytes ≡ b ∷ q → slice_index bytes at ≡ b
byte_is bytes q at b h =
    ap (λ (i : ℕ). get_or bytes i 0) (sym (add-zero at)) ∙ (sym (get_or-drop at bytes 0 0) ∙ ap (λ (l : Bytes). get_or l 0 0) h)

-- ---- ranges ----

-- Two ranges one after the other.
pub range_join : (bytes : Bytes) (a b c : ℕ) → a ≤ b → b ≤ c → slice_range bytes a b ++ slice_range bytes b c ≡ slice_range bytes a c
range_join bytes a b c low high =
    let n : b - a + (c - b) ≡ c - a = omega arith in
    let m : a + (b - a) ≡ b = omega arith in
    let e : take (b - a + (c - b)) (drop a bytes)
    ≡ slice_range bytes a b ++ take (c - b) (drop (b - a) (drop a bytes)) = take-add (b - a) (c - b) (drop a bytes) in
    let f : drop (b - a) (drop a bytes) ≡ drop b bytes = drop-drop (b - a) a bytes ∙ ap (λ (i : ℕ). drop i bytes) m in
    sym (ap (λ (l : Bytes). slice_range bytes a b ++ take (c - b) l) f) ∙ (sym e ∙ ap (λ (i : ℕ). take i (drop a bytes)) n)

-- One byte as a range.
pub byte_range : (bytes : Bytes) (at : ℕ) → at < length bytes → slice_index bytes at ∷ [] ≡ slice_range bytes at (at + 1)
byte_range bytes at h =
    let n : at + 1 - at ≡ 1 = omega arith in
    let e : drop at bytes ≡ get_or bytes at 0 ∷ drop (suc at) bytes = drop-cons bytes at 0 h in
    sym (ap (λ (i : ℕ). take i (drop at bytes)) n ∙ ap (take 1) e)

-- A range that lies inside has its length.
pub length_range : (bytes : Bytes) (a b : ℕ) → a ≤ b → b ≤ length bytes → length (slice_range bytes a b) ≡ b - a
length_range bytes a b low high = omega (arith, length-take (b - a) (drop a bytes), length-drop a bytes)

-- ---- bytes ----

pub drop_bytes : (n : ℕ) (bytes : Bytes) → AreBytes bytes → AreBytes (drop n bytes)
drop_bytes n bytes h = λ i d low.
    let k : n + i < length bytes = omega (arith, length-drop n bytes) in
    rw (get_or-drop n bytes i d) (h (n + i) d k)

pub range_bytes : (bytes : Bytes) (a b : ℕ) → AreBytes bytes → AreBytes (slice_range bytes a b)
range_bytes bytes a b h = All-take (λ (x : ℕ). x < 256) (b - a) (drop a bytes) (drop_bytes a bytes h)

-- Each byte, and 0 past the end.
pub each_byte : (bytes : Bytes) → AreBytes bytes → (i : ℕ) → get_or bytes i 0 < 256
each_byte [] h i = lit< tt
each_byte (b ∷ bs) h zero = h 0 0 (omega arith)
each_byte (b ∷ bs) h (suc i) = each_byte bs (λ j d low. h (suc j) d (omega (arith, low))) i

pub bytes_each : (bytes : Bytes) → ((i : ℕ) → get_or bytes i 0 < 256) → AreBytes bytes
bytes_each [] h k d low = absurd (omega (arith, low))
bytes_each (b ∷ bs) h zero d low = h 0
bytes_each (b ∷ bs) h (suc k) d low = bytes_each bs (λ i. h (suc i)) k d (omega (arith, low))
