-- Bytes of a store that was written to.
use Rattle.std.proofs.Common.{◌≡◌, ◌⊎◌, inl, inr, ℕ, ◌+◌, ◌-◌, ◌≤◌, ◌<◌, true, false, ◌++◌, length, take, drop}
use Rattle.std.proofs.Common.{min, max, sym, ap, ◌∙◌, arith}
use Rattle.std.proofs.Common.{length-append, get_or, slice_index}
use Rattle.std.specs.Prelude.{nat_le, nat_lt, ◌&&◌, if◌then◌else◌, replicate}
use Rattle.std.proofs.lemmas.Bool.Decides.{nat_tests}
use Rattle.std.proofs.lemmas.List.{get_or-append_right, get_or-take, get_or-drop, get_or_past, length-take, length-drop}
use Rattle.std.proofs.lemmas.List.{get_or_append_left, get_or-replicate}
use Rattle.std.proofs.lemmas.List.{length-replicate}
use Rattle.paw_base.specs.Bytes.{Bytes}
use Rattle.paw_stage.specs.inner.Crash.{spoiled_if}
use Rattle.paw_stage.specs.Disk.{put_at}
use Rattle.paw_stage.specs.inner.Seen.{laid_over}
use Rattle.paw_stage.specs.inner.Staying.{length-put}

-- An offset lies before n offsets from p on, among them or after them.
pub where_is : (i p n : ℕ) → (i < p) ⊎ ((p ≤ i) × (i < p + n)) ⊎ (p + n ≤ i)
where_is i p n = grind arith

-- Bytes that were laid over others: before, in and after their offsets.
pub laid_before : (p : ℕ) (bytes : Bytes) (i old : ℕ) → i < p → laid_over p bytes i old ≡ old
laid_before p bytes i old h =
    let t : (nat_le p i && nat_lt i (p + length bytes)) ≡ false = grind (arith, nat_tests) in ap (λ b. if b then slice_index bytes (i - p) else old) t

pub laid_in : (p : ℕ) (bytes : Bytes) (i old : ℕ) → p ≤ i → i < p + length bytes → laid_over p bytes i old ≡ slice_index bytes (i - p)
laid_in p bytes i old h k =
    let t : (nat_le p i && nat_lt i (p + length bytes)) ≡ true = grind (arith, nat_tests) in ap (λ b. if b then slice_index bytes (i - p) else old) t

pub laid_behind : (p : ℕ) (bytes : Bytes) (i old : ℕ) → p + length bytes ≤ i → laid_over p bytes i old ≡ old
laid_behind p bytes i old h =
    let t : (nat_le p i && nat_lt i (p + length bytes)) ≡ false = grind (arith, nat_tests) in ap (λ b. if b then slice_index bytes (i - p) else old) t

-- The old bytes after the new ones stay.
behind : (at n : ℕ) (old : Bytes) (i : ℕ) → min at (length old) + n ≤ i → get_or old (at + n + (i - (min at (length old) + n))) 0 ≡ get_or old i 0
behind at n old i high =
    elim (near at (length old)) [
      | inl h ↦ (let e : at + n + (i - (min at (length old) + n)) ≡ i = omega arith in ap (λ k. get_or old k 0) e)
      | inr h ↦ (let a : length old ≤ at + n + (i - (min at (length old) + n)) = omega arith in let b : length old ≤ i =
          omega arith in get_or_past old (at + n + (i - (min at (length old) + n))) 0 a ∙ sym (get_or_past old i 0 b))
    ]
  where
    near : (a b : ℕ) → (a ≤ b) ⊎ (b ≤ a)
    near a b = grind arith

-- New bytes lie over the old ones, or right after them where the offset lies past their end.
pub index-put : (at : ℕ) (new old : Bytes) (i : ℕ) → slice_index (put_at at new old) i ≡ laid_over (min at (length old)) new i (slice_index old i)
index-put at new old i =
    let t : length (take at old) ≡ min at (length old) = length-take at old in
    let b : length (take at old ++ new) ≡ min at (length old) + length new = length-append (take at old) new ∙ ap (λ k. k + length new) t in
    elim (where_is i (min at (length old)) (length new)) [
      | inl low ↦
          get_or_append_left (take at old ++ new) (drop (at + length new) old) 0 i (omega (arith, b))
          ∙ (get_or_append_left (take at old) new 0 i (omega (arith, t))
          ∙ (get_or-take at old i 0 (omega arith)
          ∙ sym (laid_before (min at (length old)) new i (slice_index old i) low)))
      | inr (inl mid) ↦
          get_or_append_left (take at old ++ new) (drop (at + length new) old) 0 i (omega (arith, b, mid.1))
          ∙ (get_or-append_right (take at old) new (min at (length old)) i 0 t mid.0
          ∙ sym (laid_in (min at (length old)) new i (slice_index old i) mid.0 mid.1))
      | inr (inr high) ↦
          get_or-append_right (take at old ++ new) (drop (at + length new) old) (min at (length old) + length new) i 0 b high
          ∙ (get_or-drop (at + length new) old (i - (min at (length old) + length new)) 0
          ∙ (behind at (length new) old i high
          ∙ sym (laid_behind (min at (length old)) new i (slice_index old i) high)))
    ]

-- Bytes laid over those that stand from another offset on.
pub lays : (offset at from to : ℕ) (bytes into new : Bytes) (j : ℕ) → from ≡ min (at - offset) (length bytes) →
    to ≡ min (offset - at) (length into) → new ≡ put_at to (take (length into - to) (drop from bytes)) into →
    j < length into → slice_index new j ≡ laid_over offset bytes (at + j) (slice_index into j)
lays offset at from to bytes into new j ef et e low =
    let part : Bytes = take (length into - to) (drop from bytes) in
    let n : length part ≡ min (length into - to) (length bytes - from) =
    omega (arith, length-take (length into - to) (drop from bytes), length-drop from bytes) in
    let m : min to (length into) ≡ to = omega arith in
    ap (λ l. slice_index l j) e ∙ (index-put to part into j
    ∙ (ap (λ k. laid_over k part j (slice_index into j)) m ∙ elim (where_is (at + j) offset (length bytes)) [
      | inl h ↦
          laid_before to part j (slice_index into j) (omega (arith, n)) ∙ sym (laid_before offset bytes (at + j) (slice_index into j) h)
      | inr (inl h) ↦
          laid_in to part j (slice_index into j) (omega (arith, h.0)) (omega (arith, n, h.0, h.1))
          ∙ (get_or-take (length into - to) (drop from bytes) (j - to) 0 (omega (arith, h.0))
          ∙ (get_or-drop from bytes (j - to) 0
          ∙ ((let k : from + (j - to) ≡ at + j - offset = omega (arith, h.0, h.1) in ap (slice_index bytes) k)
          ∙ sym (laid_in offset bytes (at + j) (slice_index into j) h.0 h.1))))
      | inr (inr h) ↦
          laid_behind to part j (slice_index into j) (omega (arith, n)) ∙ sym (laid_behind offset bytes (at + j) (slice_index into j) h)
    ]))

-- Another value laid over n bytes, as far as they go.
pub spoils : (offset p n : ℕ) (store new : Bytes) (j : ℕ) → p ≡ min offset (length store) →
    new ≡ put_at p (replicate (min n (length store - p)) 255) store → j < length store →
    slice_index new j ≡ spoiled_if (nat_le offset j && nat_lt j (offset + n)) (slice_index store j)
spoils offset p n store new j ep e low =
    let m : ℕ = min n (length store - p) in
    let gone : Bytes = replicate m 255 in
    let size : length gone ≡ m = length-replicate m 255 in
    let is : min p (length store) ≡ p = omega arith in
    ap (λ l. slice_index l j) e ∙ (index-put p gone store j ∙ (ap (λ k. laid_over k gone j (slice_index store j)) is ∙ elim (where_is j offset n) [
      | inl h ↦
          (let t : (nat_le offset j && nat_lt j (offset + n)) ≡ false = grind (arith, nat_tests) in
          laid_before p gone j (slice_index store j) (omega arith) ∙ ap (λ b. spoiled_if b (slice_index store j)) (sym t))
      | inr (inl h) ↦
          (let above : offset ≤ j = h.0 in
          let below : j < offset + n = h.1 in
          let t : (nat_le offset j && nat_lt j (offset + n)) ≡ true = grind (arith, nat_tests) in
          laid_in p gone j (slice_index store j) (omega arith) (omega (arith, size))
          ∙ (get_or-replicate m (j - p) 255 0 (omega arith) ∙ ap (λ b. spoiled_if b (slice_index store j)) (sym t)))
      | inr (inr h) ↦
          (let t : (nat_le offset j && nat_lt j (offset + n)) ≡ false = grind (arith, nat_tests) in
          laid_behind p gone j (slice_index store j) (omega (arith, size)) ∙ ap (λ b. spoiled_if b (slice_index store j)) (sym t))
    ]))
