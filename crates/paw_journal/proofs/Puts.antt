-- Stretches of bytes that were written to.
use Rattle.std.proofs.Common.{◌≡◌, ℕ, ◌+◌, ◌-◌, ◌≤◌, ◌<◌, ◌++◌, length, take, drop, sym, ap, ◌∙◌, arith, get_or}
use Rattle.std.proofs.Common.{inl, inr, ◌⊎◌}
use Rattle.std.proofs.lemmas.List.{get_or-drop, get_or_append_left, ext_get_or, take_at, drop-drop}
use Rattle.std.proofs.Math.Seq.{take-add}
use Rattle.paw_base.specs.Bytes.{Bytes}
use Rattle.paw_base.specs.declared.limits.TheConstants.{PIECE_LIMIT}
use Rattle.paw_stage.specs.Disk.{put_at}
use Rattle.paw_journal.specs.Session.{stretch, slot_head, slot_rewritten}
use Rattle.paw_journal.specs.declared.layout.TheConstants.{PIECE_AT}
use Rattle.paw_journal.specs.Session.{slot_length}
use Rattle.paw_journal.proofs.Parts.{stretch_at, length_stretch, stretch_same, length_put, put_below, put_above}
use Rattle.paw_journal.proofs.Parts.{drop_put}

pub stretch_long : (at n : ℕ) (bytes : Bytes) → at + n ≤ length bytes → length (stretch at n bytes) ≡ n
stretch_long at n bytes low = omega (arith, length_stretch at n bytes)

pub put_long : (at : ℕ) (new old : Bytes) → at + length new ≤ length old → length (put_at at new old) ≡ length old
put_long at new old low = omega (arith, length_put at new old (omega arith))

-- A write leaves the stretches above it and below it.
pub stretch_past : (s n at : ℕ) (new old : Bytes) → at + length new ≤ s → at + length new ≤ length old → stretch s n (put_at at new old) ≡ stretch s n old
stretch_past s n at new old low long = stretch_same s n (put_at at new old) old (put_long at new old long)
    (λ i l h. put_above at new old i (omega arith) (omega arith))

pub stretch_before : (s n at : ℕ) (new old : Bytes) → s + n ≤ at → at + length new ≤ length old → stretch s n (put_at at new old) ≡ stretch s n old
stretch_before s n at new old low long =
    stretch_same s n (put_at at new old) old (put_long at new old long)
    (λ i l h. put_below at new old i (omega arith) (omega arith))

-- And what was written stands there.
pub stretch_written : (at : ℕ) (new old : Bytes) → at ≤ length old → stretch at (length new) (put_at at new old) ≡ new
stretch_written at new old low = ap (take (length new)) (drop_put at new old low) ∙ take_at new (drop (at + length new) old) (length new) refl_length
  where
    refl_length : length new ≡ length new
    refl_length = omega arith

-- Bytes that are written at an offset stand after what stood before it.
pub stretch_behind : (s m at : ℕ) (new old : Bytes) → at ≡ s + m → at + length new ≤ length old →
    stretch s (m + length new) (put_at at new old) ≡ stretch s m old ++ new
stretch_behind s m at new old e long =
    take-add m (length new) (drop s (put_at at new old))
    ∙ (ap (λ l. l ++ take (length new) (drop m (drop s (put_at at new old)))) (stretch_before s m at new old (omega arith) long)
    ∙ ap (λ l. stretch s m old ++ l) (ap (take (length new)) (drop-drop m s (put_at at new old))
    ∙ (ap (λ k. take (length new) (drop k (put_at at new old))) (sym e) ∙ stretch_written at new old (omega arith))))

pub put_inside : (at : ℕ) (new old : Bytes) (j : ℕ) → at ≤ length old → j < length new → get_or (put_at at new old) (at + j) 0 ≡ get_or new j 0
put_inside at new old j low h =
    sym (get_or-drop at (put_at at new old) j 0)
    ∙ (ap (λ l. get_or l j 0) (drop_put at new old low) ∙ get_or_append_left new (drop (at + length new) old) 0 j h)

-- A write inside a stretch.
pub stretch_put : (s n a : ℕ) (new whole : Bytes) → a + length new ≤ n → s + n ≤ length whole →
    stretch s n (put_at (s + a) new whole) ≡ put_at a new (stretch s n whole)
stretch_put s n a new whole fits long =
    let l : length (stretch s n whole) ≡ n = stretch_long s n whole long in
    let p : length (put_at (s + a) new whole) ≡ length whole = put_long (s + a) new whole (omega arith) in
    let q : length (put_at a new (stretch s n whole)) ≡ n = put_long a new (stretch s n whole) (omega arith) ∙ l in
    let k : length (stretch s n (put_at (s + a) new whole)) ≡ n = stretch_long s n (put_at (s + a) new whole) (omega arith) in
    ext_get_or 0 _ _ (k ∙ sym q) (λ i low. let m : i < n = omega (arith, low, k) in
    stretch_at s n (put_at (s + a) new whole) i m ∙ each s n a new whole i fits long l m)
  where
    order : (i a l : ℕ) → (i < a) ⊎ ((a + l ≤ i) ⊎ ((a ≤ i) × (i < a + l)))
    order i a l = grind arith

    each : (s n a : ℕ) (new whole : Bytes) (i : ℕ) → a + length new ≤ n → s + n ≤ length whole →
        length (stretch s n whole) ≡ n → i < n →
        get_or (put_at (s + a) new whole) (s + i) 0 ≡ get_or (put_at a new (stretch s n whole)) i 0
    each s n a new whole i fits long l m = elim (order i a (length new)) [
      | inl h ↦ put_below (s + a) new whole (s + i) (omega arith) (omega arith)
          ∙ sym (put_below a new (stretch s n whole) i (omega arith) h ∙ stretch_at s n whole i m)
      | inr (inl h) ↦ put_above (s + a) new whole (s + i) (omega arith) (omega arith)
          ∙ sym (put_above a new (stretch s n whole) i (omega arith) h ∙ stretch_at s n whole i m)
      | inr (inr h) ↦
          let e : s + i ≡ s + a + (i - a) = omega arith in
          let f : i ≡ a + (i - a) = omega arith in
          ap (λ k. get_or (put_at (s + a) new whole) k 0) e
          ∙ (put_inside (s + a) new whole (i - a) (omega arith) (omega arith)
          ∙ sym (ap (λ k. get_or (put_at a new (stretch s n whole)) k 0) f ∙ put_inside a new (stretch s n whole) (i - a) (omega arith) (omega arith)))
    ]

-- A write of no bytes.
pub put_nothing : (at : ℕ) (new old : Bytes) → length new ≡ 0 → at ≤ length old → old ≡ put_at at new old
put_nothing at new old none low = ext_get_or 0 old (put_at at new old) (sym (put_long at new old (omega arith))) (λ i l. sym (each at new old i none low))
  where
    order : (i a : ℕ) → (i < a) ⊎ (a ≤ i)
    order i a = grind arith

    each : (at : ℕ) (new old : Bytes) (i : ℕ) → length new ≡ 0 → at ≤ length old → get_or (put_at at new old) i 0 ≡ get_or old i 0
    each at new old i none low = elim (order i at) [ inl h ↦ put_below at new old i low h | inr h ↦ put_above at new old i low (omega arith) ]

-- A slot that was written is as long as it was.
pub rewritten_long : (at records : ℕ) (new piece bytes : Bytes) → at + length new ≤ slot_length →
    length piece ≤ PIECE_LIMIT →
    length bytes ≡ slot_length → length (slot_rewritten at new records piece bytes) ≡ slot_length
rewritten_long at records new piece bytes fits short long =
    let one : length (put_at at new bytes) ≡ slot_length = put_long at new bytes (omega arith) ∙ long in
    let two : length (put_at PIECE_AT piece (put_at at new bytes)) ≡ slot_length =
    put_long PIECE_AT piece (put_at at new bytes) (omega (arith, one)) ∙ one in
    put_long 0 (slot_head records) (put_at PIECE_AT piece (put_at at new bytes)) (omega (arith, two)) ∙ two

-- Bytes of which only a stretch isn't as it was were written there.
pub put_between : (at n : ℕ) (new old now : Bytes) → length new ≡ n → at + n ≤ length old → length now ≡ length old →
    ((i : ℕ) → (i < at) ⊎ (at + n ≤ i) → get_or now i 0 ≡ get_or old i 0) → stretch at n now ≡ new → now ≡ put_at at new old
put_between at n new old now l fits long same e =
    ext_get_or 0 now (put_at at new old) (long ∙ sym (put_long at new old (omega arith))) (λ i low. each i (order i))
  where
    order : (i : ℕ) → (i < at) ⊎ ((at + n ≤ i) ⊎ ((at ≤ i) × (i < at + n)))
    order i = grind arith

    each : (i : ℕ) → (i < at) ⊎ ((at + n ≤ i) ⊎ ((at ≤ i) × (i < at + n))) → get_or now i 0 ≡ get_or (put_at at new old) i 0
    each i (inl h) = same i (inl h) ∙ sym (put_below at new old i (omega arith) h)
    each i (inr (inl h)) = same i (inr h) ∙ sym (put_above at new old i (omega arith) (omega arith))
    each i (inr (inr h)) =
        let f : at + (i - at) ≡ i = omega arith in
        ap (λ k. get_or now k 0) (sym f)
        ∙ (sym (stretch_at at n now (i - at) (omega arith))
        ∙ (ap (λ b. get_or b (i - at) 0) e
        ∙ (sym (put_inside at new old (i - at) (omega arith) (omega arith)) ∙ ap (λ k. get_or (put_at at new old) k 0) f)))
