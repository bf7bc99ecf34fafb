-- Stretches of lists of bytes.
use Rattle.std.proofs.Common.{◌≡◌, ℕ, ◌+◌, ◌-◌, ◌≤◌, ◌<◌, min, [], ◌∷◌, ◌++◌, length, take, drop, sym, ap, ◌∙◌}
use Rattle.std.proofs.Common.{arith, get_or, append_assoc}
use Rattle.std.proofs.lemmas.List.{length-take, length-drop, length-append, get_or-take, get_or-drop}
use Rattle.std.proofs.lemmas.List.{get_or_append_left, get_or-append_right, ext_get_or}
use Rattle.std.proofs.lemmas.List.{drop_all, take_all, append-nil, drop_at, get_or_at, drop-take, take-take, drop-drop}
use Rattle.paw_base.specs.Bytes.{Bytes}
use Rattle.paw_stage.specs.Disk.{put_at}
use Rattle.paw_journal.specs.Session.{stretch}

-- The bytes of a stretch.
pub stretch_at : (at n : ℕ) (bytes : Bytes) (i : ℕ) → i < n → get_or (stretch at n bytes) i 0 ≡ get_or bytes (at + i) 0
stretch_at at n bytes i low = get_or-take n (drop at bytes) i 0 low ∙ get_or-drop at bytes i 0

pub length_stretch : (at n : ℕ) (bytes : Bytes) → length (stretch at n bytes) ≡ min n (length bytes - at)
length_stretch at n bytes = length-take n (drop at bytes) ∙ ap (λ k. min n k) (length-drop at bytes)

-- A stretch is the same where its bytes are.
pub stretch_same : (at n : ℕ) (a b : Bytes) → length a ≡ length b →
    ((i : ℕ) → at ≤ i → i < at + n → get_or a i 0 ≡ get_or b i 0) → stretch at n a ≡ stretch at n b
stretch_same at n a b long same =
    ext_get_or 0 _ _ (length_stretch at n a ∙ (ap (λ k. min n (k - at)) long ∙ sym (length_stretch at n b)))
    (λ i low. let l : i < n = omega (arith, low, length_stretch at n a) in
    stretch_at at n a i l ∙ (same (at + i) (omega arith) (omega arith) ∙ sym (stretch_at at n b i l)))

pub length_put : (at : ℕ) (new old : Bytes) → at ≤ length old → length (put_at at new old) ≡ at + length new + (length old - (at + length new))
length_put at new old low = omega (
  arith,
  length-append (take at old ++ new) (drop (at + length new) old),
  length-append
      (take at old) new,
  length-take at old,
  length-drop (at + length new) old,
)

-- A write leaves the bytes below it.
pub put_below : (at : ℕ) (new old : Bytes) (i : ℕ) → at ≤ length old → i < at → get_or (put_at at new old) i 0 ≡ get_or old i 0
put_below at new old i low h =
    let t : i < length (take at old) = omega (arith, length-take at old) in
    ap (λ l. get_or l i 0) (append_assoc (take at old) new (drop (at + length new) old))
    ∙ (get_or_append_left (take at old) (new ++ drop (at + length new) old) 0 i t
    ∙ get_or-take at old i 0 h)

-- And those above it.
pub put_above : (at : ℕ) (new old : Bytes) (i : ℕ) → at ≤ length old → at + length new ≤ i → get_or (put_at at new old) i 0 ≡ get_or old i 0
put_above at new old i low h =
    let n : length (take at old ++ new) ≡ at + length new = omega (arith, length-append (take at old) new, length-take at old) in
    let e : at + length new + (i - (at + length new)) ≡ i = omega arith in
    get_or-append_right (take at old ++ new) (drop (at + length new) old) (at + length new) i 0 n h
    ∙ (get_or-drop (at + length new) old (i - (at + length new)) 0 ∙ ap (λ k. get_or old k 0) e)

-- A write at the end of the store.
pub put_end : (at : ℕ) (new old : Bytes) → length old ≡ at → put_at at new old ≡ old ++ new
put_end at new old h =
    ap (λ l. (take at old ++ new) ++ l) (drop_all (at + length new) old (omega arith))
    ∙ (append-nil (take at old ++ new) ∙ ap (λ l. l ++ new) (take_all at old (omega arith)))

-- What stands from the offset of a write on.
pub drop_put : (at : ℕ) (new old : Bytes) → at ≤ length old → drop at (put_at at new old) ≡ new ++ drop (at + length new) old
drop_put at new old low =
    ap (drop at) (append_assoc (take at old) new (drop (at + length new) old))
    ∙ drop_at (take at old) (new ++ drop (at + length new) old) at (omega (arith, length-take at old))

-- A byte that was written alone.
pub put_one : (at x : ℕ) (old : Bytes) → at < length old → get_or (put_at at (x ∷ []) old) at 0 ≡ x
put_one at x old low =
    ap (λ l. get_or l at 0) (append_assoc (take at old) (x ∷ []) (drop (at + 1) old))
    ∙ get_or_at (take at old) x (drop (at + 1) old) 0 at (omega (arith, length-take at old))

-- A stretch of a stretch.
pub stretch_stretch : (a n b m : ℕ) (bytes : Bytes) → a + n ≤ m → stretch a n (stretch b m bytes) ≡ stretch (b + a) n bytes
stretch_stretch a n b m bytes low =
    let e : a + (m - a) ≡ m = omega arith in
    ap (λ k. take n (drop a (take k (drop b bytes)))) (sym e)
    ∙ (ap (take n) (drop-take a (m - a) (drop b bytes))
    ∙ (take-take n (m - a) (drop a (drop b bytes)) (omega arith)
    ∙ ap (take n) (drop-drop a b bytes)))
