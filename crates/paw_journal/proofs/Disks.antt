-- Disks of which only a stretch was written since the last sync.
use Rattle.std.proofs.Common.{◌≡◌, ℕ, ◌+◌, ◌≤◌, ◌<◌, false, List, ◌∷◌, length, refl, sym, ap, subst, ◌∙◌, arith, get_or}
use Rattle.std.proofs.Common.{◌⊎◌, inl, inr}
use Rattle.std.proofs.lemmas.Bool.Decides.{nat_tests}
use Rattle.std.proofs.lemmas.List.{ext_get_or}
use Rattle.paw_base.specs.Bytes.{Bytes}
use Rattle.paw_stage.specs.Disk.{Range, Disk, is_dirty, MayLeave, disk_written, stable, IsStable, IsInWrite, put_at}
use Rattle.paw_journal.specs.inner.Writes.{IsWithin}
use Rattle.paw_journal.proofs.Parts.{length_put, put_below, put_above}

pub within_stable : (lo hi : ℕ) (d : Disk) → IsStable d → IsWithin lo hi d.bytes d
within_stable lo hi d h = record {
  long = refl;
  synced = ap length h.same;
  longest = h.longest;
  same =
      λ i o. refl;
  clean = λ i o. ap (λ r. is_dirty r i) h.dirty;
}

within_touched : (lo hi at n : ℕ) (old new : Bytes) (d : Disk) → IsWithin lo hi old d → lo ≤ at → at + n ≤ hi →
    hi ≤ length old → length new ≤ n → IsWithin lo hi old (disk_written at n new d)
within_touched lo hi at n old new d h low high long short =
    record {
      long = omega (arith, length_put at new d.bytes (omega (arith, h.long)), h.long);
      synced = h.synced;
      longest = omega (arith, h.longest);
      same = λ i o. elim o [
        | inl l ↦ put_below at new d.bytes i (omega (arith, h.long)) (omega arith) ∙ h.same i (inl l)
        | inr l ↦ put_above at new d.bytes i (omega (arith, h.long)) (omega arith) ∙ h.same i (inr l)
      ];
      clean = λ i o. elim o [
        | inl l ↦ not_in at n i _ (inl (omega arith)) (h.clean i (inl l))
        | inr l ↦ not_in at n i _
            (inr (omega arith)) (h.clean i (inr l))
      ];
    }
  where
    not_in : (at n i : ℕ) (ranges : List Range) → (i < at) ⊎ (at + n ≤ i) → is_dirty ranges i ≡ false →
        is_dirty (record { from = at; to = at + n } ∷ ranges) i ≡ false
    not_in at n i ranges (inl l) c = grind (arith, nat_tests)
    not_in at n i ranges (inr l) c = grind (arith, nat_tests)

-- A write inside the stretch.
pub within_write : (lo hi at n : ℕ) (old : Bytes) (d m : Disk) → IsWithin lo hi old d → lo ≤ at → at + n ≤ hi →
    hi ≤ length old → IsInWrite at n d m → IsWithin lo hi old m
within_write lo hi at n old d m h low high long (inl e) = subst (λ y. IsWithin lo hi old y) (sym e) h
within_write lo hi at n old d m h low high long (inr q) = subst (λ y. IsWithin lo hi old y) (sym q.2) (within_touched lo hi at n old q.0 d h low high long q.1)

-- What a crash then leaves is as long, and the same outside the stretch.
pub within_long : (lo hi : ℕ) (old image : Bytes) (d : Disk) → IsWithin lo hi old d → MayLeave d image → length image ≡ length old
within_long lo hi old image d h m = omega (arith, h.synced, h.longest, m.no_shorter, m.no_longer)

pub within_same : (lo hi : ℕ) (old image : Bytes) (d : Disk) → IsWithin lo hi old d → MayLeave d image → (i : ℕ) →
    i < length old → (i < lo) ⊎ (hi ≤ i) → get_or image i 0 ≡ get_or old i 0
within_same lo hi old image d h m i low o = m.clean i (omega (arith, h.synced)) (h.clean i o) ∙ h.same i o

pub stable_is : (bytes : Bytes) → IsStable (stable bytes)
stable_is bytes = record { same = refl; longest = refl; dirty = refl }

-- Of a disk with nothing unsynced a crash leaves just its bytes.
pub stable_leaves : (d : Disk) (image : Bytes) → IsStable d → MayLeave d image → image ≡ d.bytes
stable_leaves d image h m =
    let n : length image ≡ length d.bytes = omega (arith, ap length h.same, h.longest, m.no_shorter, m.no_longer) in
    ext_get_or 0 image d.bytes n (λ i low. m.clean i (omega (arith, ap length h.same)) (ap (λ r. is_dirty r i) h.dirty))

-- A stretch that was written and synced.
pub put_within : (at n : ℕ) (new old : Bytes) → length new ≡ n → at + length new ≤ length old → IsWithin at (at + n) old (stable (put_at at new old))
put_within at n new old l fits =
    let long : length (put_at at new old) ≡ length old = omega (arith, length_put at new old (omega arith)) in
    record {
      long = long;
      synced = long;
      longest = long;
      same = λ i o. elim o [ inl h ↦ put_below at new old i (omega arith) h | inr h ↦ put_above at new old i (omega arith) (omega arith) ];
      clean = λ i o. refl;
    }
