-- What calls leave of a store: it may stay as it is, and each pick of a crash is among what a crash may leave.
use Rattle.std.proofs.Common.{◌≡◌, ℕ, zero, suc, ◌+◌, ◌-◌, ◌≤◌, ◌<◌, Bool, true, false, List, [], ◌∷◌, length, min, max}
use Rattle.std.proofs.Common.{refl, sym, ap, ◌∙◌, arith, slice_index}
use Rattle.std.specs.Prelude.{nat_le, nat_lt, ◌&&◌, ◌||◌, ◌==◌, if◌then◌else◌}
use Rattle.std.proofs.lemmas.Bool.Decides.{nat_tests}
use Rattle.paw_base.specs.Bytes.{Bytes}
use Rattle.paw_stage.specs.Disk.{Disk, Range, is_dirty, MayLeave, MayStay, disk_written, stable}
use Rattle.paw_stage.specs.Stage.{Standing, bytes_or_none}
use Rattle.paw_stage.specs.inner.Done.{DoneCall, standing_after, after_call_of, fresh, after, is_attached}
use Rattle.paw_stage.specs.inner.Crash.{spoiled_if, bytes_spoiled, bytes_after_crash}
use Rattle.paw_stage.specs.declared.log.CallKind.{CallKind}
use Rattle.paw_stage.specs.declared.log.CallKind.TheVariants as kind
use Rattle.paw_stage.specs.inner.Staying.{stable_stays, written_stays}
use Rattle.paw_stage.proofs.Writes.{index-put}

pub record IsDisk (d : Disk) : Type 0 where
  pub stays : MayStay d
  pub same : (i : ℕ) → i < length d.synced → is_dirty d.dirty i ≡ false → slice_index d.synced i ≡ slice_index d.bytes i

stable_is : (bytes : Bytes) → IsDisk (stable bytes)
stable_is bytes = record { stays = stable_stays bytes; same = λ i l c. refl }

either_is : (b : Bool) (x y : Disk) → IsDisk x → IsDisk y → IsDisk (if b then x else y)
either_is true x y h k = h
either_is false x y h k = k

or_left : (a b : Bool) → (a || b) ≡ false → a ≡ false
or_left true b h = h
or_left false b h = refl

or_right : (a b : Bool) → (a || b) ≡ false → b ≡ false
or_right true b h = cc
or_right false b h = h

outside : (at n len i : ℕ) → (nat_le at i && nat_lt i (at + n)) ≡ false → i < len → (nat_le (min at len) i && nat_lt i (min at len + n)) ≡ false
outside at n len i h low = grind (arith, nat_tests)

written_is : (d : Disk) (at : ℕ) (bytes : Bytes) → IsDisk d → IsDisk (disk_written at (length bytes) bytes d)
written_is d at bytes h =
    record {
      stays = written_stays at (length bytes) bytes d (omega arith) h.stays;
      same = λ i low clean.
          let t : (nat_le (min at (length d.bytes)) i && nat_lt i (min at (length d.bytes) + length bytes)) ≡ false =
          outside at (length bytes) (length d.bytes) i
          (or_left (nat_le at i && nat_lt i (at + length bytes)) (is_dirty d.dirty i) clean)
          (omega (arith, h.stays.no_shorter, low)) in
          h.same i low (or_right (nat_le at i && nat_lt i (at + length bytes)) (is_dirty d.dirty i) clean)
          ∙ sym (index-put at bytes d.bytes i ∙ ap (λ b. if b then slice_index bytes (i - min at (length d.bytes)) else slice_index d.bytes i) t);
    }

call_is : (k : CallKind) (name bytes : Bytes) (s : Standing) → IsDisk s.disk → IsDisk (after_call_of k name bytes s).disk
call_is kind.Add name bytes s h = either_is (is_attached s.attached name) (stable bytes) s.disk (stable_is bytes) h
call_is kind.Load name bytes s h = h
call_is kind.Save name bytes s h = either_is (is_attached s.attached name) (stable bytes) s.disk (stable_is bytes) h
call_is kind.Attach name bytes s h = stable_is (bytes_or_none (s.files name))
call_is kind.Read name bytes s h = h
call_is (kind.Write at) name bytes s h = written_is s.disk at bytes h
call_is kind.Sync name bytes s h = stable_is s.disk.bytes
call_is kind.Take name bytes s h = h
call_is kind.End name bytes s h = h
call_is kind.Show name bytes s h = h

later_disk : (s : Standing) (ds : List DoneCall) → IsDisk s.disk → IsDisk (after s ds).disk
later_disk s [] h = h
later_disk s (d ∷ ds) h = later_disk (standing_after s d) ds (call_is d.kind d.name d.bytes s h)

pub after_disk : (ds : List DoneCall) → IsDisk (after fresh ds).disk
after_disk ds = later_disk fresh ds (stable_is [])

-- Once the bytes are synced a crash leaves no more than before.
pub synced_leaves : (d : Disk) → IsDisk d → (image : Bytes) → MayLeave (stable d.bytes) image → MayLeave d image
synced_leaves d h image l =
    record {
      no_shorter = omega (arith, h.stays.no_shorter, l.no_shorter);
      no_longer = omega (arith, h.stays.no_longer, l.no_longer);
      clean =
          λ i low clean. l.clean i (omega (arith, h.stays.no_shorter, low)) refl;
    }

pub length-spoiled : (dirty : List Range) (k : ℕ) (xs : Bytes) → length (bytes_spoiled dirty k xs) ≡ length xs
length-spoiled dirty k [] = refl
length-spoiled dirty k (x ∷ xs) = ap suc (length-spoiled dirty (k + 1) xs)

pub index-spoiled : (dirty : List Range) (k : ℕ) (xs : Bytes) (i : ℕ) → i < length xs →
    slice_index (bytes_spoiled dirty k xs) i ≡ spoiled_if (is_dirty dirty (k + i)) (slice_index xs i)
index-spoiled dirty k [] i h = absurd (omega arith)
index-spoiled dirty k (x ∷ xs) zero h = let e : k ≡ k + 0 = omega arith in ap (λ j. spoiled_if (is_dirty dirty j) x) e
index-spoiled dirty k (x ∷ xs) (suc i) h =
    let e : k + 1 + i ≡ k + suc i = omega arith in index-spoiled dirty (k + 1) xs i (omega arith) ∙ ap (λ j. spoiled_if (is_dirty dirty j) (slice_index xs i)) e

leaves : (a b : Bool) (d : Disk) → IsDisk d → MayLeave d (if a then d.synced else if b then d.bytes else bytes_spoiled d.dirty 0 d.bytes)
leaves true b d h = record { no_shorter = omega arith; no_longer = omega (arith, h.stays.no_shorter, h.stays.no_longer); clean = λ i low c. h.same i low c }
leaves false true d h = h.stays
leaves false false d h =
    let n : length (bytes_spoiled d.dirty 0 d.bytes) ≡ length d.bytes = length-spoiled d.dirty 0 d.bytes in
    record {
      no_shorter = omega (arith, n, h.stays.no_shorter);
      no_longer = omega (arith, n, h.stays.no_longer);
      clean = λ i low c. index-spoiled d.dirty 0 d.bytes i (omega (arith, h.stays.no_shorter, low))
          ∙ ap (λ b. spoiled_if b (slice_index d.bytes i)) (ap (is_dirty d.dirty) (zero_plus i) ∙ c);
    }
  where
    zero_plus : (i : ℕ) → 0 + i ≡ i
    zero_plus i = omega arith

pub crash_leaves : (ds : List DoneCall) (pick : ℕ) → MayLeave (after fresh ds).disk (bytes_after_crash (after fresh ds).disk pick)
crash_leaves ds pick = leaves (pick == 0) (pick == 1) (after fresh ds).disk (after_disk ds)
