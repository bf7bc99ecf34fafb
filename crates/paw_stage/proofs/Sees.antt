-- What is seen of a file after one call more.
use Rattle.std.proofs.Common.{◌≡◌, inl, inr, ℕ, ◌+◌, ◌≤◌, ◌<◌, true, length, take, drop, max, min, sym, ap, ◌∙◌}
use Rattle.std.proofs.Common.{arith}
use Rattle.std.proofs.Common.{slice_index}
use Rattle.std.specs.Prelude.{Option, Some, None, is_some}
use Rattle.std.proofs.lemmas.Slice.Eq.{bytes_eq-Decides}
use Rattle.std.proofs.lemmas.List.{ext_get_or, get_or-take, get_or-drop, length-take, length-drop}
use Rattle.paw_base.specs.Bytes.{Bytes, Name}
use Rattle.paw_stage.specs.Disk.{put_at, disk_written}
use Rattle.paw_stage.specs.Stage.{Standing, store_holding, bytes_or_none, with_disk}
use Rattle.paw_stage.specs.inner.Done.{is_attached}
use Rattle.paw_stage.specs.inner.Seen.{Sees, IsFiled, laid_over}
use Rattle.paw_stage.specs.declared.replay.Seen.{Seen}
use Rattle.paw_stage.proofs.Names.{holds_same}
use Rattle.paw_stage.specs.inner.Staying.{length-put}
use Rattle.paw_stage.proofs.Writes.{index-put, where_is, laid_before, laid_in, laid_behind}

attached_is : (a : Option Name) (name : Name) → is_attached a name ≡ true → a ≡ Some name
attached_is None name h = cc
attached_is (Some n) name h = ap Some ((bytes_eq-Decides n name).0 h)

-- Bytes of a store that was written to.
written_bytes : (offset at : ℕ) (bytes old into new : Bytes) (j : ℕ) → j < length into → at + j < max (length old) (min offset (length old) + length bytes)
    → (at + j < length old → slice_index into j ≡ slice_index old (at + j))
    → slice_index new j ≡ laid_over (min offset (length old)) bytes (at + j) (slice_index into j)
    → slice_index new j ≡ slice_index (put_at offset bytes old) (at + j)
written_bytes offset at bytes old into new j low within seen e =
    let p : ℕ = min offset (length old) in
    e ∙ (elim (where_is (at + j) p (length bytes)) [
      | inl h ↦
          laid_before p bytes (at + j) (slice_index into j) h ∙ (seen (omega arith) ∙ sym (laid_before p bytes (at + j) (slice_index old (at + j)) h))
      | inr (inl h) ↦
          laid_in p bytes (at + j) (slice_index into j) h.0 h.1 ∙ sym (laid_in p bytes (at + j) (slice_index old (at + j)) h.0 h.1)
      | inr (inr h) ↦
          laid_behind p bytes (at + j) (slice_index into j) h ∙ (seen (omega arith) ∙ sym (laid_behind p bytes (at + j) (slice_index old (at + j)) h))
    ] ∙ sym (index-put offset bytes old (at + j)))

pub sees_written : (s : Standing) (name : Name) (at offset : ℕ) (bytes into new : Bytes) (seen now : Seen) →
    IsFiled s → Sees s name at seen into → seen.attached ≡ true
    → now ≡ record { here = seen.here; attached = seen.attached; len = max seen.len (min offset seen.len + length bytes) }
    → length new ≡ length into
    → ((j : ℕ) → j < length into → slice_index new j ≡ laid_over (min offset seen.len) bytes (at + j) (slice_index into j))
    → Sees (with_disk s (disk_written offset (length bytes) bytes s.disk) (length bytes)) name at now new
sees_written s name at offset bytes into new seen now filed h on is same laid =
    let old : Bytes = s.disk.bytes in
    let a : s.attached ≡ Some name = attached_is s.attached name (sym h.attached ∙ on) in
    let f : s.files name ≡ Some old = filed name a in
    let g : store_holding s.attached (put_at offset bytes old) s.files name ≡ Some (put_at offset bytes old) =
    ap (λ o. store_holding o (put_at offset bytes old) s.files name) a ∙ holds_same name (Some (put_at offset bytes old)) s.files in
    let n : seen.len ≡ length old = h.len ∙ ap (λ o. length (bytes_or_none o)) f in
    let len : now.len ≡ max (length old) (min offset (length old) + length bytes) =
    ap (λ (x : Seen). x.len) is ∙ ap (λ k. max k (min offset k + length bytes)) n in
    record {
      here = ap (λ (x : Seen). x.here) is ∙ (h.here ∙ (ap is_some f ∙ sym (ap is_some g)));
      attached = ap (λ (x : Seen). x.attached) is ∙ h.attached;
      len = len ∙ (sym (length-put offset bytes old) ∙ sym (ap (λ o. length (bytes_or_none o)) g));
      bytes = λ j low within.
          written_bytes offset at bytes old into new j (omega (arith, low, same)) (omega (arith, within, len))
          (λ short. h.bytes j (omega (arith, low, same)) (omega (arith, short, n)) ∙ ap (λ o. slice_index (bytes_or_none o) (at + j)) f)
          (laid j (omega (arith, low, same)) ∙ ap (λ k. laid_over (min offset k) bytes (at + j) (slice_index into j)) n)
          ∙ sym (ap (λ o. slice_index (bytes_or_none o) (at + j)) g);
    }

-- A slice that the file's bytes fill.
pub filled : (s : Standing) (name : Name) (at n : ℕ) (seen : Seen) (into : Bytes) → Sees s name at seen into →
    length into ≡ n → at + n ≤ length (bytes_or_none (s.files name)) →
    into ≡ take n (drop at (bytes_or_none (s.files name)))
filled s name at n seen into h size within =
    let bytes : Bytes = bytes_or_none (s.files name) in
    let long : length (take n (drop at bytes)) ≡ n = omega (arith, length-take n (drop at bytes), length-drop at bytes) in
    ext_get_or 0 into (take n (drop at bytes)) (omega (arith, long, size)) (λ j low.
    h.bytes j low (omega (arith, low, size, h.len)) ∙ sym (get_or-take n (drop at bytes) j 0 (omega (arith, low, size)) ∙ get_or-drop at bytes j 0))
