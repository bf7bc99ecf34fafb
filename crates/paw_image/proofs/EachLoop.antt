-- Passing over rows one after another, as a loop does.
use Rattle.std.proofs.Common.{◌≡◌, ℕ, suc, ◌-◌, ◌+◌, ◌≤◌, ◌<◌, List, [], ◌∷◌, ◌++◌, length, Ok, Err, refl, sym, ap}
use Rattle.std.proofs.Common.{◌∙◌, append_assoc, arith}
use Rattle.std.specs.List.{AllByRecursion}
use Rattle.std.proofs.lemmas.List.{append-nil, map-append}
use Rattle.paw_base.specs.Bytes.{Bytes}
use Rattle.paw_read_error.specs.declared.read_error.ReadError.{ReadError}
use Rattle.paw_read_error.specs.declared.read_error.ReadError.TheVariants as fault
use Rattle.paw_read_error.specs.inner.Gives.{Fails}
use Rattle.paw_image.specs.Damage.{ImagePreface, Passing, each, checked_exit, after_exits_of, after_table}
use Rattle.paw_image.specs.inner.Offsets.{begins, entries_begin, entries_of, tables_begin, TableOffsets}
use Rattle.paw_image.specs.declared.offsets.TableIndex.{TableIndex}

-- ---- rows ----

module _ (pass : Bytes → Passing) (count i : ℕ) (bytes : Bytes) (total : Passing) where
  pub each_goes_on : (after : Bytes) → i < count → pass bytes ≡ Ok after → each pass (count - i) bytes ≡ total → each pass (count - (i + 1)) after ≡ total
  unfolding each
  each_goes_on after lt h so_far =
      let k : count - i ≡ suc (count - (i + 1)) = omega arith in
      let one : each pass (count - i) bytes ≡ each pass (count - (i + 1)) after = rw (k, h) refl in
      sym one ∙ so_far

  pub each_ends : (e : ReadError ℕ) → i < count → Fails e (pass bytes) → each pass (count - i) bytes ≡ total → Fails e total
  unfolding each
  each_ends fault.Memory lt h so_far = tt
  each_ends (fault.Fault left) lt h so_far =
      let k : count - i ≡ suc (count - (i + 1)) = omega arith in
      let one : each pass (count - i) bytes ≡ Err left = rw (k, h) refl in
      sym so_far ∙ one

  pub each_is_done : count ≤ i → each pass (count - i) bytes ≡ total → total ≡ Ok bytes
  unfolding each
  each_is_done le so_far =
      let k : count - i ≡ 0 = omega arith in
      let one : each pass (count - i) bytes ≡ Ok bytes = rw k refl in
      sym so_far ∙ one

-- ---- exits ----

module _ (d : ImagePreface) (verbs : List ℕ) (count i : ℕ) (bytes : Bytes) (total : Passing) where
  pub exits_go_on : (verb : ℕ) (after : Bytes) → i < count → checked_exit d verbs bytes ≡ Ok (verb, after) → after_exits_of d verbs (count - i) bytes ≡ total
      → after_exits_of d (verb ∷ verbs) (count - (i + 1)) after ≡ total
  unfolding after_exits_of
  exits_go_on verb after lt h so_far =
      let k : count - i ≡ suc (count - (i + 1)) = omega arith in
      let one : after_exits_of d verbs (count - i) bytes ≡ after_exits_of d (verb ∷ verbs) (count - (i + 1)) after = rw (k, h) refl in
      sym one ∙ so_far

  pub exits_end : (e : ReadError ℕ) → i < count → Fails e (checked_exit d verbs bytes) → after_exits_of d verbs (count - i) bytes ≡ total → Fails e total
  unfolding after_exits_of
  exits_end fault.Memory lt h so_far = tt
  exits_end (fault.Fault left) lt h so_far =
      let k : count - i ≡ suc (count - (i + 1)) = omega arith in
      let one : after_exits_of d verbs (count - i) bytes ≡ Err left = rw (k, h) refl in
      sym so_far ∙ one

  pub exits_are_done : count ≤ i → after_exits_of d verbs (count - i) bytes ≡ total → total ≡ Ok bytes
  unfolding after_exits_of
  exits_are_done le so_far =
      let k : count - i ≡ 0 = omega arith in
      let one : after_exits_of d verbs (count - i) bytes ≡ Ok bytes = rw k refl in
      sym so_far ∙ one

-- ---- offsets ----

module _ (pass : Bytes → Passing) (total : ℕ) (front : List ℕ) (count i : ℕ) (bytes : Bytes) (whole : List ℕ) where
  pub begins_go_on : (after : Bytes) → i < count → pass bytes ≡ Ok after → front ++ begins pass total (count - i) bytes ≡ whole
      → (front ++ (total - length bytes) ∷ []) ++ begins pass total (count - (i + 1)) after ≡ whole
  unfolding begins
  begins_go_on after lt h so_far =
      let k : count - i ≡ suc (count - (i + 1)) = omega arith in
      let one : front ++ begins pass total (count - i) bytes ≡ front ++ ((total - length bytes) ∷ begins pass total (count - (i + 1)) after) = rw (k, h) refl in
      append_assoc front ((total - length bytes) ∷ []) (begins pass total (count - (i + 1)) after) ∙ sym one ∙ so_far

  pub begins_are_done : count ≤ i → front ++ begins pass total (count - i) bytes ≡ whole → front ≡ whole
  unfolding begins
  begins_are_done le so_far =
      let k : count - i ≡ 0 = omega arith in
      let one : front ++ begins pass total (count - i) bytes ≡ front = rw k (append-nil front) in
      sym one ∙ so_far

module _ (d : ImagePreface) (total : ℕ) (front : List TableIndex) (count i : ℕ) (bytes : Bytes) (whole : TableOffsets) where
  pub tables_go_on : (t : TableIndex) (after : Bytes) → i < count → after_table d bytes ≡ Ok after → t.entries.items ≡ entries_begin d total bytes
      → entries_of front ++ tables_begin d total (count - i) bytes ≡ whole
      → entries_of (front ++ t ∷ []) ++ tables_begin d total (count - (i + 1)) after ≡ whole
  unfolding tables_begin
  tables_go_on t after lt h is so_far =
      let k : count - i ≡ suc (count - (i + 1)) = omega arith in
      let later = tables_begin d total (count - (i + 1)) after in
      let one : entries_of front ++ tables_begin d total (count - i) bytes ≡ entries_of front ++ (entries_begin d total bytes ∷ later) = rw (k, h) refl in
      ap (λ (l : TableOffsets). l ++ later) (map-append (λ (x : TableIndex). x.entries.items) front (t ∷ []))
      ∙ append_assoc (entries_of front) (t.entries.items ∷ []) later
      ∙ ap (λ (l : List ℕ). entries_of front ++ (l ∷ later)) is ∙ sym one ∙ so_far

  pub tables_are_done : count ≤ i → entries_of front ++ tables_begin d total (count - i) bytes ≡ whole → entries_of front ≡ whole
  unfolding tables_begin
  tables_are_done le so_far =
      let k : count - i ≡ 0 = omega arith in
      let one : entries_of front ++ tables_begin d total (count - i) bytes ≡ entries_of front = rw k (append-nil (entries_of front)) in
      sym one ∙ so_far

pub all_more : {X : Type 0} (P : X → Type 0) (xs : List X) (x : X) → AllByRecursion P xs → P x → AllByRecursion P (xs ++ x ∷ [])
all_more P [] x h p = (p, tt)
all_more P (y ∷ ys) x h p = (h.0, all_more P ys x h.1 p)
