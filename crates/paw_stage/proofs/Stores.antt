-- The attached store after one call more.
use Rattle.std.proofs.Common.{◌≡◌, ◌≢◌, ◌⊎◌, inl, inr, ℕ, ◌+◌, Bool, true, false, List, [], ◌∷◌, ◌++◌, length, take}
use Rattle.std.proofs.Common.{drop, refl, sym, ap, ◌∙◌, subst, arith}
use Rattle.std.proofs.Common.{length-append}
use Rattle.std.specs.Prelude.{Option, Some, None, ◌||◌, if◌then◌else◌, slice_range}
use Rattle.std.specs.Str.{bytes_eq}
use Rattle.std.proofs.lemmas.List.{take-append-le, drop-append-le, take_all, length-drop}
use Rattle.std.proofs.lemmas.Slice.Eq.{bytes_eq-Decides}
use Rattle.paw_base.specs.Bytes.{Bytes, Name}
use Rattle.paw_stage.specs.Disk.{Disk, is_dirty, stable}
use Rattle.paw_stage.specs.Stage.{Standing}
use Rattle.paw_stage.specs.inner.Done.{DoneCall, fresh, standing_after, after, is_attached}
use Rattle.paw_stage.specs.inner.Seen.{writes, is_written, IsStore, IsNamed, FindsStore}
use Rattle.paw_stage.specs.inner.Log.{done_in}
use Rattle.paw_stage.specs.declared.log.Call.{Call}
use Rattle.paw_stage.specs.declared.log.CallKind.{CallKind}
use Rattle.paw_stage.specs.declared.log.CallKind.TheVariants as kind
use Rattle.paw_stage.specs.declared.replay.Store.{Store}
use Rattle.paw_stage.proofs.Logs.{after-push}

or_swapped : (a b : Bool) → (a || b) ≡ (b || a)
or_swapped true true = refl
or_swapped true false = refl
or_swapped false true = refl
or_swapped false false = refl

or_false : (a : Bool) → (a || false) ≡ a
or_false true = refl
or_false false = refl

or_grouped : (a b c : Bool) → (a || (b || c)) ≡ ((a || b) || c)
or_grouped true b c = refl
or_grouped false b c = refl

pub is_written-push : (ds : List DoneCall) (d : DoneCall) (i : ℕ) → is_written (ds ++ d ∷ []) i ≡ (is_written ds i || writes d.kind (length d.bytes) i)
is_written-push [] d i = or_false (writes d.kind (length d.bytes) i)
is_written-push (x ∷ ds) d i =
    ap (λ b. writes x.kind (length x.bytes) i || b) (is_written-push ds d i)
    ∙ or_grouped (writes x.kind (length x.bytes) i) (is_written ds i) (writes d.kind (length d.bytes) i)

-- A call that neither attaches nor syncs.
same_store : (ds : List DoneCall) (d : DoneCall) (name : Name) (n : ℕ) → IsStore ds name n →
    (standing_after (after fresh ds) d).attached ≡ (after fresh ds).attached →
    (standing_after (after fresh ds) d).disk.synced ≡ (after fresh ds).disk.synced
    → ((i : ℕ) → is_dirty (standing_after (after fresh ds) d).disk.dirty i
    ≡ (writes d.kind (length d.bytes) i || is_dirty (after fresh ds).disk.dirty i)) → IsStore (ds ++ d ∷ []) name n
same_store ds d name n h ea es ed =
    let last : after fresh (ds ++ d ∷ []) ≡ standing_after (after fresh ds) d = after-push fresh ds d in
    let front : take n (ds ++ d ∷ []) ≡ take n ds = take-append-le n ds (d ∷ []) h.within in
    let back : drop n (ds ++ d ∷ []) ≡ drop n ds ++ d ∷ [] = drop-append-le n ds (d ∷ []) h.within in
    record {
      within = omega (arith, h.within, length-append ds (d ∷ []));
      attached = ap (λ (s : Standing). s.attached) last ∙ (ea ∙ h.attached);
      before = ap (λ l. (after fresh l).attached) front ∙ h.before;
      synced = ap (λ l. (after fresh l).disk.bytes) front ∙ (h.synced ∙ sym (ap (λ (s : Standing). s.disk.synced) last ∙ es));
      dirty = λ i.
          ap (λ (s : Standing). is_dirty s.disk.dirty i) last ∙ (ed i ∙ (ap (λ b. writes d.kind (length d.bytes) i || b) (h.dirty i)
          ∙ (or_swapped (writes d.kind (length d.bytes) i) (is_written (drop n ds) i)
          ∙ (sym (is_written-push (drop n ds) d i) ∙ sym (ap (λ l. is_written l i) back)))));
    }

-- A call after which all of the store's bytes are synced.
settled_store : (ds : List DoneCall) (d : DoneCall) (name bytes : Bytes) → (standing_after (after fresh ds) d).attached ≡ Some name →
    (standing_after (after fresh ds) d).disk ≡ stable bytes → IsStore (ds ++ d ∷ []) name (length ds + 1)
settled_store ds d name bytes ea ed =
    let last : after fresh (ds ++ d ∷ []) ≡ standing_after (after fresh ds) d = after-push fresh ds d in
    let size : length (ds ++ d ∷ []) ≡ length ds + 1 = length-append ds (d ∷ []) in
    let all : take (length ds + 1) (ds ++ d ∷ []) ≡ ds ++ d ∷ [] = take_all (length ds + 1) (ds ++ d ∷ []) (omega arith) in
    let disk : (after fresh (ds ++ d ∷ [])).disk ≡ stable bytes = ap (λ (s : Standing). s.disk) last ∙ ed in
    let attached : (after fresh (ds ++ d ∷ [])).attached ≡ Some name = ap (λ (s : Standing). s.attached) last ∙ ea in
    record {
      within = omega (arith, size);
      attached = attached;
      before = ap (λ l. (after fresh l).attached) all ∙ attached;
      synced = ap (λ l. (after fresh l).disk.bytes) all ∙ (ap (λ (k : Disk). k.bytes) disk ∙ sym (ap (λ (k : Disk). k.synced) disk));
      dirty = λ i. ap (λ (k : Disk). is_dirty k.dirty i) disk ∙ sym (ap (λ l. is_written l i) (none_left (ds ++ d ∷ []) (length ds + 1) size));
    }
  where
    none_left : (l : List DoneCall) (n : ℕ) → length l ≡ n → drop n l ≡ []
    none_left l n e = empty (drop n l) (omega (arith, length-drop n l))
      where
        empty : (l : List DoneCall) → length l ≡ 0 → l ≡ []
        empty [] h = refl
        empty (x ∷ l) h = absurd (omega arith)

-- Neither the name of the store nor what is synced changes.
abbrev pub IsQuiet : CallKind → Type 0
IsQuiet kind.Add = ⊥
IsQuiet kind.Save = ⊥
IsQuiet kind.Attach = ⊥
IsQuiet kind.Sync = ⊥
IsQuiet _ = Unit {0}

same_finds : (room : Bytes) (ds : List DoneCall) (d : DoneCall) (store : Option Store) → FindsStore room ds store →
    (standing_after (after fresh ds) d).attached ≡ (after fresh ds).attached →
    (standing_after (after fresh ds) d).disk.synced ≡ (after fresh ds).disk.synced
    → ((i : ℕ) → is_dirty (standing_after (after fresh ds) d).disk.dirty i
    ≡ (writes d.kind (length d.bytes) i || is_dirty (after fresh ds).disk.dirty i)) →
    FindsStore room (ds ++ d ∷ []) store
same_finds room ds d None h ea es ed = ap (λ (s : Standing). s.attached) (after-push fresh ds d) ∙ (ea ∙ h)
same_finds room ds d (Some store) h ea es ed = (h.0, same_store ds d _ store.synced h.1 ea es ed)

pub quiet_finds : (room : Bytes) (ds : List DoneCall) (k : CallKind) (name bytes : Bytes) (store : Option Store) → IsQuiet k →
    FindsStore room ds store → FindsStore room (ds ++ record { kind = k; name = name; bytes = bytes } ∷ []) store
quiet_finds room ds kind.Add name bytes store q h = absurd q
quiet_finds room ds kind.Load name bytes store q h = same_finds room ds (record { kind = kind.Load; name = name; bytes = bytes }) store h refl refl (λ i. refl)
quiet_finds room ds kind.Save name bytes store q h = absurd q
quiet_finds room ds kind.Attach name bytes store q h = absurd q
quiet_finds room ds kind.Read name bytes store q h = same_finds room ds (record { kind = kind.Read; name = name; bytes = bytes }) store h refl refl (λ i. refl)
quiet_finds room ds (kind.Write at) name bytes store q h =
    same_finds room ds (record { kind = kind.Write at; name = name; bytes = bytes }) store h refl refl (λ i. refl)
quiet_finds room ds kind.Sync name bytes store q h = absurd q
quiet_finds room ds kind.Take name bytes store q h = same_finds room ds (record { kind = kind.Take; name = name; bytes = bytes }) store h refl refl (λ i. refl)
quiet_finds room ds kind.End name bytes store q h = same_finds room ds (record { kind = kind.End; name = name; bytes = bytes }) store h refl refl (λ i. refl)
quiet_finds room ds kind.Show name bytes store q h = same_finds room ds (record { kind = kind.Show; name = name; bytes = bytes }) store h refl refl (λ i. refl)

-- So does a call that lies in this room.
pub quiet_call_finds : (room : Bytes) (ds : List DoneCall) (call : Call) (store : Option Store) → IsQuiet call.kind → FindsStore room ds store
    → FindsStore room (ds ++ done_in room call ∷ []) store
quiet_call_finds room ds call store q h =
    quiet_finds room ds call.kind (slice_range room call.from call.mid) (slice_range room call.mid call.to) store q h

-- The store's bytes where its file, or another, was saved.
same_disk : (s : Standing) (name bytes : Bytes) → s.attached ≡ Some name → (if is_attached s.attached name then stable bytes else s.disk) ≡ stable bytes
same_disk s name bytes e =
    ap (λ a. if is_attached a name then stable bytes else s.disk) e ∙ ap (λ b. if b then stable bytes else s.disk) ((bytes_eq-Decides name name).1 refl)

if_not : (b : Bool) (x y : Disk) → (b ≡ true → ⊥) → (if b then x else y) ≡ y
if_not true x y n = absurd (n refl)
if_not false x y n = refl

other_disk : (s : Standing) (name other bytes : Bytes) → s.attached ≡ Some name → other ≢ name →
    (if is_attached s.attached other then stable bytes else s.disk) ≡ s.disk
other_disk s name other bytes e ne =
    ap (λ a. if is_attached a other then stable bytes else s.disk) e
    ∙ if_not (bytes_eq name other) (stable bytes) s.disk (λ t. ne (sym ((bytes_eq-Decides name other).0 t)))

saved_same : (ds : List DoneCall) (k : CallKind) (name bytes : Bytes) (n : ℕ) → (k ≡ kind.Add) ⊎ (k ≡ kind.Save) →
    IsStore ds name n → IsStore (ds ++ record { kind = k; name = name; bytes = bytes } ∷ []) name (length ds + 1)
saved_same ds k name bytes n w h =
    let disk = same_disk (after fresh ds) name bytes h.attached in
    elim w [
      | inl e ↦ subst (λ x. IsStore (ds ++ record { kind = x; name = name; bytes = bytes } ∷ []) name (length ds + 1))
          (sym e) (settled_store ds (record { kind = kind.Add; name = name; bytes = bytes }) name bytes h.attached disk)
      | inr e ↦ subst (λ x. IsStore (ds ++ record { kind = x; name = name; bytes = bytes } ∷ []) name (length ds + 1))
          (sym e) (settled_store ds (record { kind = kind.Save; name = name; bytes = bytes }) name bytes h.attached disk)
    ]

pub saved_here : (ds : List DoneCall) (k : CallKind) (called name bytes : Bytes) (n done : ℕ) → called ≡ name →
    done ≡ length ds + 1 → (k ≡ kind.Add) ⊎ (k ≡ kind.Save) → IsStore ds name n →
    IsStore (ds ++ record { kind = k; name = called; bytes = bytes } ∷ []) name done
saved_here ds k called name bytes n done e count w h =
    subst (λ x. IsStore (ds ++ record { kind = k; name = called; bytes = bytes } ∷ []) name x) (sym count)
    (subst (λ x. IsStore (ds ++ record { kind = k; name = x; bytes = bytes } ∷ []) name (length ds + 1)) (sym e)
    (saved_same ds k name bytes n w h))

pub saved_other : (ds : List DoneCall) (k : CallKind) (name other bytes : Bytes) (n : ℕ) → (k ≡ kind.Add) ⊎ (k ≡ kind.Save) →
    other ≢ name → IsStore ds name n → IsStore (ds ++ record { kind = k; name = other; bytes = bytes } ∷ []) name n
saved_other ds k name other bytes n w ne h =
    let disk = other_disk (after fresh ds) name other bytes h.attached ne in
    let synced = ap (λ (d : Disk). d.synced) disk in
    let dirty = λ (i : ℕ). ap (λ (d : Disk). is_dirty d.dirty i) disk in
    elim w [
      | inl e ↦ subst (λ x. IsStore (ds ++ record { kind = x; name = other; bytes = bytes } ∷ []) name n) (sym e)
          (same_store ds (record { kind = kind.Add; name = other; bytes = bytes }) name n h refl synced dirty)
      | inr e ↦ subst (λ x. IsStore (ds ++ record { kind = x; name = other; bytes = bytes } ∷ []) name n) (sym e)
          (same_store ds (record { kind = kind.Save; name = other; bytes = bytes }) name n h refl synced dirty)
    ]

-- No store is attached by saving.
pub saved_none : (ds : List DoneCall) (k : CallKind) (name bytes : Bytes) → (k ≡ kind.Add) ⊎ (k ≡ kind.Save) →
    (after fresh ds).attached ≡ None → (after fresh
    (ds ++ record { kind = k; name = name; bytes = bytes } ∷ [])).attached ≡ None
saved_none ds k name bytes w h = elim w [
  | inl e ↦ subst (λ x. (after fresh (ds ++ record { kind = x; name = name; bytes = bytes } ∷ [])).attached ≡ None)
      (sym e) (ap (λ (s : Standing). s.attached)
      (after-push fresh ds (record { kind = kind.Add; name = name; bytes = bytes })) ∙ h)
  | inr e ↦ subst (λ x. (after fresh (ds ++ record { kind = x; name = name; bytes = bytes } ∷ [])).attached ≡ None)
      (sym e) (ap (λ (s : Standing). s.attached)
      (after-push fresh ds (record { kind = kind.Save; name = name; bytes = bytes })) ∙ h)
]

-- The name of the attached store stands in the room.
pub found_named : (room : Bytes) (ds : List DoneCall) (store : Option Store) → FindsStore room ds store → IsNamed room store
found_named room ds None h = tt
found_named room ds (Some store) h = h.0
