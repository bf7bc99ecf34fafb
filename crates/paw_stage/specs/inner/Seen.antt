-- What is found of a file, and of the attached store, by playing calls again.
use Rattle.std.specs.Prelude.{◌≡◌, ℕ, ◌+◌, ◌-◌, ◌<◌, ◌≤◌, nat_le, nat_lt, ◌&&◌, ◌||◌, Bool, false, List, [], ◌∷◌, ◌++◌}
use Rattle.std.specs.Prelude.{length, take, drop, slice_index, slice_range, Option, Some, None, is_some, if◌then◌else◌}
use Rattle.paw_base.specs.Bytes.{Bytes, Name}
use Rattle.paw_stage.specs.Disk.{is_dirty}
use Rattle.paw_stage.specs.Stage.{Standing, file_bytes}
use Rattle.paw_stage.specs.inner.Done.{DoneCall, fresh, after, is_attached}
use Rattle.paw_stage.specs.inner.Crash.{spoiled_if}
use Rattle.paw_stage.specs.inner.Log.{done_in}
use Rattle.paw_stage.specs.declared.log.Call.{Call}
use Rattle.paw_stage.specs.declared.log.CallKind.{CallKind}
use Rattle.paw_stage.specs.declared.log.CallKind.TheVariants as kind
use Rattle.paw_stage.specs.declared.replay.Seen.{Seen}
use Rattle.paw_stage.specs.declared.replay.Store.{Store}

-- A file that is there has this length.
abbrev pub HasLength : Option Bytes → ℕ → Type 0
HasLength file n = (bytes : Bytes) × (file ≡ Some bytes) × (n ≡ length bytes)

-- The file of this name is as seen, and a buffer holds its bytes from an offset on, as far as they go.
pub record Sees (s : Standing) (name : Name) (at : ℕ) (seen : Seen) (into : Bytes) : Type 0 where
  pub here : seen.here ≡ is_some (s.files name)
  pub attached : seen.attached ≡ is_attached s.attached name
  pub len : seen.len ≡ length (file_bytes s name)
  pub bytes : (j : ℕ) → j < length into → at + j < seen.len →
      slice_index into j ≡ slice_index (file_bytes s name) (at + j)

-- The bytes of the attached store are those of its file.
abbrev pub IsFiled : Standing → Type 0
IsFiled s = (name : Name) → s.attached ≡ Some name → s.files name ≡ Some s.disk.bytes

-- The byte at offset i, once bytes were laid over those from an offset on.
abbrev pub laid_over : ℕ → Bytes → ℕ → ℕ → ℕ
laid_over place bytes i old =
    if nat_le place i && nat_lt i (place + length bytes) then slice_index bytes (i - place) else old

-- A buffer holds what stands from `at` on, and now that is with bytes laid over from an offset on.
abbrev pub LaysOver : ℕ → Bytes → ℕ → Bytes → Bytes → Type 0
LaysOver place bytes at old new =
    (j : ℕ) → j < length old → slice_index new j ≡ laid_over place bytes (at + j) (slice_index old j)

-- Each byte for which the test holds has another value now, and all others are as they were.
abbrev pub Spoils : (ℕ → Bool) → Bytes → Bytes → Type 0
Spoils test old new = (j : ℕ) → j < length old → slice_index new j ≡ spoiled_if (test j) (slice_index old j)

-- Whether a call of this kind, with this number of bytes, wrote at offset i of the store.
abbrev pub writes : CallKind → ℕ → ℕ → Bool
writes (kind.Write at) n i = nat_le at i && nat_lt i (at + n)
writes _ n i = false

-- Whether one of these calls wrote at offset i of the store.
abbrev pub is_written : List DoneCall → ℕ → Bool
is_written [] i = false
is_written (d ∷ ds) i = writes d.kind (length d.bytes) i || is_written ds i

-- The store of this name was attached by then, its bytes were last synced after n of these calls, and what is dirty was
-- written by the later ones.
pub record IsStore (ds : List DoneCall) (name : Name) (n : ℕ) : Type 0 where
  pub within : n ≤ length ds
  pub attached : (after fresh ds).attached ≡ Some name
  pub before : (after fresh (take n ds)).attached ≡ Some name
  pub synced : (after fresh (take n ds)).disk.bytes ≡ (after fresh ds).disk.synced
  pub dirty : (i : ℕ) → is_dirty (after fresh ds).disk.dirty i ≡ is_written (drop n ds) i

-- The name of the store stands in the room, where there is a store.
abbrev pub IsNamed : Bytes → Option Store → Type 0
IsNamed room None = Unit {0}
IsNamed room (Some store) = (store.opened.from ≤ store.opened.mid) × (store.opened.mid ≤ length room)

-- The attached store of these calls, where one is attached.
abbrev pub FindsStore : Bytes → List DoneCall → Option Store → Type 0
FindsStore room ds None = (after fresh ds).attached ≡ None
FindsStore room ds (Some store) =
    IsNamed room (Some store) × IsStore ds (slice_range room store.opened.from store.opened.mid) store.synced

-- The store after any n calls, of which this is the last, where `old` is the store after the others.
abbrev pub FindsNext : Bytes → Call → ℕ → Option Store → Option Store → Type 0
FindsNext room call n old new =
    (ds : List DoneCall) → n ≡ length ds + 1 → FindsStore room ds old →
    FindsStore room (ds ++ done_in room call ∷ []) new
