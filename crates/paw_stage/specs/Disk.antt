-- A store's bytes, and what a crash may leave of them.
use Rattle.std.specs.Prelude.{◌≡◌, ◌⊎◌, ℕ, ◌+◌, ◌<◌, ◌≤◌, max, List, [], ◌∷◌, ◌++◌, length, take, drop, slice_index}
use Rattle.std.specs.Prelude.{Bool, false, ◌&&◌, ◌||◌, nat_le, nat_lt}
use Rattle.paw_base.specs.Bytes.{Bytes}

-- The offsets from one number up to another, which isn't included.
pub record Range : Type 0 where
  pub from : ℕ
  pub to : ℕ

-- The bytes that a read gives now, those at the last sync, and the greatest length and the ranges written since then.
pub record Disk : Type 0 where
  pub bytes : Bytes
  pub synced : Bytes
  pub longest : ℕ
  pub dirty : List Range

-- Whether an offset was written since the last sync.
abbrev pub is_dirty : List Range → ℕ → Bool
is_dirty [] i = false
is_dirty (r ∷ ranges) i = (nat_le r.from i && nat_lt i r.to) || is_dirty ranges i

-- The bytes that a crash may leave: any byte at an offset that was written since the last sync, and past the length at
-- that sync any bytes, up to the greatest length since. All others stay.
pub record MayLeave (d : Disk) (image : Bytes) : Type 0 where
  pub no_shorter : length d.synced ≤ length image
  pub no_longer : length image ≤ d.longest
  pub clean : (i : ℕ) → i < length d.synced → is_dirty d.dirty i ≡ false → slice_index image i ≡ slice_index d.bytes i

-- A crash may leave the bytes that a read gives.
abbrev pub MayStay : Disk → Type 0
MayStay d = MayLeave d d.bytes

-- The bytes, with new ones put at an offset.
abbrev pub put_at : ℕ → Bytes → Bytes → Bytes
put_at at new old = take at old ++ new ++ drop (at + length new) old

-- The disk once a write of n bytes at an offset has put these bytes there: all n count as written.
abbrev pub disk_written : ℕ → ℕ → Bytes → Disk → Disk
disk_written at n new d = record {
  bytes = put_at at new d.bytes;
  synced = d.synced;
  longest = max d.longest (at + n);
  dirty = record { from = at; to = at + n } ∷ d.dirty;
}

-- Inside a write of n bytes, or at its end: nothing was written yet, or up to n bytes were, and these may be any bytes.
abbrev pub IsInWrite : ℕ → ℕ → Disk → Disk → Type 0
IsInWrite at n old d = (d ≡ old) ⊎ ((new : Bytes) × (length new ≤ n) × (d ≡ disk_written at n new old))

-- A disk with these bytes, of which a crash leaves exactly these.
abbrev pub stable : Bytes → Disk
stable bytes = record { bytes = bytes; synced = bytes; longest = length bytes; dirty = [] }

-- Nothing was written since the last sync.
pub record IsStable (d : Disk) : Type 0 where
  pub same : d.synced ≡ d.bytes
  pub longest : d.longest ≡ length d.bytes
  pub dirty : d.dirty ≡ []
