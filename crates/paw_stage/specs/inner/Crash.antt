-- What a crash makes of a store, by a pick.
use Rattle.std.specs.Prelude.{◌≡◌, ◌⊎◌, ◌≤◌, ℕ, ◌+◌, ◌==◌, Bool, List, [], ◌∷◌, None, if◌then◌else◌}
use Rattle.paw_base.specs.Bytes.{Bytes}
use Rattle.paw_stage.specs.Disk.{Disk, Range, is_dirty}
use Rattle.paw_stage.specs.inner.Done.{DoneCall, calls_made, right_after}

-- A byte, or 255 where it is spoiled.
abbrev pub spoiled_if : Bool → ℕ → ℕ
spoiled_if spoiled x = if spoiled then 255 else x

-- The bytes that stand from an offset on, with 255 for each that was written since the last sync.
abbrev pub bytes_spoiled : List Range → ℕ → Bytes → Bytes
bytes_spoiled dirty i [] = []
bytes_spoiled dirty i (x ∷ xs) = spoiled_if (is_dirty dirty i) x ∷ bytes_spoiled dirty (i + 1) xs

-- The bytes that a read gives, with 255 for each that was written since the last sync.
abbrev pub all_spoiled : Disk → Bytes
all_spoiled d = bytes_spoiled d.dirty 0 d.bytes

-- What a pick leaves: pick 0 the bytes at the last sync, pick 1 those that a read gives, and any other pick these, all
-- spoiled.
abbrev pub bytes_after_crash : Disk → ℕ → Bytes
bytes_after_crash d pick = if pick == 0 then d.synced else if pick == 1 then d.bytes else all_spoiled d

-- Fewer calls were made than up to this number, counted from 0, or no store was attached by then.
abbrev pub HasNoStore : ℕ → List DoneCall → Type 0
HasNoStore number ds = (calls_made ds ≤ number) ⊎ ((right_after number ds).attached ≡ None)
