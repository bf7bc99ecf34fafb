-- What a load gives.
use Rattle.std.specs.Prelude.{◌≡◌, ℕ, ◌+◌, take, Some}
use Rattle.paw_base.specs.Bytes.{Bytes, Name}
use Rattle.paw_stage.specs.Stage.{Standing}

-- A load that gave these bytes: the whole file, or one more than the most where it has more; nothing is changed.
abbrev pub LoadsSome : Name → ℕ → Standing → Standing → Bytes → Type 0
LoadsSome name most old new given = (bytes : Bytes) × (old.files name ≡ Some bytes) × (given ≡ take (most + 1) bytes)
    × (new ≡ old)
