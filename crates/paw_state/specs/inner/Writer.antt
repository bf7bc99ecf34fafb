-- Fields that are written one after the other.
use Rattle.std.specs.Prelude.{◌≡◌, ℕ, ◌+◌, ◌++◌, length}
use Rattle.paw_base.specs.Bytes.{Bytes}

-- These bytes, of this number, were written after the others.
pub record WritesField (field : Bytes) (count : ℕ) (old new : Bytes) : Type 0 where
  pub puts : new ≡ old ++ field
  pub long : length new ≡ length old + count
