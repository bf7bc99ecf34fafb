-- What is pending: the part of a typed line that wasn't read yet.
use Rattle.std.specs.Prelude.{ℕ}
use Rattle.paw_base.specs.Bytes.{Bytes}

-- The bytes that are left of the line, and the verb of the sentence before, which is 255 where there was none.
pub record PendingLine : Type 0 where
  pub bytes : Bytes
  pub earlier : ℕ
