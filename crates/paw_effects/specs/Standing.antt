-- Lists of bytes.
use Rattle.std.specs.Prelude.{◌<◌, All}
use Rattle.paw_base.specs.Bytes.{Bytes}

-- These are bytes: each is below 256.
abbrev pub AreBytes : Bytes → Type 0
AreBytes bytes = All (λ b. b < 256) bytes
