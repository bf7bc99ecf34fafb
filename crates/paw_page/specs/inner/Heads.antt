-- What stands at the head of some bytes.
use Rattle.std.specs.Prelude.{◌≡◌, ◌≢◌, ◌++◌, ℕ, List, length}
use Rattle.std.specs.List.{All, flat_map}
use Rattle.paw_base.specs.Bytes.{Bytes}

-- The bytes begin with those of x, for which this holds; the rest follows.
abbrev pub HasAtHead : {A : Type 0} → (A → Bytes) → (A → Type 0) → Bytes → A → Bytes → Type 0
HasAtHead bytes_of Is bytes x rest = (bytes ≡ bytes_of x ++ rest) × Is x

-- The bytes begin with nothing of the kind.
abbrev pub HasNoneAtHead : {A : Type 0} → (A → Bytes) → (A → Type 0) → Bytes → Type 0
HasNoneAtHead bytes_of Is bytes = (x : _) (rest : Bytes) → Is x → bytes ≢ bytes_of x ++ rest

-- Of a list that follows, these n were read; the rest is left.
pub record IsReadSoFar {A : Type 0} (bytes_of : A → Bytes) (Is : A → Type 0) (bytes : Bytes) (n : ℕ) (xs : List A) (rest : Bytes)
    : Type 0 where
  pub same : bytes ≡ flat_map bytes_of xs ++ rest
  pub count : length xs ≡ n
  pub each : All Is xs
