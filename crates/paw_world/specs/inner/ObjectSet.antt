-- A set of numbers from 0 to 255, kept as four words of 64 bits.
use Rattle.std.specs.Prelude.{◌≡◌, ℕ, ◌/◌, ◌%◌, ◌<◌, ◌≤◌, List, Option, Some, None, slice_index}
use Rattle.std.specs.Int.{bit_at}

-- The bit of a number: 1 where it is in the set.
abbrev pub member : List ℕ → ℕ → ℕ
member words o = bit_at (slice_index words (o / 64)) (o % 64)

-- The number is in the set, and the others are in it as before.
pub record Inserts (o : ℕ) (old new : List ℕ) : Type 0 where
  pub inside : member new o ≡ 1
  pub others : (k : ℕ) → k < 256 → (k ≡ o → ⊥) → member new k ≡ member old k

-- The number isn't in the set, and the others are in it as before.
pub record Removes (o : ℕ) (old new : List ℕ) : Type 0 where
  pub outside : member new o ≡ 0
  pub others : (k : ℕ) → k < 256 → (k ≡ o → ⊥) → member new k ≡ member old k

-- The least number of the set that isn't below `from`; nothing where there is none from there up to `end`.
pub data IsLeastFrom (words : List ℕ) (from end : ℕ) : Option ℕ → Type 0 where
  found : (o : ℕ) → from ≤ o → o < 256 → member words o ≡ 1 → ((k : ℕ) → from ≤ k → k < o → member words k ≡ 0) →
      IsLeastFrom words from end (Some o)
  none : ((k : ℕ) → from ≤ k → k < end → member words k ≡ 0) → IsLeastFrom words from end None

-- The lowest bit of a word that is 1 and isn't below this one; nothing where there is none.
pub data IsLowestFrom (word : ℕ) (from : ℕ) : Option ℕ → Type 0 where
  lowest : (b : ℕ) → from ≤ b → b < 64 → bit_at word b ≡ 1 → ((k : ℕ) → from ≤ k → k < b → bit_at word k ≡ 0) →
      IsLowestFrom word from (Some b)
  no_bit : ((k : ℕ) → from ≤ k → k < 64 → bit_at word k ≡ 0) → IsLowestFrom word from None
