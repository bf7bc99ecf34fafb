-- The answers of routines.
use Rattle.std.specs.Prelude.{◌≡◌, ℕ, ◌<◌, length, All, Option, None, Some, slice_get, slice_index}
use Rattle.std.specs.Fn.{Shared}
use Rattle.paw_base.specs.Bytes.{Bytes, RoutineAnswers}

-- The answer at an index, if there are answers.
abbrev pub value_in : Option Bytes → ℕ → Option ℕ
value_in None x = None
value_in (Some own) x = Some (slice_index own x)

-- The answer of routine n to x; nothing where there is no such routine.
abbrev pub value_at : RoutineAnswers → ℕ → ℕ → Option ℕ
value_at answers n x = value_in (slice_get answers n) x

-- Answers stand for the first `count` routines of f: 256 bytes for each. Each of these routines of f may be called on
-- each value from 0 to 255, and a byte that it may answer there is the one that stands for it at that value.
pub record StandFor {F : Type 0} (calls : Shared F (ℕ × (ℕ × Unit {0})) ℕ) (f : F) (count : ℕ)
    (answers : RoutineAnswers) : Type 0 where
  pub one_each : length answers ≡ count
  pub whole : All (λ own. length own ≡ 256) answers
  pub bytes : All (λ own. All (λ y. y < 256) own) answers
  pub may_call : (n x : ℕ) → n < count → x < 256 → calls.pre f (n, (x, tt))
  pub agree : (n x y : ℕ) → n < count → x < 256 → y < 256 → calls.post f (n, (x, tt)) y → value_at answers n x ≡ Some y
