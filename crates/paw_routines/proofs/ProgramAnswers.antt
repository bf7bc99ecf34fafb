-- The answers of the routines of the programs.
use Rattle.std.proofs.Common.{◌≡◌, ℕ, ◌<◌, ◌-◌, ◌/◌, ◌==◌, Bool, true, false, count_ones, if◌then◌else◌, arith}
use Rattle.std.specs.Fn.{Shared}
use Rattle.std.proofs.lemmas.Nat.{ones_le_self}
use Rattle.paw_base.specs.Bytes.{RoutineAnswers}
use Rattle.paw_routines.specs.Answers.{StandFor}
use Rattle.paw_routines.proofs.FunctionAnswers.{answers_of, stand_for}
use Rattle.paw_routines.specs.Program.{program_routine}

small_in : (a b : Bool) (x : ℕ) → x < 256 → (if a then 255 - x else if b then x / 2 else count_ones x) < 256
small_in true b x small = omega arith
small_in false true x small = omega arith
small_in false false x small = omega (arith, ones_le_self x)

-- Answers stand for this number of routines, which may be called everywhere and give these values.
pub given_stand : {F : Type 0} {count : ℕ} (calls : Shared F (ℕ × (ℕ × Unit {0})) ℕ) (f : F)
    → ((n x : ℕ) → n < count → x < 256 → calls.pre f (n, (x, tt)))
    → ((n x y : ℕ) → n < count → x < 256 → y < 256 → calls.post f (n, (x, tt)) y → y ≡ program_routine n x)
    → (X : RoutineAnswers) × StandFor calls f count X
given_stand {F} {count} calls f callable gives =
    (answers_of program_routine count, stand_for calls f program_routine count (λ n x below small. small_in (n == 0) (n == 1) x small) callable gives)
