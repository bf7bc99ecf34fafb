use Rattle.std.proofs.Common.{arith, ◌<◌, ◌≡◌, ◌+◌, ◌%◌, ℕ}
use Rattle.paw_routines.proofs.FunctionAnswers.{answers_of, stand_for}
use Rattle.paw_reading.proofs.tests.called_routines.an_answer_that_is_told_modulo_256.Goals as goal

-- What each routine gives.
given : ℕ → ℕ → ℕ
given n x = (x + 1) % 256

given_small : (n x : ℕ) → given n x < 256
unfolding given
given_small n x = omega arith

told : (x y : ℕ) → y < 256 → y % 256 ≡ (x + 1) % 256 → y ≡ (x + 1) % 256
told x y byte h = omega (arith, byte, h)

pub new-routines-requires : goal.new-routines-requires
unfolding given
new-routines-requires g c = record {
  answers = (
    answers_of given 5,
    stand_for _ _ given 5 (λ n x below small. given_small n x) (λ n x below small. tt) (λ n x y below small byte called. told x y byte called),
  );
}
