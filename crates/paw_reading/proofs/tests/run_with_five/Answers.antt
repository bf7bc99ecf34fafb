use Rattle.std.proofs.Common.{arith, ◌<◌, ◌+◌, ◌*◌, ◌%◌, rules, ℕ}
use Rattle.paw_routines.proofs.FunctionAnswers.{answers_of, stand_for}
use Rattle.paw_reading.proofs.tests.run_with_five.Goals as goal

-- What each routine gives.
given : ℕ → ℕ → ℕ
given n x = ((x * 2) % 256 + n) % 256

given_small : (n x : ℕ) → given n x < 256
unfolding given
given_small n x = omega arith

pub new-routines-requires : goal.new-routines-requires
unfolding given
new-routines-requires g c =
    record {
      answers = (
        answers_of given 5,
        stand_for _ _ given 5 (λ n x below small. given_small n x) (λ n x below small. tt) (λ n x y below small byte called. search rules),
      );
    }
