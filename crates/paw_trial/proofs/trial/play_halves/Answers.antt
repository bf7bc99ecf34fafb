use Rattle.std.proofs.Common.{ℕ, [], refl, arith}
use Rattle.std.specs.Fn.{Shared}
use Rattle.paw_routines.specs.Answers.{StandFor}
use Rattle.paw_trial.proofs.trial.play_halves.Goals as goal

-- Where there are no routines, no answers stand for them.
none_stand : {F : Type 0} (calls : Shared F (ℕ × (ℕ × Unit {0})) ℕ) (f : F) → StandFor calls f 0 []
none_stand calls f = record {
  one_each = refl;
  whole = λ n d low. absurd (omega (arith, low));
  bytes = λ n d low. absurd (omega (arith, low));
  may_call = λ n x low small. absurd (omega (arith, low));
  agree = λ n x y low small byte called. absurd (omega (arith, low));
}

pub play_half-requires-clause-answers : goal.play_half-requires-clause-answers
play_half-requires-clause-answers c = c.new-routines.ensures.answers [] (none_stand _ _)

pub play_half-requires-2-clause-answers : goal.play_half-requires-2-clause-answers
play_half-requires-2-clause-answers c = c.new-routines.ensures.answers [] (none_stand _ _)
