-- The answers of the program's routines stand for them.
use Rattle.std.proofs.Common.{◌≡◌, ℕ, ◌<◌, Option, sym, ap, ◌∙◌}
use Rattle.std.specs.Prelude.{Some, None, IfSome}
use Rattle.std.specs.Fn.{Shared}
use Rattle.paw_base.specs.Bytes.{RoutineAnswers}
use Rattle.paw_routines.specs.Answers.{StandFor}
use Rattle.paw_routines.specs.Program.{program_routine}
use Rattle.paw_routines.specs.declared.program.TheConstants.{ROUTINES}
use Rattle.paw_page.specs.Answers.{AreProgramAnswers}

pub program_stands : {F : Type 0} (calls : Shared F (ℕ × (ℕ × Unit {0})) ℕ) (f : F) (answers : RoutineAnswers) → AreProgramAnswers answers
    → ((n x : ℕ) → n < ROUTINES → x < 256 → calls.pre f (n, (x, tt)))
    → ((n x y : ℕ) → n < ROUTINES → x < 256 → y < 256 → calls.post f (n, (x, tt)) y → y ≡ program_routine n x)
    → StandFor calls f ROUTINES answers
program_stands calls f answers are callable gives = record {
  one_each = are.one_each;
  whole = are.whole;
  bytes = are.bytes;
  may_call = callable;
  agree = λ n x y below small byte called.
      are.values n x below small ∙ ap (λ (v : ℕ). Some v) (sym (gives n x y below small byte called));
}

-- What holds of a value that may be there, where it follows.
pub if_some : {A : Type 0} (P Q : A → Type 0) (found : Option A) → ((a : A) → P a → Q a) → IfSome found P → IfSome found Q
if_some P Q None follows h = tt
if_some P Q (Some a) follows h = follows a h
