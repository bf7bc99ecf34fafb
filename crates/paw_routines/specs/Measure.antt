-- The digest by which answers are known.
use Rattle.std.specs.Prelude.{◌∷◌, length}
use Rattle.std.specs.List.{concat}
use Rattle.sha2.specs.Sha256.{sha256}
use Rattle.paw_base.specs.Bytes.{Bytes, RoutineAnswers}

-- The measure of answers: the SHA-256 of one byte, the number of routines, followed by their answers in order.
abbrev pub measure : RoutineAnswers → Bytes
measure answers = sha256 (length answers ∷ concat answers)
