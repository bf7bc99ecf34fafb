-- Numbers: definitions for contracts and proofs, besides those of specs/Numbers.antt.
use Rattle.std.specs.Prelude.{ℕ, min, Option, Some, None}
use Rattle.paw_base.specs.declared.fault.SourceKind.TheVariants as kind
use Rattle.paw_grammar.specs.Tokens.{Reads, read_by}
use Rattle.paw_grammar.specs.Numbers.{number}

-- A number as four bytes hold it: 4,294,967,295 stands for every number above it too.
abbrev pub capped_value : Option ℕ → Option ℕ
capped_value None = None
capped_value (Some n) = Some (min n 4294967295)

-- The next number, as four bytes hold it.
abbrev pub capped_number : Reads ℕ
capped_number ts = read_by kind.Number (λ t. capped_value (number t)) ts
