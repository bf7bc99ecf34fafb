use Rattle.std.proofs.Common.{◌≡◌, ◌≤◌, drop}
use Rattle.paw_grammar.specs.Numbers.{number}
use Rattle.paw_grammar.proofs.Digits.{number_after}
use Rattle.paw_grammar.specs.inner.Numbers.{capped_value}
use Rattle.paw_grammar.proofs.numbers.number.Given as goal

abbrev pub invariant-loop-byte : goal.invariant-loop-byte
invariant-loop-byte l = record {
  same : capped_value (number_after l.number (drop l.byte-index l.token)) ≡ capped_value (number l.token);
  small : l.number ≤ 4294967295;
}
