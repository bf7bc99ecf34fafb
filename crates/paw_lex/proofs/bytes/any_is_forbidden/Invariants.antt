use Rattle.std.proofs.Common.{◌≡◌, not, take}
use Rattle.std.specs.List.{list_any}
use Rattle.paw_lex.specs.Bytes.{is_allowed}
use Rattle.paw_lex.proofs.bytes.any_is_forbidden.Given as goal

abbrev pub invariant-loop-byte : goal.invariant-loop-byte
invariant-loop-byte l = l.any ≡ list_any (λ b. not (is_allowed l.text b)) (take l.byte-index l.line)
