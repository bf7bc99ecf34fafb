use Rattle.std.proofs.Common.{◌≡◌, ◌++◌, true, drop}
use Rattle.paw_author.specs.Tokens.{unquoted_from}
use Rattle.paw_author.proofs.tokens.unquoted_behind.Given as goal

abbrev pub invariant-loop-byte : goal.invariant-loop-byte
invariant-loop-byte l = l.bytes.items ++ unquoted_from l.inside (drop l.byte-index l.rest) ≡ unquoted_from true l.rest
