use Rattle.std.proofs.Common.{◌≡◌, drop, slice_get}
use Rattle.paw_author.specs.Tokens.{line_tokens}
use Rattle.paw_author.proofs.tokens.token.Given as goal

abbrev pub invariant-loop-part : goal.invariant-loop-part
invariant-loop-part l = slice_get (line_tokens (drop l.part-index l.line)) l.skipped ≡ slice_get (line_tokens l.line) l.index
