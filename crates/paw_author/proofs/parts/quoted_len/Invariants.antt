use Rattle.std.proofs.Common.{◌≡◌, ◌+◌, true, drop}
use Rattle.paw_author.specs.Parts.{quoted_len}
use Rattle.paw_author.proofs.parts.quoted_len.Given as goal

abbrev pub invariant-loop-byte : goal.invariant-loop-byte
invariant-loop-byte l = record {
  same : l.len + quoted_len l.inside (drop l.byte-index l.text) ≡ quoted_len true l.text;
  counted : l.len ≡ l.byte-index;
}
