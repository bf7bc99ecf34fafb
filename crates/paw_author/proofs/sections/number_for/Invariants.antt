use Rattle.std.proofs.Common.{◌≡◌, ◌≤◌, drop}
use Rattle.paw_author.specs.Sections.{number_after}
use Rattle.paw_author.proofs.sections.number_for.Given as goal

abbrev pub invariant-loop-byte : goal.invariant-loop-byte
invariant-loop-byte l = record {
  same : number_after l.number (drop l.byte-index l.word) ≡ number_after 0 l.word;
  small : l.number ≤ 256;
}
