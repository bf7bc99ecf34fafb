use Rattle.std.proofs.Common.{◌≡◌, length, drop}
use Rattle.paw_wrap.specs.FirstFit.{line_feed, with_byte}
use Rattle.paw_wrap.proofs.columns.wrap.Given as goal

-- An LF at each break that is left gives the whole.
abbrev pub invariant-loop-at : goal.invariant-loop-at
invariant-loop-at l = record {
  size : length l.bytes.items ≡ length l.text;
  left : with_byte line_feed (drop l.at-index l.at-items) l.bytes.items ≡ with_byte line_feed l.at-items l.text;
}
