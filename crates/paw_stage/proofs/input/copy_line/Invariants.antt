use Rattle.std.proofs.Common.{◌≡◌, ◌+◌, ◌++◌, take}
use Rattle.paw_stage.specs.inner.LineParts.{HasNoEnd}
use Rattle.paw_stage.proofs.input.copy_line.Given as goal

abbrev pub invariant-loop-at : goal.invariant-loop-at
invariant-loop-at l = record {
  copied : take (l.to + l.at) l.into ≡ take l.to l.initial.into ++ take l.at l.bytes;
  plain : HasNoEnd (take l.at l.bytes);
}
