use Rattle.std.proofs.Common.{◌≡◌, ◌+◌, ◌-◌, []}
use Rattle.std.specs.Prelude.{Option}
use Rattle.paw_base.specs.Bytes.{Bytes}
use Rattle.paw_stage.specs.inner.Input.{bytes_unread, longest_line}
use Rattle.paw_stage.specs.inner.LineParts.{Gathers}
use Rattle.paw_stage.proofs.input.LineReader.read_on.Given as goal

abbrev pub invariant-loop-begun : goal.invariant-loop-begun
invariant-loop-begun g l = record {
  empty : l.self.ahead ≡ [];
  rest : l.self.broken ≡ l.initial.self.broken;
  gathered : (first : Option Bytes) →
      Gathers first (bytes_unread g.R.Read.remaining l.initial.self) l.initial.into l.initial.begun.len l.initial.begun.ends_with_return →
      Gathers first (bytes_unread g.R.Read.remaining l.self) l.into l.begun.len l.begun.ends_with_return;
}

abbrev pub decreases-loop-begun : goal.decreases-loop-begun
decreases-loop-begun g l = longest_line + 2 - l.begun.len
