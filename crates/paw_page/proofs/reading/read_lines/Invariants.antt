use Rattle.std.proofs.Common.{map, string_bytes}
use Rattle.paw_page.specs.Request.{part_bytes, IsPart}
use Rattle.paw_page.specs.inner.Heads.{IsReadSoFar}
use Rattle.paw_page.specs.inner.Read.{entry_of}
use Rattle.paw_page.proofs.reading.read_lines.Given as goal

abbrev pub invariant-loop-taken : goal.invariant-loop-taken
invariant-loop-taken l = IsReadSoFar part_bytes IsPart l.initial.rest l._taken l.lines.items l.rest
