use Rattle.std.proofs.Common.{map, string_bytes}
use Rattle.paw_page.specs.Request.{entry_bytes, IsEntry}
use Rattle.paw_page.specs.inner.Heads.{IsReadSoFar}
use Rattle.paw_page.specs.inner.Read.{entry_of}
use Rattle.paw_page.proofs.reading.read_files.Given as goal

abbrev pub invariant-loop-taken : goal.invariant-loop-taken
invariant-loop-taken l = IsReadSoFar entry_bytes IsEntry l.initial.rest l._taken (map entry_of l.files.items) l.rest
