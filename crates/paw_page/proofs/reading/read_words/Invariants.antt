use Rattle.std.proofs.Common.{map, string_bytes}
use Rattle.paw_page.specs.Request.{part_bytes, IsTextPart}
use Rattle.paw_page.specs.inner.Heads.{IsReadSoFar}
use Rattle.paw_page.specs.inner.Read.{entry_of}
use Rattle.paw_page.proofs.reading.read_words.Given as goal

abbrev pub invariant-loop-taken : goal.invariant-loop-taken
invariant-loop-taken l = IsReadSoFar part_bytes IsTextPart l.initial.rest l._taken (map string_bytes l.words.items) l.rest
