use Rattle.std.proofs.Common.{◌≡◌, map, take}
use Rattle.paw_stage.specs.inner.Memory.{standing_of}
use Rattle.paw_page.specs.inner.Read.{entry_of}
use Rattle.paw_page.specs.inner.Standing.{with_entries}
use Rattle.paw_page.proofs.stage.add_files.Given as goal

abbrev pub invariant-loop-file : goal.invariant-loop-file
invariant-loop-file l = standing_of l.stage ≡ with_entries (map entry_of (take l.file-index l.files)) (standing_of l.initial.stage)
