-- What stands once files or lines were added.
use Rattle.std.specs.Prelude.{List, ◌++◌, fold}
use Rattle.paw_base.specs.Bytes.{Bytes, Lines, Name}
use Rattle.paw_stage.specs.Stage.{Standing}
use Rattle.paw_page.specs.Stands.{with_entry}

-- What stands once these files are there too.
abbrev pub with_entries : List (Name × Bytes) → Standing → Standing
with_entries entries s = record s { files = fold with_entry s.files entries }

-- What stands once these lines are left too, after the others.
abbrev pub with_more_lines : Lines → Standing → Standing
with_more_lines lines s = record s { lines = s.lines ++ lines }
