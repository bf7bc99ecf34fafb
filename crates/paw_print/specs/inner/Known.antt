-- The condacts whose codes have a row in the table of condacts.
use Rattle.std.specs.Prelude.{List}
use Rattle.std.specs.List.{AllByRecursion}
use Rattle.paw_base.specs.declared.parts.Condact.{Condact}
use Rattle.paw_base.specs.inner.Condacts.{IsCode}
use Rattle.paw_game.specs.declared.parts.Entry.{Entry}

-- The code of a condact has a row in the table of condacts.
abbrev pub IsKnown : Condact → Type 0
IsKnown c = IsCode c.code

-- An entry has only such condacts.
abbrev pub IsKnownEntry : Entry → Type 0
IsKnownEntry e = AllByRecursion IsKnown e.condacts

-- A table has only such entries.
abbrev pub IsKnownTable : List Entry → Type 0
IsKnownTable es = AllByRecursion IsKnownEntry es
