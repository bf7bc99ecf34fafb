-- Files that authors write.
use Rattle.std.specs.Prelude.{List}
use Rattle.paw_base.specs.Bytes.{Bytes, Name}

-- A file: its name, as lines name it that include it, and its bytes.
pub record NamedFile : Type 0 where
  pub name : Name
  pub bytes : Bytes

-- Files in their order.
abbrev pub NamedFiles : Type 0
NamedFiles = List NamedFile
