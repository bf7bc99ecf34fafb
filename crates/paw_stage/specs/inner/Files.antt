-- Where a part of a file lies, and in which folder a file.
use Rattle.std.specs.Prelude.{◌≡◌, ℕ, [], ◌∷◌, take, Option, Some, IfSome, unwrap_or}
use Rattle.std.specs.Io.KnownBytes.{Consumes, Appends}
use Rattle.std.specs.Path.{path_parent}
use Rattle.paw_base.specs.Bytes.{Bytes, Name}

-- A file whose offset was known before stands at this one.
abbrev pub StaysWhereItWas : Option ℕ → Option ℕ → ℕ → Type 0
StaysWhereItWas old new at = IfSome old (λ _. new ≡ Some at)

-- From this offset on a file gave these bytes, or took them, as far as it shows its offset and its bytes.
module _ {F : Type 0} (place : F → Option ℕ) (known : F → Option Bytes) (old new : F) (at : ℕ) (bytes : Bytes) where
  -- A file gave these bytes from this offset on.
  abbrev pub GivesAt : Type 0
  GivesAt = (there : F) × StaysWhereItWas (place old) (place there) at × Consumes (known there) (known new) bytes

  -- A file took these bytes from this offset on.
  abbrev pub TakesAt : Type 0
  TakesAt = (there : F) × StaysWhereItWas (place old) (place there) at × Appends (known there) (known new) bytes

-- A reader that gives these bytes gave the first n of them.
abbrev pub GivesFirst : Option Bytes → ℕ → Bytes → Type 0
GivesFirst known n given = IfSome known (λ bytes. given ≡ take n bytes)

-- The folder of this name; no name is the folder that a program runs in, whose name is a dot.
abbrev pub named_folder : Name → Name
named_folder [] = 46 ∷ []
named_folder (x ∷ xs) = x ∷ xs

-- The folder that the file of a name lies in.
abbrev pub folder_of : Name → Name
folder_of name = named_folder (unwrap_or (path_parent name) [])
