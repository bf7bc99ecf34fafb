-- What a page learns of a command, and the bytes that say it.
use Rattle.std.specs.Prelude.{List, [], ◌∷◌, ◌++◌, Option, None, Some}
use Rattle.paw_base.specs.Bytes.{Bytes, Text}
use Rattle.paw_top.specs.Outcomes.{error_text, status_of}
use Rattle.paw_top.specs.declared.outcome.Outcome.{Outcome}
use Rattle.paw_page.specs.Request.{part_bytes}

-- A file that may be there: 0 where it isn't, and otherwise 1 and its bytes.
abbrev pub left_bytes : Option Bytes → Bytes
left_bytes None = 0 ∷ []
left_bytes (Some bytes) = 1 ∷ part_bytes bytes

-- The bytes of a reply: the exit status, what is said on standard error, the text shown, and the file that is left.
abbrev pub reply_bytes : Outcome → Text → Option Bytes → Bytes
reply_bytes o shown left = status_of o ∷ (part_bytes (error_text o) ++ (part_bytes shown ++ left_bytes left))
