-- The request that code reads.
use Rattle.std.specs.Prelude.{map, string_bytes, List}
use Rattle.paw_base.specs.Bytes.{Bytes, Name}
use Rattle.paw_page.specs.Request.{PageRequest}
use Rattle.paw_page.specs.declared.request.PageFile.{PageFile}
use Rattle.paw_page.specs.declared.request.HeldRequest.{HeldRequest}

-- The name and the bytes of a file.
abbrev pub entry_of : PageFile → Name × Bytes
entry_of file = (string_bytes file.name, file.bytes)

-- What the code's request asks for.
abbrev pub asked_by : HeldRequest → PageRequest
asked_by r = record { words = map string_bytes r.words.items; files = map entry_of r.files.items; lines = r.lines.items }
