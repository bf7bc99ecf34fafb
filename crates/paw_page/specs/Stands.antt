-- What stands where a page asks, before the command and after it.
use Rattle.std.specs.Prelude.{ℕ, List, [], ◌∷◌, Option, Some, None, fold}
use Rattle.paw_base.specs.Bytes.{Bytes, Name, Names}
use Rattle.paw_stage.specs.Disk.{stable}
use Rattle.paw_stage.specs.Stage.{Files, Standing, file_holding}
use Rattle.paw_page.specs.Request.{PageRequest}

-- The files, once another is there, in the place of one of its name.
abbrev pub with_entry : Files → Name × Bytes → Files
with_entry files entry = file_holding entry.0 (Some entry.1) files

-- What stands before the command: the files of the request and its lines. No store is attached, and nothing was shown.
abbrev pub standing_before : PageRequest → Standing
standing_before r = record {
  files = fold with_entry (λ name. None) r.files;
  lines = r.lines;
  asked = 0;
  shown = [];
  attached = None;
  disk = stable [];
  written = 0;
}

-- The bytes of the file that the third word names, of what stands; nothing where there is no such file or no such word.
abbrev pub file_left : Names → Standing → Option Bytes
file_left (command ∷ first ∷ name ∷ words) s = s.files name
file_left _ s = None
