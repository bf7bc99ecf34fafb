-- What an outcome says to the system and to a person.
use Rattle.std.specs.Prelude.{ℕ, [], ◌++◌, codes}
use Rattle.std.specs.Fmt.{decimal}
use Rattle.hex.specs.Hex.{encode_lower}
use Rattle.paw_base.specs.Bytes.{Bytes, Name, Text}
use Rattle.paw_base.specs.declared.fault.SourceKind.{SourceKind}
use Rattle.paw_base.specs.declared.fault.SourceKind.TheVariants as kind
use Rattle.paw_base.specs.declared.fault.SpentKind.{SpentKind}
use Rattle.paw_base.specs.declared.fault.SpentKind.TheVariants as spent
use Rattle.paw_stage.specs.declared.StageCall.{StageCall}
use Rattle.paw_stage.specs.declared.StageCall.TheVariants as call
use Rattle.paw_journal.specs.declared.refusal.SessionPart.{SessionPart}
use Rattle.paw_journal.specs.declared.refusal.SessionPart.TheVariants as part
use Rattle.paw_top.specs.Commands.{usage}
use Rattle.paw_top.specs.declared.outcome.Outcome.{Outcome}
use Rattle.paw_top.specs.declared.outcome.Outcome.TheVariants as outcome
use Rattle.paw_top.specs.declared.outcome.MemoryAt.{MemoryAt}
use Rattle.paw_top.specs.declared.outcome.MemoryAt.TheVariants as memory

-- The exit status of the program; Done, Ended and InputEnded are 0.
abbrev pub status_of : Outcome → ℕ
status_of outcome.Usage = 1
status_of (outcome.SourceRefused fault) = 2
status_of outcome.TextTooLong = 2
status_of (outcome.ImageDamaged at) = 3
status_of (outcome.Occupied n) = 4
status_of (outcome.Unmade n mark) = 4
status_of (outcome.SessionDamaged p at) = 4
status_of (outcome.WrongGame kept found) = 4
status_of (outcome.WrongRoutines kept found) = 4
status_of (outcome.Spent kind) = 5
status_of (outcome.TooDeep table) = 6
status_of (outcome.Outside c) = 7
status_of (outcome.Memory at) = 8
status_of (outcome.Long events) = 9
status_of _ = 0

-- The name of a kind of fault that a source may have.
abbrev pub kind_name : SourceKind → Name
kind_name kind.Section = codes "Section"
kind_name kind.Word = codes "Word"
kind_name kind.Number = codes "Number"
kind_name kind.Range = codes "Range"
kind_name kind.Duplicate = codes "Duplicate"
kind_name kind.Missing = codes "Missing"
kind_name kind.Extra = codes "Extra"
kind_name kind.Condact = codes "Condact"
kind_name kind.Text = codes "Text"
kind_name kind.TooBig = codes "TooBig"

-- The name of a part of a session that may be damaged.
abbrev pub part_name : SessionPart → Name
part_name part.Header = codes "Header"
part_name part.Slot = codes "Slot"
part_name part.State = codes "State"

-- The name of what a piece may spend.
abbrev pub spent_name : SpentKind → Name
spent_name spent.Condacts = codes "condacts"
spent_name spent.Text = codes "text"

-- The name of a call of the stage.
abbrev pub call_name : StageCall → Name
call_name call.Load = codes "Load"
call_name call.LoadAbsent = codes "LoadAbsent"
call_name call.Save = codes "Save"
call_name call.Attach = codes "Attach"
call_name call.Read = codes "Read"
call_name call.Write = codes "Write"
call_name call.Sync = codes "Sync"
call_name call.Ask = codes "Ask"
call_name call.Show = codes "Show"

-- The name of what memory was lacking for.
abbrev pub memory_name : MemoryAt → Name
memory_name memory.Load = codes "Load"
memory_name memory.Source = codes "Source"
memory_name memory.Print = codes "Print"
memory_name memory.Image = codes "Image"
memory_name memory.Play = codes "Play"
memory_name memory.Trial = codes "Trial"
memory_name memory.Check = codes "Check"
memory_name memory.Wrap = codes "Wrap"

-- The line that names the digest that a session keeps and the one that was found, in hexadecimal digits.
abbrev pub digests_line : Text → Bytes → Bytes → Text
digests_line said kept found =
    said ++ (codes ": kept " ++ (encode_lower kept ++ (codes " found " ++ (encode_lower found ++ codes "\n"))))

-- What is written to standard error; nothing for Done, Ended and InputEnded.
abbrev pub error_text : Outcome → Text
error_text outcome.Usage = usage
error_text (outcome.SourceRefused fault) = codes "source line "
    ++ (decimal fault.line ++ (codes ": " ++ (kind_name fault.kind ++ codes "\n")))
error_text outcome.TextTooLong = codes "text is too long\n"
error_text (outcome.ImageDamaged at) = codes "image damaged at " ++ (decimal at ++ codes "\n")
error_text (outcome.Occupied n) = codes "session has " ++ (decimal n ++ codes " bytes already\n")
error_text (outcome.Unmade n mark) = codes "no session: length "
    ++ (decimal n ++ (codes ", mark " ++ (decimal mark ++ codes "\n")))
error_text (outcome.SessionDamaged p at) = codes "session damaged: "
    ++ (part_name p ++ (codes " at " ++ (decimal at ++ codes "\n")))
error_text (outcome.WrongGame kept found) = digests_line (codes "session is of another game") kept found
error_text (outcome.WrongRoutines kept found) = digests_line (codes "session has other routines") kept found
error_text (outcome.Spent kind) = codes "piece spent its " ++ (spent_name kind ++ codes "\n")
error_text (outcome.TooDeep table) = codes "too many calls at table " ++ (decimal table ++ codes "\n")
error_text (outcome.Outside c) = codes "outside failed: " ++ (call_name c ++ codes "\n")
error_text (outcome.Memory at) = codes "no memory: " ++ (memory_name at ++ codes "\n")
error_text (outcome.Long events) = codes "session is full: " ++ (decimal events ++ codes " events\n")
error_text _ = []
