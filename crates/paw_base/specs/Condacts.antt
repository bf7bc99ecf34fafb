-- The condacts: their codes, their names, and what their parameters name.
use Rattle.std.specs.Prelude.{ℕ, ◌+◌, ◌-◌, ◌==◌, ◌&&◌, ◌||◌, if◌then◌else◌, Bool, true, false, List, [], ◌∷◌, length}
use Rattle.std.specs.Prelude.{map, Option, codes, bytes_eq, nat_lt, nat_le, not}
use Rattle.std.specs.List.{slice_index_or, position}
use Rattle.std.specs.Char.{to_ascii_uppercase}
use Rattle.paw_base.specs.Bytes.{Bytes, Name}
use Rattle.paw_base.specs.declared.codes.TheConstants.{INDIRECT, PROCESS, DOALL}
use Rattle.paw_base.specs.declared.rows.ParamKind.{ParamKind}
use Rattle.paw_base.specs.declared.rows.ParamKind.TheVariants.{Absent, Location, Place, Object, Flag}
use Rattle.paw_base.specs.declared.rows.ParamKind.TheVariants.{Number, Message, System, Table, Adverb}
use Rattle.paw_base.specs.declared.rows.ParamKind.TheVariants.{Noun, Adjective, Preposition}

-- A line of the table: its name, what its first and its second parameter name, and whether the condact acts or tests.
pub record CondactLine : Type 0 where
  pub name : Name
  pub first : ParamKind
  pub second : ParamKind
  pub acts : Bool

-- The line of a condition, and below it that of an action.
abbrev pub condition : Name → ParamKind → ParamKind → CondactLine
condition name first second = record { name = name; first = first; second = second; acts = false }

-- The line of an action.
abbrev pub action : Name → ParamKind → ParamKind → CondactLine
action name first second = record { name = name; first = first; second = second; acts = true }

-- The lines of the codes from 0 on, in their order.
unfoldable pub condact_lines : List CondactLine
condact_lines =
    condition (codes "AT") Location Absent ∷  -- 0
    condition (codes "NOTAT") Location Absent ∷  -- 1
    condition (codes "ATGT") Number Absent ∷  -- 2
    condition (codes "ATLT") Number Absent ∷  -- 3
    condition (codes "PRESENT") Object Absent ∷  -- 4
    condition (codes "ABSENT") Object Absent ∷  -- 5
    condition (codes "WORN") Object Absent ∷  -- 6
    condition (codes "NOTWORN") Object Absent ∷  -- 7
    condition (codes "CARRIED") Object Absent ∷  -- 8
    condition (codes "NOTCARR") Object Absent ∷  -- 9
    condition (codes "CHANCE") Number Absent ∷  -- 10
    condition (codes "ZERO") Flag Absent ∷  -- 11
    condition (codes "NOTZERO") Flag Absent ∷  -- 12
    condition (codes "EQ") Flag Number ∷  -- 13
    condition (codes "NOTEQ") Flag Number ∷  -- 14
    condition (codes "GT") Flag Number ∷  -- 15
    condition (codes "LT") Flag Number ∷  -- 16
    condition (codes "SAME") Flag Flag ∷  -- 17
    condition (codes "NOTSAME") Flag Flag ∷  -- 18
    condition (codes "ADJECT1") Adjective Absent ∷  -- 19
    condition (codes "ADVERB") Adverb Absent ∷  -- 20
    condition (codes "PREP") Preposition Absent ∷  -- 21
    condition (codes "NOUN2") Noun Absent ∷  -- 22
    condition (codes "ADJECT2") Adjective Absent ∷  -- 23
    condition (codes "ISAT") Object Place ∷  -- 24
    condition (codes "ISNOTAT") Object Place ∷  -- 25
    condition (codes "TIMEOUT") Absent Absent ∷  -- 26
    condition (codes "QUIT") Absent Absent ∷  -- 27
    condition (codes "MOVE") Flag Absent ∷  -- 28
    action (codes "INVEN") Absent Absent ∷  -- 29
    action (codes "DESC") Absent Absent ∷  -- 30
    action (codes "END") Absent Absent ∷  -- 31
    action (codes "DONE") Absent Absent ∷  -- 32
    action (codes "NOTDONE") Absent Absent ∷  -- 33
    action (codes "OK") Absent Absent ∷  -- 34
    action (codes "ANYKEY") Absent Absent ∷  -- 35
    action (codes "SAVE") Absent Absent ∷  -- 36
    action (codes "LOAD") Absent Absent ∷  -- 37
    action (codes "RAMSAVE") Absent Absent ∷  -- 38
    action (codes "RAMLOAD") Number Absent ∷  -- 39
    action (codes "TURNS") Absent Absent ∷  -- 40
    action (codes "SCORE") Absent Absent ∷  -- 41
    action (codes "DROPALL") Absent Absent ∷  -- 42
    action (codes "AUTOG") Absent Absent ∷  -- 43
    action (codes "AUTOD") Absent Absent ∷  -- 44
    action (codes "AUTOW") Absent Absent ∷  -- 45
    action (codes "AUTOR") Absent Absent ∷  -- 46
    action (codes "AUTOP") Location Absent ∷  -- 47
    action (codes "AUTOT") Location Absent ∷  -- 48
    action (codes "GOTO") Location Absent ∷  -- 49
    action (codes "MES") Message Absent ∷  -- 50
    action (codes "MESSAGE") Message Absent ∷  -- 51
    action (codes "SYSMESS") System Absent ∷  -- 52
    action (codes "NEWLINE") Absent Absent ∷  -- 53
    action (codes "PRINT") Flag Absent ∷  -- 54
    action (codes "GET") Object Absent ∷  -- 55
    action (codes "DROP") Object Absent ∷  -- 56
    action (codes "WEAR") Object Absent ∷  -- 57
    action (codes "REMOVE") Object Absent ∷  -- 58
    action (codes "PUTIN") Object Location ∷  -- 59
    action (codes "TAKEOUT") Object Location ∷  -- 60
    action (codes "CREATE") Object Absent ∷  -- 61
    action (codes "DESTROY") Object Absent ∷  -- 62
    action (codes "SWAP") Object Object ∷  -- 63
    action (codes "PLACE") Object Place ∷  -- 64
    action (codes "PUTO") Place Absent ∷  -- 65
    action (codes "SET") Flag Absent ∷  -- 66
    action (codes "CLEAR") Flag Absent ∷  -- 67
    action (codes "PLUS") Flag Number ∷  -- 68
    action (codes "MINUS") Flag Number ∷  -- 69
    action (codes "LET") Flag Number ∷  -- 70
    action (codes "ADD") Flag Flag ∷  -- 71
    action (codes "SUB") Flag Flag ∷  -- 72
    action (codes "RANDOM") Flag Absent ∷  -- 73
    action (codes "COPYOO") Object Object ∷  -- 74
    action (codes "COPYOF") Object Flag ∷  -- 75
    action (codes "COPYFO") Flag Object ∷  -- 76
    action (codes "COPYFF") Flag Flag ∷  -- 77
    action (codes "LISTOBJ") Absent Absent ∷  -- 78
    action (codes "LISTAT") Place Absent ∷  -- 79
    action (codes "WHATO") Absent Absent ∷  -- 80
    action (codes "WEIGH") Object Flag ∷  -- 81
    action (codes "WEIGHT") Flag Absent ∷  -- 82
    action (codes "ABILITY") Number Number ∷  -- 83
    action (codes "PARSE") Absent Absent ∷  -- 84
    action (codes "PROCESS") Table Absent ∷  -- 85
    action (codes "DOALL") Place Absent ∷  -- 86
    action (codes "PROMPT") Number Absent ∷  -- 87
    action (codes "TIME") Number Number ∷  -- 88
    action (codes "NEWTEXT") Absent Absent ∷  -- 89
    action (codes "RESET") Location Absent ∷  -- 90
    action (codes "EXTERN") Number Flag ∷  -- 91
    action (codes "PICTURE") Number Absent ∷  -- 92
    action (codes "GRAPHIC") Number Absent ∷  -- 93
    action (codes "BEEP") Number Number ∷  -- 94
    action (codes "CLS") Absent Absent ∷  -- 95
    action (codes "PAPER") Number Absent ∷  -- 96
    action (codes "INK") Number Absent ∷  -- 97
    action (codes "BORDER") Number Absent ∷  -- 98
    action (codes "CHARSET") Number Absent ∷  -- 99
    action (codes "PROTECT") Absent Absent ∷  -- 100
    action (codes "SAVEAT") Absent Absent ∷  -- 101
    action (codes "BACKAT") Absent Absent ∷  -- 102
    action (codes "PRINTAT") Number Number ∷  -- 103
    action (codes "PAUSE") Number Absent ∷  -- 104
    action (codes "MODE") Number Number ∷  -- 105
    action (codes "LINE") Number Absent ∷  -- 106
    action (codes "INPUT") Number Absent ∷  -- 107
    []

-- Whether a number is a plain code: the number of one of the lines, counted from 0.
unfoldable pub is_plain_code : ℕ → Bool
is_plain_code code = nat_lt code (length condact_lines)

-- A line with no name and no parameters.
abbrev pub no_line : CondactLine
no_line = action [] Absent Absent

-- The line of a plain code; for any other number, a line with no name and no parameters.
unfoldable pub plain_line : ℕ → CondactLine
plain_line code = slice_index_or condact_lines code no_line

-- How many parameters a kind stands for: 1, or 0 for Absent.
abbrev pub param_count : ParamKind → ℕ
param_count Absent = 0
param_count _ = 1

-- Whether the condact of a plain code may take its first parameter from a flag: it has one, and isn't PROCESS or DOALL.
abbrev pub may_be_indirect : ℕ → Bool
may_be_indirect code = nat_lt 0 (param_count (plain_line code).first) && not ((code == PROCESS) || (code == DOALL))

-- Whether a code is that of an indirect condact: the code of the plain one, plus 128.
unfoldable pub is_indirect : ℕ → Bool
is_indirect code = nat_le INDIRECT code && may_be_indirect (code - INDIRECT)

-- Whether a number is the code of a condact, plain or indirect.
abbrev pub is_code : ℕ → Bool
is_code code = is_plain_code code || is_indirect code

-- The plain code for a code: the code itself, or 128 less where it is indirect.
abbrev pub plain_code : ℕ → ℕ
plain_code code = if is_indirect code then code - INDIRECT else code

-- The line of the indirect condact with this plain code: its first parameter is a flag.
abbrev pub indirect_line : ℕ → CondactLine
indirect_line code = record (plain_line code) { first = Flag }

-- The line of a code, plain or indirect; for any other number, a line with no name and no parameters.
unfoldable pub line_of : ℕ → CondactLine
line_of code = if is_indirect code then indirect_line (code - INDIRECT) else plain_line code

-- The name of a code.
abbrev pub name_of : ℕ → Name
name_of code = (line_of code).name

-- What the first parameter of a code names.
abbrev pub first_kind : ℕ → ParamKind
first_kind code = (line_of code).first

-- What the second parameter of a code names.
abbrev pub second_kind : ℕ → ParamKind
second_kind code = (line_of code).second

-- How many parameters a code has: 0 to 2.
abbrev pub params_of : ℕ → ℕ
params_of code = param_count (first_kind code) + param_count (second_kind code)

-- A name with the letters a to z as capitals.
abbrev pub capitals : Bytes → Bytes
capitals name = map to_ascii_uppercase name

-- The least code with this name, in any case of letters, if there is one.
abbrev pub code_named : Name → Option ℕ
code_named name = position (λ line. bytes_eq line.name (capitals name)) condact_lines
