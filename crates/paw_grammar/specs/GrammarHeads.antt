-- Lines that begin with `/`: headers and items.
use Rattle.std.specs.Prelude.{ℕ, suc, ◌==◌, ◌&&◌, ◌||◌, Bool, false, not, [], ◌∷◌, ◌++◌, length}
use Rattle.std.specs.Prelude.{nat_lt, if◌then◌else◌, Option, Some, None, Result, Ok, Err, codes}
use Rattle.paw_base.specs.Bytes.{Name, Token, Tokens}
use Rattle.paw_base.specs.declared.limits.TheConstants.{TABLE_LIMIT}
use Rattle.paw_base.specs.declared.fault.SourceKind.{SourceKind}
use Rattle.paw_base.specs.declared.fault.SourceKind.TheVariants as kind
use Rattle.paw_grammar.specs.declared.section.Section.{Section}
use Rattle.paw_grammar.specs.declared.section.Section.TheVariants as section
use Rattle.paw_read_error.specs.Bind.{◌>>=◌}
use Rattle.paw_grammar.specs.Tokens.{end_of_line, is_named}
use Rattle.paw_grammar.specs.Numbers.{number_below}
use Rattle.paw_grammar.specs.GrammarState.{Spelt, all_exits}
use Rattle.paw_grammar.specs.GrammarTexts.{text_item, text_limit, texts_of, with_texts}

-- ---- headers ----

-- The header that follows a section, and the section that it opens. A table follows objects or another table.
abbrev pub next_header : Section → Name × Section
next_header section.Before = (codes "/VOC", section.Voc)
next_header section.Voc = (codes "/STX", section.Stx)
next_header section.Stx = (codes "/MTX", section.Mtx)
next_header section.Mtx = (codes "/OTX", section.Otx)
next_header section.Otx = (codes "/LTX", section.Ltx)
next_header section.Ltx = (codes "/CON", section.Con)
next_header section.Con = (codes "/OBJ", section.Obj)
next_header _ = (codes "/PRO", section.Pro)

-- What is spelled once a section opens.
abbrev pub section_opened : Section → Spelt → Spelt
section_opened s d = record d { section = s; begun = false }

-- A header of one token opens its section.
abbrev pub plain_header : Section → Spelt → Tokens → Result Spelt SourceKind
plain_header s d ts = end_of_line ts >>= λ _. Ok (section_opened s d)

-- The header of exits: they lead from location to location, so there has to be a location.
abbrev pub con_header : Spelt → Tokens → Result Spelt SourceKind
con_header d ts = end_of_line ts >>= λ _.
    if length d.locations == 0 then Err kind.Missing else Ok (section_opened section.Con d)

-- Whether no table has begun and an object still lacks its row.
abbrev pub lacks_rows : Spelt → Bool
lacks_rows d = (length d.tables == 0) && nat_lt (length d.facts) (length d.names)

-- The header of a table: two tokens, of which the second is the number of the next table.
abbrev pub pro_header : Spelt → Tokens → Result Spelt SourceKind
pro_header d ts =
    number_below TABLE_LIMIT ts >>= λ n.
    if not (n.0 == length d.tables) then Err kind.Section
    else end_of_line n.1 >>= λ _.
    if lacks_rows d then Err kind.Missing
    else Ok (record (section_opened section.Pro d) { tables = d.tables ++ [] ∷ [] })

-- What is spelled after a section's header, by the tokens after its name.
abbrev pub header_of : Section → Spelt → Tokens → Result Spelt SourceKind
header_of section.Before d ts = Err kind.Section
header_of section.Con d ts = con_header d ts
header_of section.Pro d ts = pro_header d ts
header_of s d ts = plain_header s d ts

-- What is spelled after a header, which has to be the next in order.
abbrev pub header : Spelt → Name → Tokens → Result Spelt SourceKind
header d name ts =
    if is_named name (next_header d.section).0 then header_of (next_header d.section).1 d ts else Err kind.Section

-- ---- items ----

-- What is spelled once a new text of the section begins.
abbrev pub new_text : Section → Spelt → ℕ → Result Spelt SourceKind
new_text s d n = text_item (text_limit s) n (texts_of s d) >>= λ ts. Ok (with_texts s false ts d)

-- What is spelled once the exits of location n begin: items rise, gaps are allowed, and n is a location.
abbrev pub new_exits : Spelt → ℕ → Result Spelt SourceKind
new_exits d n =
    if nat_lt n (length d.exits) || not (nat_lt n (length d.locations)) then Err kind.Range
    else Ok (record d { exits = all_exits (suc n) d.exits })

-- What is spelled after an item of a section; only texts and exits have items.
abbrev pub item_in : Section → Spelt → ℕ → Result Spelt SourceKind
item_in section.Con d n = new_exits d n
item_in s d n = if nat_lt 0 (text_limit s) then new_text s d n else Err kind.Section

-- ---- the line ----

-- A line that begins with `/`. Where a number follows, the line is an item and ends there; otherwise it is a header.
abbrev pub slash_line : Spelt → Token → Option ℕ → Tokens → Result Spelt SourceKind
slash_line d name (Some n) ts = end_of_line ts >>= λ _. item_in d.section d n
slash_line d name None ts = header d name ts
