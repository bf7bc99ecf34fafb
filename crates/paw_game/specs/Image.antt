-- The image of a game: the bytes that stand for it in a file. A number of two bytes has its low byte first.
use Rattle.std.specs.Prelude.{ℕ, ◌+◌, Bool, List, [], ◌∷◌, ◌++◌, length, flat_map, if◌then◌else◌}
use Rattle.std.specs.Int.{w16, to_le_bytes}
use Rattle.std.specs.List.{list_any}
use Rattle.paw_base.specs.Bytes.{Bytes, Text}
use Rattle.paw_base.specs.declared.parts.Condact.{Condact}
use Rattle.paw_base.specs.declared.rows.ParamKind.{ParamKind}
use Rattle.paw_base.specs.declared.rows.ParamKind.TheVariants as kind
use Rattle.paw_base.specs.Condacts.{first_kind, second_kind, is_indirect}
use Rattle.paw_game.specs.declared.parts.Word.{Word}
use Rattle.paw_game.specs.declared.parts.ObjectRow.{ObjectRow}
use Rattle.paw_game.specs.declared.parts.Exit.{Exit}
use Rattle.paw_game.specs.declared.parts.Entry.{Entry}
use Rattle.paw_game.specs.Game.{GameLists}

-- A number as two bytes.
abbrev pub two_bytes : ℕ → Bytes
two_bytes n = to_le_bytes w16 n

-- Whether one of the condacts takes its first parameter from a flag.
abbrev pub any_indirect : List Condact → Bool
any_indirect cs = list_any (λ c. is_indirect c.code) cs

-- Whether an entry of one of the tables has a condact that takes its first parameter from a flag.
unfoldable pub has_indirect : List (List Entry) → Bool
has_indirect tables = list_any (λ es. list_any (λ e. any_indirect e.condacts) es) tables

-- The version of a game's image: 2 where a condact of the game is indirect, and 1 otherwise.
unfoldable pub version_of : GameLists → ℕ
version_of g = if has_indirect g.tables then 2 else 1

-- The signature PAWI, the version, and the numbers of words, system messages, messages, objects, locations and tables.
abbrev pub head_image : GameLists → Bytes
head_image g =
    80 ∷ 65 ∷ 87 ∷ 73 ∷ version_of g ∷ (two_bytes (length g.words) ++ two_bytes (length g.system)
    ++ two_bytes (length g.messages) ++ two_bytes (length g.objects) ++ two_bytes (length g.locations)
    ++ two_bytes (length g.tables))

-- A word: five letters, its value and its class.
abbrev pub word_image : Word → Bytes
word_image w = w.letters ++ w.value ∷ w.class ∷ []

-- A text: its length in two bytes, and its bytes.
abbrev pub text_image : Text → Bytes
text_image bytes = two_bytes (length bytes) ++ bytes

-- The weight byte of an object: bits 0 to 5 are its weight, bit 6 marks a container, and bit 7 what may be worn.
abbrev pub weight_byte : ℕ → Bool → Bool → ℕ
weight_byte weight container wearable = weight + (if container then 64 else 0) + (if wearable then 128 else 0)

-- An object: its text, its noun, its adjective, the place where it begins, and its weight byte.
abbrev pub object_image : ObjectRow → Bytes
object_image o =
    text_image o.text ++ o.facts.noun ∷ o.facts.adjective ∷ o.facts.start
    ∷ weight_byte o.facts.weight o.facts.container o.facts.wearable ∷ []

-- An exit: its verb, and the location that it leads to.
abbrev pub exit_image : Exit → Bytes
exit_image x = x.verb ∷ x.to ∷ []

-- The exits of a location: their number in one byte, and each exit.
abbrev pub exits_image : List Exit → Bytes
exits_image xs = length xs ∷ flat_map exit_image xs

-- A parameter: one byte where the code has it, and no byte otherwise.
abbrev pub parameter_image : ParamKind → ℕ → Bytes
parameter_image kind.Absent x = []
parameter_image _ x = x ∷ []

-- A condact: its code, and the parameters that this code has.
abbrev pub condact_image : Condact → Bytes
condact_image c = c.code ∷ (parameter_image (first_kind c.code) c.a ++ parameter_image (second_kind c.code) c.b)

-- An entry: its verb, its noun, the number of its condacts in one byte, and each condact.
abbrev pub entry_image : Entry → Bytes
entry_image e = e.verb ∷ e.noun ∷ length e.condacts ∷ flat_map condact_image e.condacts

-- A table: the number of its entries in two bytes, and each entry.
abbrev pub table_image : List Entry → Bytes
table_image es = two_bytes (length es) ++ flat_map entry_image es

-- The image of a game: its head, then its words, system messages, messages, objects, locations, exits and tables.
abbrev pub image : GameLists → Bytes
image g =
    head_image g ++ flat_map word_image g.words ++ flat_map text_image g.system ++ flat_map text_image g.messages
    ++ flat_map object_image g.objects ++ flat_map text_image g.locations ++ flat_map exits_image g.exits
    ++ flat_map table_image g.tables
