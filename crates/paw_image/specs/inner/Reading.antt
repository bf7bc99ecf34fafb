-- Reading an image from left to right: definitions for contracts and proofs, besides those of specs/Reading.antt.
use Rattle.std.specs.Prelude.{ℕ, zero, suc, not, List, [], ◌∷◌, length, Result}
use Rattle.std.specs.Prelude.{Ok, Err, ◌==◌, ◌&&◌, bit_and, if◌then◌else◌}
use Rattle.paw_base.specs.Bytes.{Bytes, Text, Texts}
use Rattle.paw_base.specs.declared.parts.Condact.{Condact}
use Rattle.paw_base.specs.declared.parts.ObjectFacts.{ObjectFacts}
use Rattle.paw_base.specs.declared.rows.ParamKind.{ParamKind}
use Rattle.paw_base.specs.declared.rows.ParamKind.TheVariants as kind
use Rattle.paw_base.specs.Condacts.{is_code, first_kind, second_kind}
use Rattle.paw_game.specs.declared.parts.Word.{Word}
use Rattle.paw_game.specs.declared.parts.ObjectRow.{ObjectRow}
use Rattle.paw_game.specs.declared.parts.Exit.{Exit}
use Rattle.paw_game.specs.declared.parts.Entry.{Entry}
use Rattle.paw_game.specs.Game.{GameLists}
use Rattle.paw_game.specs.Image.{version_of}
use Rattle.paw_image.specs.declared.version.Version.{Version}
use Rattle.paw_image.specs.declared.version.Version.TheVariants.{One, Two}
use Rattle.paw_image.specs.Damage.{ImagePreface, front}
use Rattle.paw_read_error.specs.Bind.{◌>>=◌}
use Rattle.paw_image.specs.Reading.{Reading, byte_at, bytes_at, number_at}

-- ---- what a function of the code gives ----

-- There is no value.
abbrev pub IsFault : {A : Type 0} → Result A ℕ → Type 0
IsFault (Ok x) = ⊥
IsFault (Err left) = Unit {0}

-- ---- numbers and bytes ----

-- The first two bytes.
unfoldable pub pair_at : Bytes → Reading (ℕ × ℕ)
pair_at bytes = do
  first ← byte_at bytes
  second ← byte_at first.1
  Ok ((first.0, second.0), second.1)

-- This number of rows.
unfoldable pub leading_rows : {A : Type 0} → (Bytes → Reading A) → ℕ → Bytes → Reading (List A)
leading_rows row zero bytes = Ok ([], bytes)
leading_rows row (suc n) bytes = do
  first ← row bytes
  others ← leading_rows row n first.1
  Ok (first.0 ∷ others.0, others.1)

-- A count of one byte, and that number of rows.
unfoldable pub few_at : {A : Type 0} → (Bytes → Reading A) → Bytes → Reading (List A)
few_at row bytes = do
  count ← byte_at bytes
  leading_rows row count.0 count.1

-- ---- rows ----

-- A length of two bytes, and the text.
unfoldable pub sized_text_at : Bytes → Reading Text
sized_text_at bytes = do
  len ← number_at bytes
  bytes_at len.0 len.1

-- The facts of an object: bits 0 to 5 of its last byte are its weight, bit 6 marks a container, bit 7 what may be worn.
abbrev pub facts_with : ℕ → ℕ → ℕ → ℕ → ObjectFacts
facts_with noun adjective start weight = record {
  noun = noun;
  adjective = adjective;
  start = start;
  weight = bit_and weight 63;
  container = not (bit_and weight 64 == 0);
  wearable = not (bit_and weight 128 == 0);
}

-- A noun, an adjective, a first place, and the byte of the weight.
unfoldable pub leading_facts : Bytes → Reading ObjectFacts
leading_facts bytes = do
  noun ← byte_at bytes
  adjective ← byte_at noun.1
  start ← byte_at adjective.1
  weight ← byte_at start.1
  Ok (facts_with noun.0 adjective.0 start.0 weight.0, weight.1)

-- A text, and the facts of the object.
unfoldable pub object_at : Bytes → Reading ObjectRow
object_at bytes = do
  text ← sized_text_at bytes
  facts ← leading_facts text.1
  Ok (record { text = text.0; facts = facts.0 }, facts.1)

-- A verb, and where it leads.
unfoldable pub leading_exit : Bytes → Reading Exit
leading_exit bytes = do
  pair ← pair_at bytes
  Ok (record { verb = pair.0.0; to = pair.0.1 }, pair.1)

-- The number of exits, and each exit.
abbrev pub exits_at : Bytes → Reading (List Exit)
exits_at bytes = few_at leading_exit bytes

-- ---- tables ----

-- The code of a condact.
abbrev pub code_at : Bytes → Reading ℕ
code_at [] = Err 0
code_at (code ∷ bytes) = if is_code code then Ok (code, bytes) else Err (suc (length bytes))

-- A parameter of this kind; one that a code doesn't have is 0, and takes no byte.
abbrev pub parameter_at : ParamKind → Bytes → Reading ℕ
parameter_at kind.Absent bytes = Ok (0, bytes)
parameter_at _ bytes = byte_at bytes

-- A code, and the parameters that it has.
unfoldable pub leading_condact : Bytes → Reading Condact
leading_condact bytes = do
  code ← code_at bytes
  a ← parameter_at (first_kind code.0) code.1
  b ← parameter_at (second_kind code.0) a.1
  Ok (record { code = code.0; a = a.0; b = b.0 }, b.1)

-- A verb, a noun, the number of condacts, and each condact.
unfoldable pub leading_entry : Bytes → Reading Entry
leading_entry bytes = do
  head ← pair_at bytes
  condacts ← few_at leading_condact head.1
  Ok (record { verb = head.0.0; noun = head.0.1; condacts = condacts.0 }, condacts.1)

-- The number of entries, and each entry.
unfoldable pub leading_table : Bytes → Reading (List Entry)
leading_table bytes = do
  count ← number_at bytes
  leading_rows leading_entry count.0 count.1

-- ---- the whole image ----

-- The game that has these lists.
abbrev pub game_with : List Word → Texts → Texts → List ObjectRow → Texts → List (List Exit)
    → List (List Entry) → GameLists
game_with words system messages objects locations exits tables = record {
  words = words;
  system = system;
  messages = messages;
  objects = objects;
  locations = locations;
  exits = exits;
  tables = tables;
}

-- The lists after the words, with these numbers of rows; each location has its exits.
unfoldable pub lists_at : ImagePreface → Bytes → Reading GameLists
lists_at d bytes = do
  system ← leading_rows sized_text_at d.counts.system bytes
  messages ← leading_rows sized_text_at d.counts.messages system.1
  objects ← leading_rows object_at d.counts.objects messages.1
  locations ← leading_rows sized_text_at d.counts.locations objects.1
  exits ← leading_rows exits_at d.counts.locations locations.1
  tables ← leading_rows leading_table d.counts.tables exits.1
  Ok (game_with d.words system.0 messages.0 objects.0 locations.0 exits.0 tables.0, tables.1)

-- The byte that stands for a version.
abbrev pub version_byte : Version → ℕ
version_byte One = 1
version_byte Two = 2

-- All of the bytes, with none after the lists, whose version is the one that they need.
unfoldable pub all_of : Bytes → Result GameLists ℕ
all_of bytes = do
  d ← front bytes
  lists ← lists_at d.0 d.1
  if (length lists.1 == 0) && (version_byte d.0.version == version_of lists.0) then Ok lists.0 else Err (length lists.1)
