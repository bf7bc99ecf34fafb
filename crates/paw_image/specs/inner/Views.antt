-- The game whose image some bytes are, where its rows stand in them, and what a view keeps of it.
use Rattle.std.specs.Prelude.{◌≡◌, ℕ, ◌+◌, ◌<◌, ◌≤◌, List, [], length, Option, Some, None, Result, Ok, Err}
use Rattle.std.specs.Prelude.{flat_map, slice_get}
use Rattle.std.specs.Prelude.{drop}
use Rattle.std.specs.List.{AllByRecursion}
use Rattle.paw_base.specs.Bytes.{Bytes, Text}
use Rattle.paw_base.specs.declared.parts.Counts.{Counts}
use Rattle.paw_game.specs.declared.cursor.CondactCursor.{CondactCursor}
use Rattle.paw_game.specs.declared.parts.Word.{Word}
use Rattle.paw_game.specs.declared.parts.GamePart.{GamePart}
use Rattle.paw_game.specs.declared.parts.GamePart.TheVariants as part
use Rattle.paw_game.specs.Game.{GameLists, counts_of}
use Rattle.paw_game.specs.Image.{word_image, text_image, object_image, exits_image}
use Rattle.paw_game.specs.Tables.{condact_at, condacts_of, entry_at}
use Rattle.paw_game.specs.inner.Tables.{text_at}
use Rattle.paw_image.specs.declared.offsets.Offsets.{Offsets}
use Rattle.paw_image.specs.inner.Milestones.{HasMilestones}
use Rattle.paw_image.specs.Images.{IsImage}
use Rattle.paw_image.specs.inner.Orders.{IsOrder}
use Rattle.paw_image.specs.inner.Offsets.{offsets, entry_offsets, entries_of}
use Rattle.paw_image.specs.inner.Reading.{all_of}
use Rattle.paw_image.specs.inner.Rows.{condact_among, head_here, nth_condact}

-- The game that was read; one with no rows where none was.
abbrev pub or_no_game : Result GameLists ℕ → GameLists
or_no_game (Ok g) = g
or_no_game (Err left) = record {
  words = [];
  system = [];
  messages = [];
  objects = [];
  locations = [];
  exits = [];
  tables = [];
}

-- The game whose image the bytes are.
unfoldable pub game_read : Bytes → GameLists
game_read bytes = or_no_game (all_of bytes)

-- ---- where the lists begin ----

-- Where the system messages begin: after the signature, the version, six counts, and the words.
abbrev pub system_begins : GameLists → ℕ
system_begins g = 17 + length (flat_map word_image g.words)

-- Where the messages begin.
abbrev pub messages_begin : GameLists → ℕ
messages_begin g = system_begins g + length (flat_map text_image g.system)

-- Where the objects begin.
abbrev pub objects_begin : GameLists → ℕ
objects_begin g = messages_begin g + length (flat_map text_image g.messages)

-- Where the locations begin.
abbrev pub locations_begin : GameLists → ℕ
locations_begin g = objects_begin g + length (flat_map object_image g.objects)

-- Where the exits begin.
abbrev pub exits_begin : GameLists → ℕ
exits_begin g = locations_begin g + length (flat_map text_image g.locations)

-- Where the tables begin.
abbrev pub tables_begin_at : GameLists → ℕ
tables_begin_at g = exits_begin g + length (flat_map exits_image g.exits)

-- Where the rows of the parts begin that have texts.
abbrev pub rows_begin : GameLists → GamePart → List ℕ
rows_begin g part.Words = []
rows_begin g part.System = offsets text_image (system_begins g) g.system
rows_begin g part.Messages = offsets text_image (messages_begin g) g.messages
rows_begin g part.Objects = offsets object_image (objects_begin g) g.objects
rows_begin g part.Locations = offsets text_image (locations_begin g) g.locations
rows_begin g part.Exits = []
rows_begin g part.Tables = []

-- The two offsets between which a text stands: its row begins with the two bytes of its length.
abbrev pub text_span : Option ℕ → Option Text → Option (ℕ × ℕ)
text_span None text = None
text_span (Some at) None = None
text_span (Some at) (Some text) = Some (record { 0 = at + 2; 1 = at + 2 + length text })

-- The two offsets between which the text with this number in a part stands.
abbrev pub span_at : GameLists → GamePart → ℕ → Option (ℕ × ℕ)
span_at g p n = text_span (slice_get (rows_begin g p) n) (text_at g p n)

-- ---- what a view keeps ----

-- The entries of each table are in order of verb and noun.
abbrev pub AreOrdered : Bytes → Offsets → Type 0
AreOrdered bytes p = AllByRecursion (λ t. IsOrder bytes t.entries.items t.order) p.tables.items

-- The entries of each table have their milestones.
abbrev pub HaveMilestones : Bytes → Offsets → Type 0
HaveMilestones bytes p = AllByRecursion (HasMilestones bytes) p.tables.items

-- The bytes are the image of a game with these counts and words, rows at these offsets, entries in order, and
-- milestones.
pub record IsIndex (bytes : Bytes) (counts : Counts) (words : List Word) (p : Offsets) : Type 0 where
  pub image : IsImage bytes (game_read bytes)
  pub counted : counts ≡ counts_of (game_read bytes)
  pub spelled : words ≡ (game_read bytes).words
  pub system : p.system.items ≡ rows_begin (game_read bytes) part.System
  pub messages : p.messages.items ≡ rows_begin (game_read bytes) part.Messages
  pub objects : p.objects.items ≡ rows_begin (game_read bytes) part.Objects
  pub locations : p.locations.items ≡ rows_begin (game_read bytes) part.Locations
  pub exits : p.exits.items ≡ offsets exits_image (exits_begin (game_read bytes)) (game_read bytes).exits
  pub tables : entries_of p.tables.items ≡ entry_offsets (tables_begin_at (game_read bytes)) (game_read bytes).tables
  pub ordered : AreOrdered bytes p
  pub marked : HaveMilestones bytes p

-- ---- cursors ----

-- The bytes from an offset on have the condacts of an entry.
abbrev pub EntryStands : Bytes → (table entry offset : ℕ) → Type 0
EntryStands bytes t e offset = (k : ℕ) → nth_condact k (drop offset bytes) ≡ condact_at (game_read bytes) t e k

-- How many condacts an entry has.
abbrev pub condact_count : Bytes → (table entry : ℕ) → ℕ
condact_count bytes t e = length (condacts_of (entry_at (game_read bytes) t e))

-- The head at an offset says how many condacts an entry has.
abbrev pub HeadCounts : Bytes → (table entry offset : ℕ) → Type 0
HeadCounts bytes t e offset = (head : ℕ × ℕ) × (head_here (drop offset bytes) ≡ Some (head, condact_count bytes t e))

-- An entry has as many condacts as are left from number `at` on.
abbrev pub AreLeft : Bytes → (table entry at left : ℕ) → Type 0
AreLeft bytes t e at left = 0 < left → at + left ≤ condact_count bytes t e

-- The condacts at an offset, `left` of them, are those of an entry from number `at` on.
abbrev pub CondactsStand : Bytes → (table entry at left offset : ℕ) → Type 0
CondactsStand bytes t e at left offset =
    (k : ℕ) → condact_among k left (drop offset bytes) ≡ condact_at (game_read bytes) t e (at + k)

-- At a cursor's offset stand the condacts of its entry from its own on, all of which are there.
pub record CursorStands (bytes : Bytes) (c : CondactCursor) : Type 0 where
  pub condacts : CondactsStand bytes c.table c.entry c.at c.left c.offset
  pub there : AreLeft bytes c.table c.entry c.at c.left
