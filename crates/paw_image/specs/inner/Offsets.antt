-- Where rows begin.
use Rattle.std.specs.Prelude.{◌≡◌, ℕ, zero, suc, ◌+◌, ◌-◌, List, [], ◌∷◌, length, map, Result, Ok, Err}
use Rattle.std.specs.List.{AllByRecursion}
use Rattle.paw_base.specs.Bytes.{Bytes}
use Rattle.paw_base.specs.declared.limits.TheConstants.{ENTRY_LIMIT}
use Rattle.paw_game.specs.declared.parts.Entry.{Entry}
use Rattle.paw_game.specs.Image.{entry_image, table_image}
use Rattle.paw_image.specs.declared.head.Front.{Front}
use Rattle.paw_image.specs.declared.offsets.Offsets.{Offsets}
use Rattle.paw_image.specs.declared.offsets.TableIndex.{TableIndex}
use Rattle.paw_image.specs.inner.Milestones.{IsEnd, HasMilestones}
use Rattle.paw_image.specs.Damage.{ImagePreface, Passing, front, each, checked_number, after_text}
use Rattle.paw_image.specs.Damage.{after_object, after_exits, after_entry, after_table}
use Rattle.paw_image.specs.inner.Orders.{IsOrder}
use Rattle.paw_read_error.specs.Bind.{◌>>=◌}

-- Where each row begins, the first of them at this offset.
abbrev pub offsets : {A : Type 0} → (A → Bytes) → ℕ → List A → List ℕ
offsets image at [] = []
offsets image at (x ∷ xs) = at ∷ offsets image (at + length (image x)) xs

-- Where the entries begin, by table.
abbrev pub TableOffsets : Type 0
TableOffsets = List (List ℕ)

-- Where the entries of each table begin, the first table at this offset; a table begins with a number of two bytes.
abbrev pub entry_offsets : ℕ → List (List Entry) → TableOffsets
entry_offsets at [] = []
entry_offsets at (es ∷ ess) = offsets entry_image (at + 2) es ∷ entry_offsets (at + length (table_image es)) ess

-- ---- as they are passed over ----

-- The result for the rest of the bytes; nothing after a fault.
abbrev pub on_rest : {A : Type 0} → (Bytes → List A) → Passing → List A
on_rest f (Ok rest) = f rest
on_rest f (Err left) = []

-- Where the rows at the front of the last of `total` bytes begin.
unfoldable pub begins : (Bytes → Passing) → ℕ → ℕ → Bytes → List ℕ
begins row total zero bytes = []
begins row total (suc n) bytes = (total - length bytes) ∷ on_rest (begins row total n) (row bytes)

-- Where the entries begin, given their number and the bytes after it.
abbrev pub entries_after : ImagePreface → ℕ → Result (ℕ × Bytes) ℕ → List ℕ
entries_after d total (Ok count) = begins (after_entry d) total count.0 count.1
entries_after d total (Err left) = []

-- Where the entries of the table at the front begin.
unfoldable pub entries_begin : ImagePreface → ℕ → Bytes → List ℕ
entries_begin d total bytes = entries_after d total (checked_number 0 ENTRY_LIMIT bytes)

-- The same for a number of tables.
unfoldable pub tables_begin : ImagePreface → ℕ → ℕ → Bytes → TableOffsets
tables_begin d total zero bytes = []
tables_begin d total (suc n) bytes =
    entries_begin d total bytes ∷ on_rest (tables_begin d total n) (after_table d bytes)

-- The bytes after the system messages, then after the lists up to each further one.
abbrev pub to_messages : ImagePreface → Bytes → Passing
to_messages d bytes = each after_text d.counts.system bytes

-- The bytes after the messages, where the objects begin.
abbrev pub to_objects : ImagePreface → Bytes → Passing
to_objects d bytes = to_messages d bytes >>= each after_text d.counts.messages

-- The bytes after the objects, where the locations begin.
abbrev pub to_locations : ImagePreface → Bytes → Passing
to_locations d bytes = to_objects d bytes >>= each (after_object d) d.counts.objects

-- The bytes after the locations, where the exits begin.
abbrev pub to_exits : ImagePreface → Bytes → Passing
to_exits d bytes = to_locations d bytes >>= each after_text d.counts.locations

-- The bytes after the exits, where the tables begin.
abbrev pub to_tables : ImagePreface → Bytes → Passing
to_tables d bytes = to_exits d bytes >>= each (after_exits d) d.counts.locations

-- Where the entries of each table begin, as the index has it.
abbrev pub entries_of : List TableIndex → TableOffsets
entries_of ts = map (λ t. t.entries.items) ts

-- Where the rows of each list begin, as the lists after the words are passed over.
pub record AreGoneOver (d : ImagePreface) (total : ℕ) (bytes : Bytes) (p : Offsets) : Type 0 where
  pub system : p.system.items ≡ begins after_text total d.counts.system bytes
  pub messages : p.messages.items ≡ on_rest (begins after_text total d.counts.messages) (to_messages d bytes)
  pub objects : p.objects.items ≡ on_rest (begins (after_object d) total d.counts.objects) (to_objects d bytes)
  pub locations : p.locations.items ≡ on_rest (begins after_text total d.counts.locations) (to_locations d bytes)
  pub exits : p.exits.items ≡ on_rest (begins (after_exits d) total d.counts.locations) (to_exits d bytes)
  pub tables : entries_of p.tables.items ≡ on_rest (tables_begin d total d.counts.tables) (to_tables d bytes)

-- The front as the code has it.
abbrev pub preface_of : Front → ImagePreface
preface_of f = record { version = f.version; counts = f.counts; words = f.words.items }

-- The front, the bytes after it and the offsets that result where the bytes are passed over.
pub record IsPassed (bytes : Bytes) (front_read : Front) (rest : Bytes) (p : Offsets) : Type 0 where
  pub declared : front bytes ≡ Ok (preface_of front_read, rest)
  pub over : AreGoneOver (preface_of front_read) (length bytes) rest p
  pub order : AllByRecursion (λ t. IsOrder bytes t.entries.items t.order) p.tables.items
  pub marked : IsEnd bytes rest → AllByRecursion (HasMilestones bytes) p.tables.items
