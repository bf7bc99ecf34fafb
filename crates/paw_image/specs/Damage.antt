-- The first rule of an image that bytes break. The bytes are read in order, and each field has a rule about itself and
-- what was read before it. A fault is the number of bytes left at the start of the first field that breaks its rule or
-- isn't all there. One rule comes after all of these: version 2 is allowed only where a code needs it.
use Rattle.std.specs.Prelude.{ℕ, zero, suc, ◌-◌, ◌==◌, ◌&&◌, ◌||◌, Bool, true, false, not, List, [], ◌∷◌, length}
use Rattle.std.specs.Prelude.{Option, Some, None, Result, Ok, Err, nat_lt, nat_le, codes, if◌then◌else◌}
use Rattle.std.specs.List.{list_any}
use Rattle.std.specs.Option.{option_or}
use Rattle.std.specs.Str.{bytes_eq}
use Rattle.std.specs.Ordering.{is_lt, nat_cmp}
use Rattle.std.specs.Cmp.Lexicographic.{slice_cmp}
use Rattle.paw_base.specs.Bytes.{Bytes}
use Rattle.paw_base.specs.declared.limits.TheConstants.{IMAGE_LIMIT, WORD_LENGTH, WORD_LIMIT, SYSTEM_LIMIT}
use Rattle.paw_base.specs.declared.limits.TheConstants.{MESSAGE_LIMIT, OBJECT_LIMIT}
use Rattle.paw_base.specs.declared.limits.TheConstants.{LOCATION_LEAST, LOCATION_LIMIT, TABLE_LEAST}
use Rattle.paw_base.specs.declared.limits.TheConstants.{TABLE_LIMIT, TEXT_LIMIT, ENTRY_LIMIT}
use Rattle.paw_base.specs.declared.parts.Counts.{Counts}
use Rattle.paw_base.specs.declared.words.TheConstants.{NOUN_CLASS, ADJECTIVE_CLASS, PRONOUN_CLASS}
use Rattle.paw_base.specs.declared.words.TheConstants.{LEAST_WORD, GREATEST_WORD}
use Rattle.paw_base.specs.declared.rows.ParamKind.{ParamKind}
use Rattle.paw_base.specs.declared.rows.ParamKind.TheVariants as kind
use Rattle.paw_base.specs.Condacts.{is_code, is_plain_code, first_kind, second_kind}
use Rattle.paw_game.specs.declared.parts.Word.{Word}
use Rattle.paw_game.specs.Game.{counts_with}
use Rattle.paw_game.specs.Valid.{is_within, are_letters, has_word, is_verb_value}
use Rattle.paw_game.specs.Valid.{is_word_or_none, is_printed, is_place, is_wildcard, is_parameter}
use Rattle.paw_read_error.specs.Bind.{◌>>=◌}
use Rattle.paw_image.specs.declared.version.Version.{Version}
use Rattle.paw_image.specs.declared.version.Version.TheVariants.{One, Two}
use Rattle.paw_image.specs.Reading.{Reading, byte_at, bytes_at, number_at}

-- A field that follows a rule; where it breaks the rule, a fault at its first byte.
abbrev pub checked_field : {A : Type 0} → (A → Bool) → (Bytes → Reading A) → Bytes → Reading A
checked_field rule field bytes = field bytes >>= λ x. if rule x.0 then Ok x else Err (length bytes)

-- The bytes after what was read, or a fault in it.
abbrev pub Passing : Type 0
Passing = Result Bytes ℕ

-- The bytes after n rows, or the first fault in them.
unfoldable pub each : (Bytes → Passing) → ℕ → Bytes → Passing
each row zero bytes = Ok bytes
each row (suc n) bytes = row bytes >>= each row n

-- What stands before the other lists: the version, how many rows each list has, and the words.
pub record ImagePreface : Type 0 where
  pub version : Version
  pub counts : Counts
  pub words : List Word

-- ---- the head ----

-- The version that a byte stands for: One for 1, and Two for any other byte.
abbrev pub version_of_byte : ℕ → Version
version_of_byte byte = if byte == 1 then One else Two

-- The signature PAWI, and a version that is 1 or 2; the version is what is read.
unfoldable pub checked_version : Bytes → Reading Version
checked_version bytes = do
  signature ← checked_field (λ m. bytes_eq m (codes "PAWI")) (bytes_at 4) bytes
  byte ← checked_field (is_within 1 2) byte_at signature.1
  Ok (version_of_byte byte.0, byte.1)

-- A number of two bytes within a range, both ends included.
abbrev pub checked_number : ℕ → ℕ → Bytes → Reading ℕ
checked_number least most = checked_field (is_within least most) number_at

-- How many words, system messages, messages, objects, locations and tables follow.
unfoldable pub checked_counts : Bytes → Reading Counts
checked_counts bytes = do
  words ← checked_number 0 WORD_LIMIT bytes
  system ← checked_number 0 SYSTEM_LIMIT words.1
  messages ← checked_number 0 MESSAGE_LIMIT system.1
  objects ← checked_number 0 OBJECT_LIMIT messages.1
  locations ← checked_number LOCATION_LEAST LOCATION_LIMIT objects.1
  tables ← checked_number TABLE_LEAST TABLE_LIMIT locations.1
  Ok (counts_with words.0 system.0 messages.0 objects.0 locations.0 tables.0, tables.1)

-- ---- words ----

-- A word: letters that are above the letters before, a value, and a class.
unfoldable pub checked_word : Bytes → Bytes → Reading Word
checked_word before bytes = do
  letters ← checked_field (λ l. are_letters l && is_lt (slice_cmp nat_cmp before l)) (bytes_at WORD_LENGTH) bytes
  value ← checked_field (is_within LEAST_WORD GREATEST_WORD) byte_at letters.1
  class ← checked_field (λ c. nat_le c PRONOUN_CLASS) byte_at value.1
  Ok (record { letters = letters.0; value = value.0; class = class.0 }, class.1)

-- A list of n words, each above the one before.
unfoldable pub words_above : Bytes → ℕ → Bytes → Reading (List Word)
words_above before zero bytes = Ok ([], bytes)
words_above before (suc n) bytes = do
  first ← checked_word before bytes
  others ← words_above first.0.letters n first.1
  Ok (first.0 ∷ others.0, others.1)

-- ---- texts, objects, exits ----

-- The bytes after a text: a length of at most 4,095, and bytes that may stand in a text.
unfoldable pub after_text : Bytes → Passing
after_text bytes = do
  len ← checked_number 0 TEXT_LIMIT bytes
  text ← checked_field (is_printed true) (bytes_at len.0) len.1
  Ok text.1

-- The bytes after an object's facts: its noun, its adjective, where it begins, and any byte for its weight.
unfoldable pub after_facts : ImagePreface → Bytes → Passing
after_facts d bytes = do
  noun ← checked_field (is_word_or_none d.words NOUN_CLASS) byte_at bytes
  adjective ← checked_field (is_word_or_none d.words ADJECTIVE_CLASS) byte_at noun.1
  start ← checked_field (is_place d.counts.locations) byte_at adjective.1
  weight ← byte_at start.1
  Ok weight.1

-- The bytes after an object: its text, and its facts.
abbrev pub after_object : ImagePreface → Bytes → Passing
after_object d bytes = after_text bytes >>= after_facts d

-- The verb of an exit after exits with these verbs: a verb value that is none of them. A location follows it.
unfoldable pub checked_exit : ImagePreface → List ℕ → Bytes → Reading ℕ
checked_exit d verbs bytes = do
  verb ← checked_field (λ v. is_verb_value d.words v && not (list_any (λ earlier. earlier == v) verbs)) byte_at bytes
  to ← checked_field (λ l. nat_lt l d.counts.locations) byte_at verb.1
  Ok (verb.0, to.1)

-- The bytes after n exits that follow exits with these verbs.
unfoldable pub after_exits_of : ImagePreface → List ℕ → ℕ → Bytes → Passing
after_exits_of d verbs zero bytes = Ok bytes
after_exits_of d verbs (suc n) bytes = checked_exit d verbs bytes >>= λ x. after_exits_of d (x.0 ∷ verbs) n x.1

-- The bytes after the exits of a location: how many there are, and each of them.
unfoldable pub after_exits : ImagePreface → Bytes → Passing
after_exits d bytes = byte_at bytes >>= λ count. after_exits_of d [] count.0 count.1

-- ---- tables ----

-- The bytes after a parameter of this kind; one that a code doesn't have takes no byte.
abbrev pub after_parameter : ImagePreface → ParamKind → Bytes → Passing
after_parameter d kind.Absent bytes = Ok bytes
after_parameter d k bytes = checked_field (is_parameter d.counts d.words k) byte_at bytes >>= λ x. Ok x.1

-- Whether a code may stand in an image: in version 1 a plain one, in version 2 that of an indirect condact too.
abbrev pub may_stand : Version → ℕ → Bool
may_stand One code = is_plain_code code
may_stand Two code = is_code code

-- The bytes after a condact: a code that may stand, and the parameters that it has.
unfoldable pub after_condact : ImagePreface → Bytes → Passing
after_condact d bytes = do
  code ← checked_field (may_stand d.version) byte_at bytes
  a ← after_parameter d (first_kind code.0) code.1
  after_parameter d (second_kind code.0) a

-- The bytes after an entry: its verb, its noun, how many condacts it has, and each of them.
unfoldable pub after_entry : ImagePreface → Bytes → Passing
after_entry d bytes = do
  verb ← checked_field (λ v. is_wildcard v || is_verb_value d.words v) byte_at bytes
  noun ← checked_field (λ n. is_wildcard n || has_word d.words NOUN_CLASS n) byte_at verb.1
  count ← byte_at noun.1
  each (after_condact d) count.0 count.1

-- The bytes after a table: how many entries it has, at most 4,000, and each of them.
unfoldable pub after_table : ImagePreface → Bytes → Passing
after_table d bytes = checked_number 0 ENTRY_LIMIT bytes >>= λ count. each (after_entry d) count.0 count.1

-- ---- the whole image ----

-- The bytes after all lists that follow the words; there are as many lists of exits as locations.
unfoldable pub after_lists : ImagePreface → Bytes → Passing
after_lists d bytes = do
  system ← each after_text d.counts.system bytes
  messages ← each after_text d.counts.messages system
  objects ← each (after_object d) d.counts.objects messages
  locations ← each after_text d.counts.locations objects
  exits ← each (after_exits d) d.counts.locations locations
  each (after_table d) d.counts.tables exits

-- The front of an image: its signature, version, counts and words.
unfoldable pub front : Bytes → Reading ImagePreface
front bytes = do
  version ← checked_version bytes
  counts ← checked_counts version.1
  words ← words_above [] counts.0.words counts.1
  Ok (record { version = version.0; counts = counts.0; words = words.0 }, words.1)

-- The bytes after the last field.
unfoldable pub after_all : Bytes → Passing
after_all bytes = front bytes >>= λ d. after_lists d.0 d.1

-- The same front with version 1.
abbrev pub as_version_1 : ImagePreface → ImagePreface
as_version_1 d = record d { version = One }

-- Whether nothing is left after the last field.
abbrev pub is_end : Passing → Bool
is_end (Ok []) = true
is_end _ = false

-- Whether the version is 2 without need: read with the codes of version 1, the lists pass to the end too.
abbrev pub needs_no_2 : Version → Passing → Bool
needs_no_2 One with_plain_codes = false
needs_no_2 Two with_plain_codes = is_end with_plain_codes

-- Whether an image that begins with this preface has version 2 though no code needs it.
abbrev pub is_needless_after : Reading ImagePreface → Bool
is_needless_after (Ok d) = needs_no_2 d.0.version (after_lists (as_version_1 d.0) d.1)
is_needless_after (Err left) = false

-- Whether the version is 2 though no code needs it.
unfoldable pub is_needless : Bytes → Bool
is_needless bytes = is_needless_after (front bytes)

-- The offset of a fault, or of the first byte after the last field, in `total` bytes; nothing where all is well.
abbrev pub offset_in : ℕ → Passing → Option ℕ
offset_in total (Err left) = Some (total - left)
offset_in total (Ok []) = None
offset_in total (Ok (b ∷ bytes)) = Some (total - length (b ∷ bytes))

-- The offset of the first broken rule, or nothing. The first rule is that there are at most IMAGE_LIMIT bytes, and the
-- offset is then this limit; the last is that version 2 is needed, and the offset is then that of the version, byte 4.
unfoldable pub bad : Bytes → Option ℕ
bad bytes =
    if nat_lt IMAGE_LIMIT (length bytes) then Some IMAGE_LIMIT
    else option_or (offset_in (length bytes) (after_all bytes)) (if is_needless bytes then Some 4 else None)
