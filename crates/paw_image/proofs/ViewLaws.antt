-- What a view keeps, and what its look-ups answer.
use Rattle.std.proofs.Common.{◌≡◌, ℕ, zero, suc, ◌+◌, ◌≤◌, List, [], length, get_or, drop, Option, Some, None, Ok, refl}
use Rattle.std.proofs.Common.{sym, ap, subst, ◌∙◌}
use Rattle.std.specs.Prelude.{slice_get}
use Rattle.std.specs.List.{AllByRecursion}
use Rattle.std.specs.Option.{option_map, unwrap_or}
use Rattle.std.proofs.lemmas.Bool.{le-ltb}
use Rattle.std.proofs.lemmas.Option.{none-some, slice_get-map}
use Rattle.paw_base.specs.Bytes.{Bytes, Text}
use Rattle.paw_base.specs.declared.parts.Counts.{Counts}
use Rattle.paw_game.specs.declared.parts.Word.{Word}
use Rattle.paw_game.specs.declared.parts.Entry.{Entry}
use Rattle.paw_game.specs.declared.parts.GamePart.{GamePart}
use Rattle.paw_game.specs.Game.{GameLists}
use Rattle.paw_game.specs.Image.{entry_image}
use Rattle.paw_game.specs.Tables.{head_at, condact_at, entry_at}
use Rattle.paw_game.specs.inner.Tables.{text_at, match_at}
use Rattle.paw_image.specs.Damage.{ImagePreface, after_all, is_needless, bad}
use Rattle.paw_image.specs.inner.Milestones.{HasMilestones, EntryMilestones}
use Rattle.paw_image.specs.Images.{IsImage}
use Rattle.paw_image.specs.inner.Images.{AtDamage}
use Rattle.paw_image.specs.inner.Orders.{is_match, IsOrder, IsLeast, IsMatch}
use Rattle.paw_image.specs.inner.Offsets.{entry_offsets, entries_of, preface_of, IsPassed, TableOffsets}
use Rattle.paw_image.specs.inner.Reading as inner_reading
use Rattle.paw_image.specs.inner.Reading.{all_of}
use Rattle.paw_image.specs.inner.Rows.{value_of, head_here, nth_condact, entry_here}
use Rattle.paw_image.specs.inner.Sizes.{FitsGame, FitsCondact, FitsEntry, FitsTable}
use Rattle.paw_image.specs.inner.Views.{game_read, rows_begin, tables_begin_at, span_at, IsIndex, HeadCounts}
use Rattle.paw_base.specs.declared.limits.TheConstants.{IMAGE_LIMIT}
use Rattle.paw_image.specs.declared.head.Front.{Front}
use Rattle.paw_image.specs.declared.offsets.Offsets.{Offsets}
use Rattle.paw_image.specs.declared.offsets.TableIndex.{TableIndex}
use Rattle.paw_image.specs.declared.refusal.ImageRefusal.{ImageRefusal}
use Rattle.paw_image.specs.declared.refusal.ImageRefusal.TheVariants as refusal
use Rattle.paw_image.proofs.FieldLaws.{IsBytes}
use Rattle.paw_image.proofs.GameLaws.{all_takes}
use Rattle.paw_image.proofs.MatchLaws.{next_match_is}
use Rattle.paw_image.proofs.RowStartLaws.{all_at, ListsAt, lists_lie, RowAt, table_lies, no_table, entry_lies, no_entry}
use Rattle.paw_image.proofs.RowStartLaws.{some_text_of_part, text_of_part, head_there, condact_there, entry_bytes_there}
use Rattle.paw_image.proofs.ValidLaws.{valid_fits}
use Rattle.paw_image.proofs.WholeLaws.{all_sound, both_none, nothing_left, image_is_whole}

-- ---- the index ----

game_is : (bytes : Bytes) (g : GameLists) → all_of bytes ≡ Ok g → game_read bytes ≡ g
unfolding game_read
game_is bytes g e = rw e refl

-- The offsets that come of bytes in which no rule is broken are those of the game.
pub index_from : (bytes : Bytes) (front : Front) (rest : Bytes) (p : Offsets) → IsBytes bytes
    → length bytes ≤ IMAGE_LIMIT → bad bytes ≡ None → IsPassed bytes front rest p
    → IsIndex bytes front.counts front.words.items p
unfolding bad
index_from bytes front rest p fits short whole passed =
    let none = both_none _ (is_needless bytes) 4 (rw (le-ltb IMAGE_LIMIT (length bytes) short) at whole) in
    let read = all_sound bytes fits (nothing_left (length bytes) (after_all bytes) none.0) none.1 in
    let d : ImagePreface × Bytes = (preface_of front, rest) in
    let is = game_is bytes read.game read.reads in
    let declared = read.declared d passed.declared in
    let stand = read.begin d p passed.declared passed.over in
    record {
      image = rw is (record { spelled = all_takes bytes read.game fits read.reads; valid = read.valid; short = short });
      counted = rw is (ap (λ (x : ImagePreface). x.counts) declared);
      spelled = rw is (ap (λ (x : ImagePreface). x.words) declared);
      system = rw is stand.system;
      messages = rw is stand.messages;
      objects = rw is stand.objects;
      locations = rw is stand.locations;
      exits = rw is stand.exits;
      tables = rw is stand.tables;
      ordered = passed.order;
      marked = passed.marked (read.end d passed.declared);
    }

-- An offset of damage shows that there is no image.
pub damage_is_none : (bytes : Bytes) (r : ImageRefusal) → AtDamage r (λ at. bad bytes ≡ Some at) → AtDamage r (λ _. (g : GameLists) → IsImage bytes g → ⊥)
damage_is_none bytes refusal.Memory h = tt
damage_is_none bytes (refusal.Damaged at) h = λ g is. none-some at (sym (image_is_whole bytes g is) ∙ h)

-- ---- the game of an image ----

pub fits_of : (bytes : Bytes) → IsImage bytes (game_read bytes) → FitsGame (game_read bytes)
fits_of bytes is = valid_fits (game_read bytes) is.valid

pub lists_of : (bytes : Bytes) → IsImage bytes (game_read bytes) → ListsAt bytes (game_read bytes)
lists_of bytes is = lists_lie bytes (game_read bytes) is.spelled

pub text_read : (bytes : Bytes) → IsImage bytes (game_read bytes) → (p : GamePart) (k at : ℕ)
    → slice_get (rows_begin (game_read bytes) p) k ≡ Some at
    → value_of (inner_reading.sized_text_at (drop at bytes)) ≡ text_at (game_read bytes) p k
text_read bytes is p k at h = text_of_part bytes (game_read bytes) (lists_of bytes is) (fits_of bytes is) p k at h

-- Where a row begins a text is read.
pub text_begins : (bytes : Bytes) → IsImage bytes (game_read bytes) → (p : GamePart) (k at : ℕ)
    → slice_get (rows_begin (game_read bytes) p) k ≡ Some at
    → value_of (inner_reading.sized_text_at (drop at bytes)) ≡ None → ⊥
text_begins bytes is p k at h none = some_text_of_part (game_read bytes) p k at h (sym (text_read bytes is p k at h) ∙ none)

pub span_read : (bytes : Bytes) → IsImage bytes (game_read bytes) → (p : GamePart) (k at : ℕ) (text : Text)
    → slice_get (rows_begin (game_read bytes) p) k ≡ Some at
    → value_of (inner_reading.sized_text_at (drop at bytes)) ≡ Some text
    → span_at (game_read bytes) p k ≡ Some (at + 2, at + 2 + length text)
span_read bytes is p k at text h found = rw (h, sym (text_read bytes is p k at h) ∙ found) refl

-- ---- entries ----

in_table : (found : Option (List Entry)) → ((es : List Entry) → found ≡ Some es → FitsTable es) → (k : ℕ) (e : Entry)
    → slice_get (unwrap_or found []) k ≡ Some e → AllByRecursion FitsCondact e.condacts
in_table None fits k e h = absurd (none-some e h)
in_table (Some es) fits k e h = (all_at FitsEntry es k e (fits es refl).entries h).condacts

-- The condacts of an entry fit.
entry_fits : (bytes : Bytes) → IsImage bytes (game_read bytes) → (t k : ℕ) (e : Entry)
    → slice_get (unwrap_or (slice_get (game_read bytes).tables t) []) k ≡ Some e → AllByRecursion FitsCondact e.condacts
entry_fits bytes is t k e h =
    in_table (slice_get (game_read bytes).tables t)
    (λ es found. all_at FitsTable (game_read bytes).tables t es (fits_of bytes is).tables found) k e h

pub entry_at_offset : (bytes : Bytes) → IsImage bytes (game_read bytes) → (t k p : ℕ)
    → slice_get (unwrap_or (slice_get (entry_offsets (tables_begin_at (game_read bytes)) (game_read bytes).tables) t) []) k
    ≡ Some p
    → RowAt entry_image bytes (entry_at (game_read bytes) t k) p
entry_at_offset bytes is t k p h = entry_lies bytes (game_read bytes) (lists_of bytes is) t k p h

pub head_read : (bytes : Bytes) → IsImage bytes (game_read bytes) → (t k p : ℕ)
    → slice_get (unwrap_or (slice_get (entry_offsets (tables_begin_at (game_read bytes)) (game_read bytes).tables) t) []) k
    ≡ Some p
    → option_map {U = ℕ × ℕ} (λ (x : (ℕ × ℕ) × ℕ). x.0) (head_here (drop p bytes)) ≡ head_at (game_read bytes) t k
head_read bytes is t k p h = let r = entry_at_offset bytes is t k p h in rw (r.lies, r.is, head_there r.row r.after) refl

pub counts_read : (bytes : Bytes) → IsImage bytes (game_read bytes) → (t k p : ℕ)
    → slice_get (unwrap_or (slice_get (entry_offsets (tables_begin_at (game_read bytes)) (game_read bytes).tables) t) []) k
    ≡ Some p
    → HeadCounts bytes t k p
counts_read bytes is t k p h =
    let r = entry_at_offset bytes is t k p h in
    ((r.row.verb, r.row.noun), rw (r.lies, r.is) (head_there r.row r.after))

pub condact_read : (bytes : Bytes) → IsImage bytes (game_read bytes) → (t k p at : ℕ)
    → slice_get (unwrap_or (slice_get (entry_offsets (tables_begin_at (game_read bytes)) (game_read bytes).tables) t) []) k
    ≡ Some p
    → nth_condact at (drop p bytes) ≡ condact_at (game_read bytes) t k at
condact_read bytes is t k p at h =
    let r = entry_at_offset bytes is t k p h in
    rw (r.lies, r.is) (condact_there r.row r.after at (entry_fits bytes is t k r.row r.is))

pub entry_read : (bytes : Bytes) → IsImage bytes (game_read bytes) → (t k p : ℕ)
    → slice_get (unwrap_or (slice_get (entry_offsets (tables_begin_at (game_read bytes)) (game_read bytes).tables) t) []) k
    ≡ Some p
    → entry_here (drop p bytes) ≡ option_map entry_image (entry_at (game_read bytes) t k)
entry_read bytes is t k p h =
    let r = entry_at_offset bytes is t k p h in
    rw (r.lies, r.is) (entry_bytes_there r.row r.after (entry_fits bytes is t k r.row r.is))

pub no_entry_read : (bytes : Bytes) (t k : ℕ)
    → slice_get (unwrap_or (slice_get (entry_offsets (tables_begin_at (game_read bytes)) (game_read bytes).tables) t) []) k
    ≡ None → entry_at (game_read bytes) t k ≡ None
no_entry_read bytes t k h = no_entry (game_read bytes) t k h

-- ---- the next entry that matches ----

drop_nothing : (n : ℕ) → drop {A = Entry} n [] ≡ []
drop_nothing zero = refl
drop_nothing (suc n) = refl

pub ordered_at : (bytes : Bytes) (ts : List TableIndex) (k : ℕ) (t : TableIndex)
    → AllByRecursion (λ x. IsOrder bytes x.entries.items x.order) ts → slice_get ts k ≡ Some t
    → IsOrder bytes t.entries.items t.order
ordered_at bytes ts k t h e = all_at (λ (x : TableIndex). IsOrder bytes x.entries.items x.order) ts k t h e

-- The entries kept of a table are where its entries begin.
entries_at : (ts : List TableIndex) (k : ℕ) (t : TableIndex) (ps : TableOffsets) → entries_of ts ≡ ps
    → slice_get ts k ≡ Some t → slice_get ps k ≡ Some t.entries.items
entries_at ts k t ps e h = ap (λ (l : TableOffsets). slice_get l k) (sym e) ∙ slice_get-map (λ (x : TableIndex). x.entries.items) ts k ∙ rw h refl

no_entries_at : (ts : List TableIndex) (k : ℕ) (ps : TableOffsets) → entries_of ts ≡ ps → slice_get ts k ≡ None → slice_get ps k ≡ None
no_entries_at ts k ps e h = ap (λ (l : TableOffsets). slice_get l k) (sym e) ∙ slice_get-map (λ (x : TableIndex). x.entries.items) ts k ∙ rw h refl

pub match_read : {bytes : Bytes} {counts : Counts} {words : List Word} {p : Offsets} → IsIndex bytes counts words p
    → (t : ℕ) (i : TableIndex) → slice_get p.tables.items t ≡ Some i
    → (from verb noun : ℕ) (r : Option ℕ) → IsLeast (IsMatch i.order.ranks.items (is_match verb noun) from) r → r ≡ match_at (game_read bytes) t from verb noun
match_read {bytes} {counts} {words} {p} is t i h from verb noun r least =
    let table = table_lies bytes [] (game_read bytes).tables (tables_begin_at (game_read bytes))
    (lists_of bytes is.image).tables t i.entries.items (entries_at p.tables.items t i _ is.tables h) in
    let order = subst (λ (ps : List ℕ). IsOrder bytes ps i.order) table.begin (ordered_at bytes p.tables.items t i is.ordered h) in
    rw table.is (next_match_is bytes table.after table.rows table.at i.order order table.lies verb from noun r least)

pub no_match_read : {bytes : Bytes} {counts : Counts} {words : List Word} {p : Offsets} → IsIndex bytes counts words p
    → (t : ℕ) → slice_get p.tables.items t ≡ None → (from verb noun : ℕ)
    → match_at (game_read bytes) t from verb noun ≡ None
no_match_read {bytes} {counts} {words} {p} is t h from verb noun =
    let none = no_table (game_read bytes).tables (tables_begin_at (game_read bytes)) t (no_entries_at p.tables.items t _ is.tables h) in
    rw (none, drop_nothing from) refl

-- ---- the condacts of an entry ----

pub no_index_read : {bytes : Bytes} {counts : Counts} {words : List Word} {p : Offsets} → IsIndex bytes counts words p
    → (t k : ℕ) → slice_get p.tables.items t ≡ None → entry_at (game_read bytes) t k ≡ None
no_index_read {bytes} {counts} {words} {p} is t k h = no_entry_read bytes t k (rw (no_entries_at p.tables.items t _ is.tables h) refl)

module _ {bytes : Bytes} {counts : Counts} {words : List Word} {p : Offsets} (is : IsIndex bytes counts words p)
    (t : ℕ) (i : TableIndex) (there : slice_get p.tables.items t ≡ Some i) (k : ℕ) where
  -- An entry begins where the index of its table says.
  entry_begins : slice_get (unwrap_or (slice_get (entry_offsets (tables_begin_at (game_read bytes)) (game_read bytes).tables) t) []) k
      ≡ slice_get i.entries.items k
  entry_begins = rw (entries_at p.tables.items t i _ is.tables there) refl

  pub no_place_read : slice_get i.entries.items k ≡ None → entry_at (game_read bytes) t k ≡ None
  no_place_read h = no_entry_read bytes t k (entry_begins ∙ h)

  pub condact_by_index : (at place : ℕ) → slice_get i.entries.items k ≡ Some place
      → nth_condact at (drop place bytes) ≡ condact_at (game_read bytes) t k at
  condact_by_index at place h = condact_read bytes is.image t k place at (entry_begins ∙ h)

  pub counts_by_index : (place : ℕ) → slice_get i.entries.items k ≡ Some place → HeadCounts bytes t k place
  counts_by_index place h = counts_read bytes is.image t k place (entry_begins ∙ h)

  pub milestones_by_index : (place : ℕ) → slice_get i.entries.items k ≡ Some place
      → EntryMilestones (drop (get_or i.milestones.firsts.items k 0) i.milestones.milestones.items) (drop place bytes)
  milestones_by_index place h = all_at (HasMilestones bytes) p.tables.items t i is.marked there k place h
