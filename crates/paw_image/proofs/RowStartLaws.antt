-- What stands in an image where a row begins.
use Rattle.std.proofs.Common.{◌≡◌, ℕ, zero, suc, ◌+◌, ◌-◌, ◌<◌, List, [], ◌∷◌, ◌++◌, length, take, drop, Option}
use Rattle.std.proofs.Common.{Bool, true, false, cond, eqb, Some, None, Ok, refl, sym, ap, subst, ◌∙◌, append_assoc}
use Rattle.std.proofs.Common.{inl, inr, arith}
use Rattle.std.specs.Prelude.{slice_get}
use Rattle.std.specs.List.{find, flat_map, AllByRecursion}
use Rattle.std.specs.Option.{option_map, unwrap_or}
use Rattle.std.proofs.lemmas.Bool.{lt-ltb, le-ltb, cases_lt}
use Rattle.std.proofs.lemmas.List.{drop_at, drop-drop, length-append, take_at}
use Rattle.std.proofs.lemmas.Option.{none-some, same_Some, slice_get_past}
use Rattle.paw_base.specs.Bytes.{Bytes, Texts}
use Rattle.paw_base.specs.declared.parts.Condact.{Condact}
use Rattle.paw_game.specs.declared.parts.ObjectRow.{ObjectRow}
use Rattle.paw_game.specs.declared.parts.Exit.{Exit}
use Rattle.paw_game.specs.declared.parts.Entry.{Entry}
use Rattle.paw_game.specs.declared.parts.GamePart.{GamePart}
use Rattle.paw_game.specs.declared.parts.GamePart.TheVariants as part
use Rattle.paw_game.specs.Game.{GameLists}
use Rattle.paw_game.specs.Tables.{exit_of, facts_at}
use Rattle.paw_game.specs.inner.Tables.{text_at}
use Rattle.paw_game.specs.Image.{two_bytes, text_image, object_image, exit_image, exits_image}
use Rattle.paw_game.specs.Image.{condact_image, entry_image, table_image, weight_byte, image}
use Rattle.paw_read_error.specs.Bind.{◌>>=◌}
use Rattle.paw_image.specs.inner.Reading.{leading_condact}
use Rattle.paw_image.specs.inner.Reading as inner_reading
use Rattle.paw_image.specs.Damage.{each}
use Rattle.paw_image.specs.inner.Sizes.{FitsText, FitsObject, FitsCondact, FitsGame}
use Rattle.paw_image.specs.inner.Offsets.{offsets, entry_offsets}
use Rattle.paw_image.specs.inner.Rows.{value_of, facts_here, exit_in, exits_here, head_here, past_condact, nth_condact}
use Rattle.paw_image.specs.inner.Rows.{entry_here}
use Rattle.paw_image.specs.inner.Views.{system_begins, messages_begin, objects_begin, locations_begin, exits_begin}
use Rattle.paw_image.specs.inner.Views.{tables_begin_at, rows_begin}
use Rattle.paw_image.proofs.GameLaws.{from_messages, from_objects, from_locations, from_exits, from_tables}
use Rattle.paw_image.proofs.GameLaws.{image_is, lists_image}
use Rattle.paw_image.proofs.HeadLaws.{front_image, front_length}
use Rattle.paw_image.proofs.RowLaws.{facts_image, facts_again, text_again, condact_again}
use Rattle.paw_image.proofs.SoundRows.{declared_as}
use Rattle.paw_image.proofs.VersionLaws.{needed_by, needed_byte}

-- ---- rows ----

pub all_at : {X : Type 0} (P : X → Type 0) (xs : List X) (k : ℕ) (x : X) → AllByRecursion P xs → slice_get xs k ≡ Some x → P x
all_at P [] k x h e = absurd (none-some x e)
all_at P (y ∷ ys) zero x h e = subst P (same_Some y x e) h.0
all_at P (y ∷ ys) (suc k) x h e = all_at P ys k x h.1 e

-- What follows what stands at an offset.
pub next_at : (bytes text rest : Bytes) (at : ℕ) → drop at bytes ≡ text ++ rest → drop (at + length text) bytes ≡ rest
next_at bytes text rest at e = sym (drop-drop (length text) at bytes) ∙ ap (drop (length text)) e ∙ drop_at text rest (length text) refl

-- The row that stands at the offset where it begins.
pub record RowAt {A : Type 0} (image : A → Bytes) (bytes : Bytes) (found : Option A) (p : ℕ) : Type 0 where
  pub row : A
  pub after : Bytes
  pub is : found ≡ Some row
  pub lies : drop p bytes ≡ image row ++ after

pub row_lies : {A : Type 0} (image : A → Bytes) (bytes rest : Bytes) (xs : List A) (at : ℕ) → drop at bytes ≡ flat_map image xs ++ rest
    → (k p : ℕ) → slice_get (offsets image at xs) k ≡ Some p → RowAt image bytes (slice_get xs k) p
row_lies image bytes rest [] at e k p h = absurd (none-some p h)
row_lies image bytes rest (x ∷ xs) at e zero p h =
    record { row = x; after = flat_map image xs ++ rest; is = refl; lies = rw (← same_Some at p h) (e ∙ append_assoc (image x) (flat_map image xs) rest) }
row_lies image bytes rest (x ∷ xs) at e (suc k) p h =
    row_lies image bytes rest xs (at + length (image x))
    (next_at bytes (image x) (flat_map image xs ++ rest) at (e ∙ append_assoc (image x) (flat_map image xs) rest))
    k p h

pub no_row : {A : Type 0} (image : A → Bytes) (xs : List A) (at k : ℕ) → slice_get (offsets image at xs) k ≡ None → slice_get xs k ≡ None
no_row image [] at k h = refl
no_row image (x ∷ xs) at zero h = absurd (none-some at (sym h))
no_row image (x ∷ xs) at (suc k) h = no_row image xs (at + length (image x)) k h

some_row : {A : Type 0} (image : A → Bytes) (xs : List A) (at k p : ℕ) → slice_get (offsets image at xs) k ≡ Some p → slice_get xs k ≡ None → ⊥
some_row image [] at k p h none = none-some p h
some_row image (x ∷ xs) at zero p h none = none-some x (sym none)
some_row image (x ∷ xs) at (suc k) p h none = some_row image xs (at + length (image x)) k p h none

-- ---- the lists ----

-- What stands where each list begins.
pub record ListsAt (bytes : Bytes) (g : GameLists) : Type 0 where
  pub after_system : Bytes
  pub system : drop (system_begins g) bytes ≡ flat_map text_image g.system ++ after_system
  pub after_messages : Bytes
  pub messages : drop (messages_begin g) bytes ≡ flat_map text_image g.messages ++ after_messages
  pub after_objects : Bytes
  pub objects : drop (objects_begin g) bytes ≡ flat_map object_image g.objects ++ after_objects
  pub after_locations : Bytes
  pub locations : drop (locations_begin g) bytes ≡ flat_map text_image g.locations ++ after_locations
  pub after_exits : Bytes
  pub exits : drop (exits_begin g) bytes ≡ flat_map exits_image g.exits ++ after_exits
  pub tables : drop (tables_begin_at g) bytes ≡ flat_map table_image g.tables ++ []

pub lists_lie : (bytes : Bytes) (g : GameLists) → bytes ≡ image g → ListsAt bytes g
lists_lie bytes g e =
    let d = declared_as (needed_by g) g in
    let start : 0 + length (front_image d) ≡ system_begins g = omega (arith, front_length d) in
    let whole = next_at bytes (front_image d) (lists_image g []) 0 (e ∙ image_is (needed_by g) g (needed_byte g)) in
    let system = subst (λ (n : ℕ). drop n bytes ≡ lists_image g []) start whole in
    let messages = next_at bytes (flat_map text_image g.system) (from_messages g []) (system_begins g) system in
    let objects = next_at bytes (flat_map text_image g.messages) (from_objects g []) (messages_begin g) messages in
    let locations = next_at bytes (flat_map object_image g.objects) (from_locations g []) (objects_begin g) objects in
    let exits = next_at bytes (flat_map text_image g.locations) (from_exits g []) (locations_begin g) locations in
    record {
      after_system = from_messages g [];
      system = system;
      after_messages = from_objects g [];
      messages = messages;
      after_objects = from_locations g [];
      objects = objects;
      after_locations = from_exits g [];
      locations = locations;
      after_exits = from_tables g [];
      exits = exits;
      tables = next_at bytes (flat_map exits_image g.exits) (from_tables g []) (exits_begin g) exits;
    }

-- ---- texts ----

text_there : (bytes rest : Bytes) (texts : Texts) (begin k p : ℕ) → AllByRecursion FitsText texts
    → drop begin bytes ≡ flat_map text_image texts ++ rest → slice_get (offsets text_image begin texts) k ≡ Some p
    → value_of (inner_reading.sized_text_at (drop p bytes)) ≡ slice_get texts k
text_there bytes rest texts begin k p fits lies h =
    let r = row_lies text_image bytes rest texts begin lies k p h in
    rw (r.lies, text_again r.row r.after (all_at FitsText texts k r.row fits r.is)) (sym r.is)

text_of_object : (bytes : Bytes) (os : List ObjectRow) (k p : ℕ) → AllByRecursion FitsObject os
    → RowAt object_image bytes (slice_get os k) p
    → value_of (inner_reading.sized_text_at (drop p bytes)) ≡ option_map (λ (o : ObjectRow). o.text) (slice_get os k)
text_of_object bytes os k p fits r =
    let o = r.row in
    let facts = o.facts.noun ∷ o.facts.adjective ∷ o.facts.start ∷ weight_byte o.facts.weight o.facts.container o.facts.wearable ∷ [] in
    let text = (all_at FitsObject os k o fits r.is).text in
    rw (r.lies, append_assoc (text_image o.text) facts r.after, text_again o.text (facts ++ r.after) text, r.is) refl

pub text_of_part : (bytes : Bytes) (g : GameLists) → ListsAt bytes g → FitsGame g → (p : GamePart) (k at : ℕ)
    → slice_get (rows_begin g p) k ≡ Some at → value_of (inner_reading.sized_text_at (drop at bytes)) ≡ text_at g p k
text_of_part bytes g l fits part.Words k at h = absurd (none-some at h)
text_of_part bytes g l fits part.System k at h = text_there bytes l.after_system g.system (system_begins g) k at fits.system l.system h
text_of_part bytes g l fits part.Messages k at h = text_there bytes l.after_messages g.messages (messages_begin g) k at fits.messages l.messages h
text_of_part bytes g l fits part.Objects k at h =
    text_of_object bytes g.objects k at fits.objects
    (row_lies object_image bytes l.after_objects g.objects (objects_begin g) l.objects k at h)
text_of_part bytes g l fits part.Locations k at h = text_there bytes l.after_locations g.locations (locations_begin g) k at fits.locations l.locations h
text_of_part bytes g l fits part.Exits k at h = absurd (none-some at h)
text_of_part bytes g l fits part.Tables k at h = absurd (none-some at h)

pub no_text_of_part : (g : GameLists) (p : GamePart) (k : ℕ) → slice_get (rows_begin g p) k ≡ None → text_at g p k ≡ None
no_text_of_part g part.Words k h = refl
no_text_of_part g part.System k h = no_row text_image g.system (system_begins g) k h
no_text_of_part g part.Messages k h = no_row text_image g.messages (messages_begin g) k h
no_text_of_part g part.Objects k h = rw (no_row object_image g.objects (objects_begin g) k h) refl
no_text_of_part g part.Locations k h = no_row text_image g.locations (locations_begin g) k h
no_text_of_part g part.Exits k h = refl
no_text_of_part g part.Tables k h = refl

no_object : (found : Option ObjectRow) → option_map (λ (o : ObjectRow). o.text) found ≡ None → found ≡ None
no_object None none = refl
no_object (Some o) none = absurd (none-some o.text (sym none))

-- Where a row begins there is a text.
pub some_text_of_part : (g : GameLists) (p : GamePart) (k at : ℕ) → slice_get (rows_begin g p) k ≡ Some at → text_at g p k ≡ None → ⊥
some_text_of_part g part.Words k at h none = none-some at h
some_text_of_part g part.System k at h none = some_row text_image g.system (system_begins g) k at h none
some_text_of_part g part.Messages k at h none = some_row text_image g.messages (messages_begin g) k at h none
some_text_of_part g part.Objects k at h none =
    some_row object_image g.objects (objects_begin g) k at h (no_object (slice_get g.objects k) none)
some_text_of_part g part.Locations k at h none = some_row text_image g.locations (locations_begin g) k at h none
some_text_of_part g part.Exits k at h none = none-some at h
some_text_of_part g part.Tables k at h none = none-some at h

-- ---- objects ----

pub facts_there : (bytes : Bytes) (g : GameLists) → ListsAt bytes g → FitsGame g → (k at : ℕ)
    → slice_get (rows_begin g part.Objects) k ≡ Some at → facts_here (drop at bytes) ≡ facts_at g k
unfolding facts_here
facts_there bytes g l fits k at h =
    let r = row_lies object_image bytes l.after_objects g.objects (objects_begin g) l.objects k at h in
    let o = r.row in
    let o_fits = all_at FitsObject g.objects k o fits.objects r.is in
    rw (
      r.lies,
      append_assoc (text_image o.text) (facts_image o.facts) r.after,
      text_again o.text (facts_image o.facts ++ r.after) o_fits.text,
      facts_again o.facts r.after o_fits.weight,
      r.is,
    ) refl

pub no_facts : (g : GameLists) (k : ℕ) → slice_get (rows_begin g part.Objects) k ≡ None → facts_at g k ≡ None
no_facts g k h = rw (no_row object_image g.objects (objects_begin g) k h) refl

-- ---- exits ----

exit_first : (b : Bool) (x : Exit) (later : Option Exit) → cond b (Some x.to) (option_map (λ (y : Exit). y.to) later)
    ≡ option_map (λ (y : Exit). y.to) (cond b (Some x) later)
exit_first true x later = refl
exit_first false x later = refl

exit_found : (verb : ℕ) (xs : List Exit) (rest : Bytes) → exit_in verb (length xs) (flat_map exit_image xs ++ rest) ≡ exit_of xs verb
unfolding exit_in
exit_found verb [] rest = refl
exit_found verb (x ∷ xs) rest =
    rw (exit_found verb xs rest) (exit_first (eqb x.verb verb) x (find (λ (y : Exit). eqb y.verb verb) xs))

pub exit_there : (bytes : Bytes) (g : GameLists) → ListsAt bytes g → (verb k at : ℕ)
    → slice_get (offsets exits_image (exits_begin g) g.exits) k ≡ Some at
    → exits_here verb (drop at bytes) ≡ exit_of (unwrap_or (slice_get g.exits k) []) verb
unfolding exits_here
exit_there bytes g l verb k at h =
    let r = row_lies exits_image bytes l.after_exits g.exits (exits_begin g) l.exits k at h in
    rw (r.lies, r.is) (exit_found verb r.row r.after)

pub no_exit : (g : GameLists) (verb k : ℕ) → slice_get (offsets exits_image (exits_begin g) g.exits) k ≡ None
    → exit_of (unwrap_or (slice_get g.exits k) []) verb ≡ None
no_exit g verb k h = rw (no_row exits_image g.exits (exits_begin g) k h) refl

-- ---- entries ----

-- The entries of a table, where they begin.
pub record TableAt (bytes : Bytes) (found : Option (List Entry)) (ps : List ℕ) : Type 0 where
  pub rows : List Entry
  pub at : ℕ
  pub after : Bytes
  pub is : found ≡ Some rows
  pub begin : ps ≡ offsets entry_image at rows
  pub lies : drop at bytes ≡ flat_map entry_image rows ++ after

pub table_lies : (bytes rest : Bytes) (ts : List (List Entry)) (at : ℕ) → drop at bytes ≡ flat_map table_image ts ++ rest
    → (t : ℕ) (ps : List ℕ) → slice_get (entry_offsets at ts) t ≡ Some ps → TableAt bytes (slice_get ts t) ps
table_lies bytes rest [] at e t ps h = absurd (none-some ps h)
table_lies bytes rest (es ∷ ts) at e zero ps h =
    let others = flat_map table_image ts ++ rest in
    let here : drop at bytes ≡ two_bytes (length es) ++ (flat_map entry_image es ++ others) =
    e ∙ append_assoc (table_image es) (flat_map table_image ts) rest ∙ append_assoc (two_bytes (length es)) (flat_map entry_image es) others in
    record {
      rows = es;
      at = at + 2;
      after = others;
      is = refl;
      begin = sym (same_Some (offsets entry_image (at + 2) es) ps h);
      lies = next_at bytes (two_bytes (length es)) (flat_map entry_image es ++ others) at here;
    }
table_lies bytes rest (es ∷ ts) at e (suc t) ps h =
    table_lies bytes rest ts (at + length (table_image es))
    (next_at bytes (table_image es) (flat_map table_image ts ++ rest) at
    (e ∙ append_assoc (table_image es) (flat_map table_image ts) rest)) t ps h

pub no_table : (ts : List (List Entry)) (at t : ℕ) → slice_get (entry_offsets at ts) t ≡ None → slice_get ts t ≡ None
no_table [] at t h = refl
no_table (es ∷ ts) at zero h = absurd (none-some (offsets entry_image (at + 2) es) (sym h))
no_table (es ∷ ts) at (suc t) h = no_table ts (at + length (table_image es)) t h

entry_in_table : (bytes : Bytes) (found : Option (List Entry)) (begin : Option (List ℕ)) (k p : ℕ) → ((ps : List ℕ) → begin ≡ Some ps → TableAt bytes found ps)
    → slice_get (unwrap_or begin []) k ≡ Some p → RowAt entry_image bytes (slice_get (unwrap_or found []) k) p
entry_in_table bytes found None k p there h = absurd (none-some p h)
entry_in_table bytes found (Some ps) k p there h =
    let t = there ps refl in
    rw t.is (row_lies entry_image bytes t.after t.rows t.at t.lies k p (rw t.begin at h))

-- The entry that stands at the offset where it begins.
pub entry_lies : (bytes : Bytes) (g : GameLists) → ListsAt bytes g → (t k p : ℕ)
    → slice_get (unwrap_or (slice_get (entry_offsets (tables_begin_at g) g.tables) t) []) k ≡ Some p
    → RowAt entry_image bytes (slice_get (unwrap_or (slice_get g.tables t) []) k) p
entry_lies bytes g l t k p h =
    entry_in_table bytes (slice_get g.tables t) (slice_get (entry_offsets (tables_begin_at g) g.tables) t) k p
    (table_lies bytes [] g.tables (tables_begin_at g) l.tables t) h

no_entry_in : (ts : List (List Entry)) (at t k : ℕ) → slice_get (unwrap_or (slice_get (entry_offsets at ts) t) []) k ≡ None
    → slice_get (unwrap_or (slice_get ts t) []) k ≡ None
no_entry_in [] at t k h = refl
no_entry_in (es ∷ ts) at zero k h = no_row entry_image es (at + 2) k h
no_entry_in (es ∷ ts) at (suc t) k h = no_entry_in ts (at + length (table_image es)) t k h

pub no_entry : (g : GameLists) (t k : ℕ)
    → slice_get (unwrap_or (slice_get (entry_offsets (tables_begin_at g) g.tables) t) []) k ≡ None
    → slice_get (unwrap_or (slice_get g.tables t) []) k ≡ None
no_entry g t k h = no_entry_in g.tables (tables_begin_at g) t k h

-- ---- condacts ----

condacts_pass : (cs : List Condact) (rest : Bytes) → AllByRecursion FitsCondact cs
    → each past_condact (length cs) (flat_map condact_image cs ++ rest) ≡ Ok rest
unfolding each
condacts_pass [] rest fits = refl
condacts_pass (c ∷ cs) rest fits =
    rw (
      append_assoc (condact_image c) (flat_map condact_image cs) rest,
      condact_again c (flat_map condact_image cs ++ rest) fits.0,
    ) (condacts_pass cs rest fits.1)

condact_found : (cs : List Condact) (rest : Bytes) (k : ℕ) → AllByRecursion FitsCondact cs → k < length cs
    → value_of (each past_condact k (flat_map condact_image cs ++ rest) >>= leading_condact) ≡ slice_get cs k
unfolding each
condact_found [] rest k fits lt = absurd (omega arith)
condact_found (c ∷ cs) rest zero fits lt =
    rw (
      append_assoc (condact_image c) (flat_map condact_image cs) rest,
      condact_again c (flat_map condact_image cs ++ rest) fits.0,
    ) refl
condact_found (c ∷ cs) rest (suc k) fits lt =
    rw (
      append_assoc (condact_image c) (flat_map condact_image cs) rest,
      condact_again c (flat_map condact_image cs ++ rest) fits.0,
    ) (condact_found cs rest k fits.1 (omega arith))

-- What the bytes of an entry say.
pub condact_there : (e : Entry) (after : Bytes) (k : ℕ) → AllByRecursion FitsCondact e.condacts
    → nth_condact k (entry_image e ++ after) ≡ slice_get e.condacts k
unfolding nth_condact
condact_there e after k fits =
    elim (cases_lt k (length e.condacts)) [
      | inl lt ↦ rw (lt-ltb k (length e.condacts) lt) (condact_found e.condacts after k fits lt)
      | inr le ↦ rw (le-ltb k (length e.condacts) le) (sym (slice_get_past e.condacts k le))
    ]

pub head_there : (e : Entry) (after : Bytes) → head_here (entry_image e ++ after) ≡ Some ((e.verb, e.noun), length e.condacts)
unfolding head_here
head_there e after = refl

pub entry_bytes_there : (e : Entry) (after : Bytes) → AllByRecursion FitsCondact e.condacts → entry_here (entry_image e ++ after) ≡ Some (entry_image e)
unfolding entry_here
entry_bytes_there e after fits =
    let n : length (entry_image e ++ after) - length after ≡ length (entry_image e) = omega (arith, length-append (entry_image e) after) in
    rw (condacts_pass e.condacts after fits)
    (ap Some (ap (λ (k : ℕ). take k (entry_image e ++ after)) n
    ∙ take_at (entry_image e) after (length (entry_image e)) refl))
