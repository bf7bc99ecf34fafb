-- The bytes in which no rule is broken are the images of the valid games.
use Rattle.std.proofs.Common.{◌≡◌, ℕ, ◌+◌, ◌<◌, ◌&&◌, Bool, true, false, leb, eqb, [], ◌∷◌, length, Some, None}
use Rattle.std.proofs.Common.{Ok, Err}
use Rattle.std.proofs.Common.{refl, sym, ap, subst, ◌∙◌, inl, inr, arith}
use Rattle.std.specs.List.{flat_map, list_all}
use Rattle.std.proofs.lemmas.Bool.{and_parts, cases_lt, lt-ltb, le-ltb, eq-eqb}
use Rattle.std.specs.Prelude.{Option, if◌then◌else◌}
use Rattle.std.specs.Option.{option_or}
use Rattle.std.proofs.lemmas.Option.{none-some}
use Rattle.paw_game.specs.Game.{GameLists}
use Rattle.paw_game.specs.Valid.{Valid, is_within, is_word, words_rise, is_text, is_object, exits_are_valid}
use Rattle.paw_game.specs.Image.{word_image, text_image, object_image, exits_image, table_image, image, has_indirect}
use Rattle.paw_game.specs.Image.{version_of}
use Rattle.paw_game.proofs.Faults.{rise_after, rise_after-none}
use Rattle.paw_base.specs.Bytes.{Bytes}
use Rattle.paw_base.specs.declared.limits.TheConstants.{IMAGE_LIMIT, WORD_LIMIT, SYSTEM_LIMIT, MESSAGE_LIMIT}
use Rattle.paw_base.specs.declared.limits.TheConstants.{OBJECT_LIMIT, LOCATION_LEAST, LOCATION_LIMIT, TABLE_LEAST}
use Rattle.paw_base.specs.declared.limits.TheConstants.{TABLE_LIMIT}
use Rattle.paw_image.specs.inner.Milestones.{IsEnd}
use Rattle.paw_image.specs.Images.{IsImage}
use Rattle.paw_image.specs.declared.version.Version.{Version}
use Rattle.paw_image.specs.declared.version.Version.TheVariants.{One}
use Rattle.paw_image.specs.Reading.{Reading}
use Rattle.paw_image.specs.inner.Reading.{IsFault, sized_text_at, object_at, exits_at, lists_at, all_of, version_byte}
use Rattle.paw_image.specs.Damage.{ImagePreface, Passing, each, after_text, after_object, after_exits, after_table}
use Rattle.paw_image.specs.Damage.{after_lists, front, after_all, as_version_1, is_needless_after, is_needless}
use Rattle.paw_image.specs.Damage.{offset_in, bad}
use Rattle.paw_image.specs.inner.Offsets.{offsets, entry_offsets, entries_of, AreGoneOver}
use Rattle.paw_image.specs.inner.Views.{system_begins}
use Rattle.paw_image.specs.declared.offsets.Offsets.{Offsets}
use Rattle.paw_image.proofs.EndLaws.{end_taken}
use Rattle.paw_image.proofs.FieldLaws.{IsBytes, at_ok, bind_then}
use Rattle.paw_image.proofs.RowLaws.{text_takes, object_takes, exits_take}
use Rattle.paw_image.proofs.GameLaws.{from_messages, from_objects, from_locations, from_exits, from_tables}
use Rattle.paw_image.proofs.GameLaws.{lists_image, lists_take, image_is, ended, all_takes}
use Rattle.paw_image.proofs.HeadLaws.{AreFew, front_image, front_length, Fronted, front_takes, front_passes}
use Rattle.paw_image.proofs.Stands.{and_true, each_sound, each_passes, taken_length, taken_ends}
use Rattle.paw_image.proofs.SoundRows.{declared_as, text_sound, object_sound, exits_sound, each_table_begins, table_follows}
use Rattle.paw_image.proofs.VersionLaws.{tables_valid, tables_stop, needed_by, needed_byte, needed_follows, is_needed}
use Rattle.paw_image.proofs.VersionLaws.{right_version}
use Rattle.paw_image.proofs.PassRows.{text_passes, object_passes, exits_pass, table_passes}
use Rattle.paw_image.proofs.ValidLaws.{parts_of}

-- ---- the lists ----

-- Where the rows of the lists begin that follow the words, which end at an offset.
pub record StandAt (start : ℕ) (g : GameLists) (p : Offsets) : Type 0 where
  pub system : p.system.items ≡ offsets text_image start g.system
  pub messages : p.messages.items ≡ offsets text_image (start + length (flat_map text_image g.system)) g.messages
  pub objects : p.objects.items ≡ offsets object_image (start + length (flat_map text_image g.system) + length (flat_map text_image g.messages)) g.objects
  pub locations : p.locations.items
      ≡ offsets text_image
      (start + length (flat_map text_image g.system) + length (flat_map text_image g.messages)
      + length (flat_map object_image g.objects)) g.locations
  pub exits : p.exits.items
      ≡ offsets exits_image (start + length (flat_map text_image g.system) + length (flat_map text_image g.messages) + length (flat_map object_image g.objects)
      + length (flat_map text_image g.locations)) g.exits
  pub tables : entries_of p.tables.items
      ≡ entry_offsets (start + length (flat_map text_image g.system) + length (flat_map text_image g.messages) + length (flat_map object_image g.objects)
      + length (flat_map text_image g.locations) + length (flat_map exits_image g.exits)) g.tables

-- The lists after the words, as they are read by their rules.
record AreRead (d : ImagePreface) (bytes rest : Bytes) : Type 0 where
  game : GameLists
  reads : lists_at d bytes ≡ Ok (game, rest)
  system : list_all is_text game.system ≡ true
  messages : list_all is_text game.messages ≡ true
  objects : list_all (is_object d.words d.counts.locations) game.objects ≡ true
  locations : list_all is_text game.locations ≡ true
  exits : list_all (exits_are_valid d.words d.counts.locations) game.exits ≡ true
  as_many : length game.exits ≡ d.counts.locations
  tables : list_all (table_follows d) game.tables ≡ true
  begin : (total start : ℕ) (p : Offsets) → start + length bytes ≡ total → AreGoneOver d total bytes p
      → StandAt start game p

lists_sound : (d : ImagePreface) (bytes rest : Bytes) → IsBytes bytes → after_lists d bytes ≡ Ok rest
    → AreRead d bytes rest
unfolding after_lists lists_at
lists_sound d bytes rest fits e =
    let c = d.counts in
    bind_then _ (each after_text c.system bytes) _ rest e (λ at_messages system_ok e.
    bind_then _ (each after_text c.messages at_messages) _ rest e (λ at_objects messages_ok e.
    bind_then _ (each (after_object d) c.objects at_objects) _ rest e (λ at_locations objects_ok e.
    bind_then _ (each after_text c.locations at_locations) _ rest e (λ at_exits locations_ok e.
    bind_then _ (each (after_exits d) c.locations at_exits) _ rest e (λ at_tables exits_ok e.
    let texts = each_sound after_text sized_text_at text_image is_text text_takes text_sound in
    let system = texts c.system bytes at_messages fits system_ok in
    let messages = texts c.messages at_messages at_objects system.taken.rest_fits messages_ok in
    let objects =
    each_sound (after_object d) object_at object_image (is_object d.words c.locations) object_takes (object_sound d)
    c.objects at_objects at_locations messages.taken.rest_fits objects_ok in
    let locations = texts c.locations at_locations at_exits objects.taken.rest_fits locations_ok in
    let exits =
    each_sound (after_exits d) exits_at exits_image (exits_are_valid d.words c.locations) exits_take (exits_sound d)
    c.locations at_exits at_tables locations.taken.rest_fits exits_ok in
    let tables = each_table_begins d c.tables at_tables rest exits.taken.rest_fits e in
    record {
      game = record {
        words = d.words;
        system = system.value;
        messages = messages.value;
        objects = objects.value;
        locations = locations.value;
        exits = exits.value;
        tables = tables.value;
      };
      reads = rw (system.reads, messages.reads, objects.reads, locations.reads, exits.reads, tables.reads) refl;
      system = system.follows;
      messages = messages.follows;
      objects = objects.follows;
      locations = locations.follows;
      exits = exits.follows;
      as_many = exits.many;
      tables = tables.follows;
      begin = λ total start p h over.
          let messages_at = taken_ends bytes _ at_messages total start system.taken h in
          let objects_at = taken_ends at_messages _ at_objects total _ messages.taken messages_at in
          let locations_at = taken_ends at_objects _ at_locations total _ objects.taken objects_at in
          let exits_at_ = taken_ends at_locations _ at_exits total _ locations.taken locations_at in
          let tables_at = taken_ends at_exits _ at_tables total _ exits.taken exits_at_ in
          record {
            system = over.system ∙ system.begin total start h;
            messages = over.messages ∙ rw system_ok (messages.begin total _ messages_at);
            objects = over.objects ∙ rw (system_ok, messages_ok) (objects.begin total _ objects_at);
            locations = over.locations ∙ rw (system_ok, messages_ok, objects_ok) (locations.begin total _ locations_at);
            exits = over.exits ∙ rw (system_ok, messages_ok, objects_ok, locations_ok) (exits.begin total _ exits_at_);
            tables = over.tables
                ∙ rw (system_ok, messages_ok, objects_ok, locations_ok, exits_ok) (tables.begin total _ tables_at);
          };
    })))))

-- What the front declares, and the lists that follow its rules, make a valid game.
valid_from : (bytes : Bytes) (x : ImagePreface × Bytes) (rest : Bytes) → Fronted bytes x
    → (r : AreRead x.0 x.1 rest) → x.0 ≡ declared_as x.0.version r.game → Valid r.game
valid_from bytes x rest f r is =
    let g = r.game in
    let few = subst (λ (d : ImagePreface). AreFew d.counts) is f.few in
    let follow = subst (λ (d : ImagePreface). list_all is_word d.words ≡ true) is f.follow in
    let rise = subst (λ (d : ImagePreface). rise_after [] d.words ≡ true) is f.rise in
    let right_words : (list_all is_word g.words && words_rise g.words) ≡ true =
    sym (rise_after-none g.words) ∙ rw (follow, rise) refl in
    let right_objects = subst (λ (d : ImagePreface). list_all (is_object d.words d.counts.locations) g.objects ≡ true) is r.objects in
    let right_exits = subst (λ (d : ImagePreface). list_all (exits_are_valid d.words d.counts.locations) g.exits ≡ true) is r.exits in
    let as_many = subst (λ (d : ImagePreface). length g.exits ≡ d.counts.locations) is r.as_many in
    let right_tables = subst (λ (d : ImagePreface). list_all (table_follows d) g.tables ≡ true) is r.tables in
    let locations = and_parts (leb LOCATION_LEAST (length g.locations))
    (leb (length g.locations) LOCATION_LIMIT) few.locations in
    record {
      words = and_true (leb (length g.words) WORD_LIMIT) _
          (and_parts (leb 0 (length g.words)) _ few.words).1 right_words;
      system = and_true (leb (length g.system) SYSTEM_LIMIT) _
          (and_parts (leb 0 (length g.system)) _ few.system).1 r.system;
      messages = and_true (leb (length g.messages) MESSAGE_LIMIT) _
          (and_parts (leb 0 (length g.messages)) _ few.messages).1
          r.messages;
      objects = and_true (leb (length g.objects) OBJECT_LIMIT) _ (and_parts (leb 0 (length g.objects)) _ few.objects).1
          right_objects;
      locations = and_true (leb LOCATION_LEAST (length g.locations)) _ locations.0
          (and_true (leb (length g.locations) LOCATION_LIMIT) _ locations.1 r.locations);
      exits = and_true (eqb (length g.exits) (length g.locations)) _
          (eq-eqb (length g.exits) (length g.locations) as_many) right_exits;
      tables = and_true (is_within TABLE_LEAST TABLE_LIMIT (length g.tables)) _ few.tables (tables_valid g x.0.version g.tables right_tables);
    }

-- The lists of a valid game pass up to its tables.
tables_reached : (version : Version) (g : GameLists) (rest : Bytes) → Valid g
    → after_lists (declared_as version g) (lists_image g rest)
    ≡ each (after_table (declared_as version g)) (length g.tables) (from_tables g rest)
unfolding after_lists
tables_reached version g rest valid =
    let d = declared_as version g in
    let v = parts_of g valid in
    let texts = each_passes after_text text_image is_text text_passes in
    let objects = each_passes (after_object d) object_image (is_object g.words (length g.locations)) (object_passes d) in
    let all_exits = each_passes (after_exits d) exits_image (exits_are_valid g.words (length g.locations)) (exits_pass d) in
    let exits = subst (λ (n : ℕ). each (after_exits d) n (from_exits g rest) ≡ Ok (from_tables g rest)) v.exits_many
    (all_exits g.exits (from_tables g rest) v.exits_follow) in
    rw (
      texts g.system (from_messages g rest) v.system_follow,
      texts g.messages (from_objects g rest) v.messages_follow,
      objects g.objects (from_locations g rest) v.objects_follow,
      texts g.locations (from_exits g rest) v.locations_follow,
      exits,
    ) refl

lists_pass : (version : Version) (g : GameLists) (rest : Bytes) → Valid g
    → list_all (table_follows (declared_as version g)) g.tables ≡ true
    → after_lists (declared_as version g) (lists_image g rest) ≡ Ok rest
lists_pass version g rest valid follow =
    let d = declared_as version g in
    tables_reached version g rest valid
    ∙ each_passes (after_table d) table_image (table_follows d) (table_passes d) g.tables rest follow

-- ---- all of the bytes ----

-- Bytes that are read by their rules to the end.
pub record IsWhole (bytes : Bytes) : Type 0 where
  pub game : GameLists
  pub reads : all_of bytes ≡ Ok game
  pub valid : Valid game
  pub declared : (d : ImagePreface × Bytes) → front bytes ≡ Ok d → d.0 ≡ declared_as d.0.version game
  pub end : (d : ImagePreface × Bytes) → front bytes ≡ Ok d → IsEnd bytes d.1
  pub begin : (d : ImagePreface × Bytes) (p : Offsets) → front bytes ≡ Ok d → AreGoneOver d.0 (length bytes) d.1 p
      → StandAt (system_begins game) game p

pub all_sound : (bytes : Bytes) → IsBytes bytes → after_all bytes ≡ Ok [] → is_needless bytes ≡ false → IsWhole bytes
unfolding after_all all_of is_needless
all_sound bytes fits e needed =
    bind_then _ (front bytes) _ [] e (λ d d_ok e.
    let fronted = front_takes bytes d fits d_ok in
    let lists = lists_sound d.0 d.1 [] fronted.taken.rest_fits e in
    let taken = lists_take d.0 d.1 (lists.game, []) fronted.taken.rest_fits lists.reads in
    let is = taken.declared fronted.many in
    let g = lists.game in
    let follow = subst (λ (f : ImagePreface). list_all (table_follows f) g.tables ≡ true) is lists.tables in
    let valid = valid_from bytes d [] fronted lists is in
    let passes : list_all (table_follows (declared_as One g)) g.tables ≡ true → after_lists (as_version_1 d.0) d.1 ≡ Ok [] =
    λ plain. ap (λ (f : ImagePreface). after_lists (as_version_1 f) d.1) is ∙ ap (after_lists (declared_as One g)) taken.parts
    ∙ lists_pass One g [] valid plain in
    let version = right_version d.0.version g (after_lists (as_version_1 d.0) d.1) follow
    (subst (λ (r : Reading ImagePreface). is_needless_after r ≡ false) d_ok needed) passes in
    let start = 17 + length (flat_map word_image d.0.words) in
    let ends : start + length d.1 ≡ length bytes =
    omega (arith, front_length d.0, taken_length bytes (front_image d.0) d.1 fronted.taken) in
    record {
      game = lists.game;
      reads = rw (d_ok, lists.reads) (ended g (eqb (version_byte d.0.version) (version_of g)) (eq-eqb (version_byte d.0.version) (version_of g) version));
      valid = valid;
      declared = λ d2 d2_ok. at_ok (λ (y : ImagePreface × Bytes). y.0 ≡ declared_as y.0.version lists.game) d d2 (sym d_ok ∙ d2_ok) is;
      end = λ d2 d2_ok.
          at_ok (λ (y : ImagePreface × Bytes). IsEnd bytes y.1) d d2 (sym d_ok ∙ d2_ok)
          (end_taken bytes (front_image d.0) d.1 fronted.taken);
      begin = λ d2 p d2_ok over.
          let over_here =
          at_ok (λ (y : ImagePreface × Bytes). AreGoneOver y.0 (length bytes) y.1 p) d2 d (sym d2_ok ∙ d_ok) over in
          subst (λ (f : ImagePreface). StandAt (17 + length (flat_map word_image f.words)) lists.game p) is
          (lists.begin (length bytes) start p ends over_here);
    })

pub all_passes : (g : GameLists) → Valid g → after_all (image g) ≡ Ok []
unfolding after_all
all_passes g v =
    let needs = needed_by g in
    ap after_all (image_is needs g (needed_byte g))
    ∙ rw (front_passes needs g (lists_image g []) (parts_of g v)) (lists_pass needs g [] v (needed_follows g (parts_of g v).tables_follow))

pub all_needed : (g : GameLists) → Valid g → is_needless (image g) ≡ false
unfolding is_needless
all_needed g v =
    let needs = needed_by g in
    let stops : has_indirect g.tables ≡ true → IsFault (after_lists (declared_as One g) (lists_image g [])) =
    λ indirect. rw (tables_reached One g [] v) (tables_stop g g.tables [] (parts_of g v).tables_follow indirect) in
    ap is_needless (image_is needs g (needed_byte g))
    ∙ rw (front_passes needs g (lists_image g []) (parts_of g v)) (is_needed g _ stops)

-- ---- the offset of the first broken rule ----

pub nothing_left : (total : ℕ) (p : Passing) → offset_in total p ≡ None → p ≡ Ok []
nothing_left total (Err left) e = absurd cc
nothing_left total (Ok []) e = refl
nothing_left total (Ok (b ∷ bytes)) e = absurd cc

-- Where no offset is named, the first one isn't, nor is the other asked for.
pub both_none : (first : Option ℕ) (asked : Bool) (n : ℕ) → option_or first (if asked then Some n else None) ≡ None
    → (first ≡ None) × (asked ≡ false)
both_none None false n e = (refl, refl)
both_none None true n e = absurd (none-some n (sym e))
both_none (Some x) asked n e = absurd (none-some x (sym e))

pub whole_is_image : (bytes : Bytes) → IsBytes bytes → bad bytes ≡ None → (g : GameLists) × IsImage bytes g
unfolding bad
whole_is_image bytes fits e =
    elim (cases_lt IMAGE_LIMIT (length bytes)) [
      | inl over ↦ absurd (none-some IMAGE_LIMIT (sym e ∙ rw (lt-ltb IMAGE_LIMIT (length bytes) over) refl))
      | inr le ↦
          let none = both_none _ (is_needless bytes) 4 (rw (le-ltb IMAGE_LIMIT (length bytes) le) at e) in
          let read = all_sound bytes fits (nothing_left (length bytes) (after_all bytes) none.0) none.1 in
          (read.game, record { spelled = all_takes bytes read.game fits read.reads; valid = read.valid; short = le })
    ]

pub image_is_whole : (bytes : Bytes) (g : GameLists) → IsImage bytes g → bad bytes ≡ None
unfolding bad
image_is_whole bytes g is =
    let passed : after_all bytes ≡ Ok [] = ap after_all is.spelled ∙ all_passes g is.valid in
    let needed : is_needless bytes ≡ false = ap is_needless is.spelled ∙ all_needed g is.valid in
    rw (le-ltb IMAGE_LIMIT (length bytes) is.short, passed, needed) refl

pub over_is_bad : (bytes : Bytes) → IMAGE_LIMIT < length bytes → bad bytes ≡ Some IMAGE_LIMIT
unfolding bad
over_is_bad bytes over = rw (lt-ltb IMAGE_LIMIT (length bytes) over) refl
