-- How long the image of a valid game may be.
use Rattle.std.proofs.Common.{◌≡◌, ℕ, ◌+◌, ◌*◌, ◌^◌, ◌<◌, ◌≤◌, Bool, true, leb, List, [], ◌∷◌, ◌++◌, length, refl}
use Rattle.std.proofs.Common.{arith, suc-mul}
use Rattle.std.specs.List.{flat_map, list_all}
use Rattle.std.proofs.lemmas.Bool.{and_parts, leb-true}
use Rattle.std.proofs.lemmas.List.{length-append}
use Rattle.paw_base.specs.Bytes.{Text, Bytes}
use Rattle.paw_base.specs.declared.parts.Condact.{Condact}
use Rattle.paw_base.specs.declared.rows.ParamKind.{ParamKind}
use Rattle.paw_base.specs.declared.rows.ParamKind.TheVariants as kind
use Rattle.paw_base.specs.Condacts.{first_kind, second_kind, param_count, params_of}
use Rattle.paw_base.specs.declared.limits.TheConstants.{TEXT_LIMIT, EXIT_LIMIT, ENTRY_LIMIT, CONDACT_LIMIT}
use Rattle.paw_game.specs.declared.parts.Word.{Word}
use Rattle.paw_game.specs.declared.parts.ObjectRow.{ObjectRow}
use Rattle.paw_game.specs.declared.parts.Exit.{Exit}
use Rattle.paw_game.specs.declared.parts.Entry.{Entry}
use Rattle.paw_game.specs.Game.{GameLists}
use Rattle.paw_game.specs.Valid.{Valid, is_word, is_text, is_object, exits_are_valid, is_condact, is_entry, is_table}
use Rattle.paw_game.specs.Image.{two_bytes, head_image, word_image, text_image, object_image, exit_image, exits_image}
use Rattle.paw_game.specs.Image.{parameter_image, condact_image, entry_image, table_image, image}
use Rattle.paw_image.specs.inner.Sizes.{FitsWord}
use Rattle.paw_image.proofs.ValidLaws.{word_fits, parts_of, tables_few}

-- ---- rows ----

pub rows_at_most : {A : Type 0} (image : A → Bytes) (rule : A → Bool) (most : ℕ) → ((x : A) → rule x ≡ true → length (image x) ≤ most)
    → (xs : List A) → list_all rule xs ≡ true → length (flat_map image xs) ≤ length xs * most
rows_at_most image rule most each [] h = omega arith
rows_at_most image rule most each (x ∷ xs) h =
    let both = and_parts (rule x) (list_all rule xs) h in
    rw (length-append (image x) (flat_map image xs), suc-mul (length xs) most) (omega (arith, each x both.0, rows_at_most image rule most each xs both.1))

pub text_length : (text : Text) → length (text_image text) ≡ 2 + length text
text_length text = length-append (two_bytes (length text)) text

text_most : (text : Text) → is_text text ≡ true → length (text_image text) ≤ TEXT_LIMIT + 2
text_most text h = omega (arith, text_length text, leb-true _ _ (and_parts (leb (length text) TEXT_LIMIT) _ h).0)

pub word_length : (w : Word) → FitsWord w → length (word_image w) ≡ 7
word_length w fits = omega (arith, length-append w.letters (w.value ∷ w.class ∷ []), fits)

word_most : (w : Word) → is_word w ≡ true → length (word_image w) ≤ 7
word_most w h = omega (arith, word_length w (word_fits w h))

pub object_length : (o : ObjectRow) → length (object_image o) ≡ length (text_image o.text) + 4
object_length o = length-append (text_image o.text) _

object_most : (ws : List Word) (locations : ℕ) (o : ObjectRow) → is_object ws locations o ≡ true → length (object_image o) ≤ TEXT_LIMIT + 6
object_most ws locations o h = omega (arith, object_length o, text_most o.text (and_parts (is_text o.text) _ h).0)

all_true : {A : Type 0} (xs : List A) → list_all (λ _. true) xs ≡ true
all_true [] = refl
all_true (x ∷ xs) = all_true xs

exits_most : (ws : List Word) (locations : ℕ) (xs : List Exit) → exits_are_valid ws locations xs ≡ true → length (exits_image xs) ≤ 511
exits_most ws locations xs h =
    omega (arith, leb-true _ _ (and_parts (leb (length xs) EXIT_LIMIT) _ h).0, rows_at_most exit_image (λ _. true) 2 (λ x _. omega arith) xs (all_true xs))

parameter_length : (k : ParamKind) (x : ℕ) → length (parameter_image k x) ≡ param_count k
parameter_length kind.Absent x = refl
parameter_length _ x = refl

param_count-most : (k : ParamKind) → param_count k ≤ 1
param_count-most kind.Absent = omega arith
param_count-most _ = omega arith

pub condact_length : (c : Condact) → length (condact_image c) ≡ 1 + params_of c.code
condact_length c =
    let first = parameter_image (first_kind c.code) c.a in
    let second = parameter_image (second_kind c.code) c.b in
    omega (arith, length-append first second, parameter_length (first_kind c.code) c.a, parameter_length (second_kind c.code) c.b)

condact_most : (g : GameLists) (c : Condact) → is_condact g c ≡ true → length (condact_image c) ≤ 3
condact_most g c h = omega (arith, condact_length c, param_count-most (first_kind c.code), param_count-most (second_kind c.code))

entry_most : (g : GameLists) (e : Entry) → is_entry g e ≡ true → length (entry_image e) ≤ 768
entry_most g e h =
    let noun = (and_parts _ _ h).1 in
    let condacts = and_parts (leb (length e.condacts) CONDACT_LIMIT) (list_all (is_condact g) e.condacts) (and_parts _ _ noun).1 in
    omega (arith, leb-true _ _ condacts.0, rows_at_most condact_image (is_condact g) 3 (condact_most g) e.condacts condacts.1)

table_most : (g : GameLists) (es : List Entry) → is_table g es ≡ true → length (table_image es) ≤ 3072002
table_most g es h =
    let both = and_parts (leb (length es) ENTRY_LIMIT) (list_all (is_entry g) es) h in
    omega (
      arith,
      leb-true _ _ both.0,
      length-append (two_bytes (length es)) (flat_map entry_image es),
      rows_at_most entry_image (is_entry g) 768 (entry_most g) es both.1,
    )

-- ---- the whole image ----

pub image_parts : (g : GameLists)
    → length (image g) ≡ 17 + length (flat_map word_image g.words) + length (flat_map text_image g.system)
    + length (flat_map text_image g.messages) + length (flat_map object_image g.objects)
    + length (flat_map text_image g.locations)
    + length (flat_map exits_image g.exits) + length (flat_map table_image g.tables)
image_parts g =
    let to_words = head_image g ++ flat_map word_image g.words in
    let to_system = to_words ++ flat_map text_image g.system in
    let to_messages = to_system ++ flat_map text_image g.messages in
    let to_objects = to_messages ++ flat_map object_image g.objects in
    let to_locations = to_objects ++ flat_map text_image g.locations in
    let to_exits = to_locations ++ flat_map exits_image g.exits in
    rw (
      length-append to_exits (flat_map table_image g.tables),
      length-append to_locations (flat_map exits_image g.exits),
      length-append to_objects (flat_map text_image g.locations),
      length-append to_messages (flat_map object_image g.objects),
      length-append to_system (flat_map text_image g.messages),
      length-append to_words (flat_map text_image g.system),
      length-append (head_image g) (flat_map word_image g.words),
    ) refl

pub image_short : (g : GameLists) → Valid g → length (image g) < 2 ^ 32
image_short g v =
    let parts = parts_of g v in
    let locations = length g.locations in
    omega (
      arith,
      image_parts g,
      leb-true _ _ parts.words_few,
      rows_at_most word_image is_word 7 word_most g.words parts.words_follow,
      leb-true _ _ parts.system_few,
      rows_at_most text_image is_text (TEXT_LIMIT + 2) text_most g.system parts.system_follow,
      leb-true _ _ parts.messages_few,
      rows_at_most text_image is_text (TEXT_LIMIT + 2) text_most g.messages parts.messages_follow,
      leb-true _ _ parts.objects_few,
      rows_at_most object_image (is_object g.words locations) (TEXT_LIMIT + 6) (object_most g.words locations) g.objects parts.objects_follow,
      leb-true _ _ parts.locations_few,
      rows_at_most text_image is_text (TEXT_LIMIT + 2) text_most g.locations parts.locations_follow,
      parts.exits_many,
      rows_at_most exits_image (exits_are_valid g.words locations) 511 (exits_most g.words locations) g.exits parts.exits_follow,
      tables_few g parts,
      rows_at_most table_image (is_table g) 3072002 (table_most g) g.tables parts.tables_follow,
    )
