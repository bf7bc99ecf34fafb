-- The two laws of the whole image: what is read has the bytes as its image, and the image of a valid game is read as
-- that game.
use Rattle.std.proofs.Common.{◌≡◌, ℕ, ◌&&◌, eqb, [], ◌++◌, length, Ok, Err, Bool, true, refl, sym, ap, ◌∙◌}
use Rattle.std.proofs.Common.{append_assoc}
use Rattle.std.specs.Prelude.{if◌then◌else◌}
use Rattle.std.specs.List.{flat_map}
use Rattle.std.proofs.lemmas.Bool.{and_parts, eqb-true, eq-eqb}
use Rattle.std.proofs.lemmas.List.{append-nil, nil_from_length}
use Rattle.paw_base.specs.Bytes.{Bytes}
use Rattle.paw_game.specs.Game.{GameLists, counts_of}
use Rattle.paw_game.specs.Valid.{Valid}
use Rattle.paw_game.specs.Image.{text_image, object_image, exits_image, table_image, image, version_of}
use Rattle.paw_image.specs.Damage.{ImagePreface, front}
use Rattle.paw_image.specs.inner.Reading.{leading_rows, sized_text_at, object_at, exits_at, leading_table}
use Rattle.paw_image.specs.declared.version.Version.{Version}
use Rattle.paw_image.specs.inner.Reading.{game_with, lists_at, all_of, version_byte}
use Rattle.paw_image.specs.inner.Sizes.{FitsText, FitsObject, FitsExits, FitsTable, FitsGame}
use Rattle.paw_image.proofs.FieldLaws.{IsBytes, bind_then, follows_ok, at_ok, read_ok}
use Rattle.paw_image.proofs.HeadLaws.{front_with, front_image, front_takes, front_passes}
use Rattle.paw_image.proofs.ListLaws.{rows_take, rows_again}
use Rattle.paw_image.proofs.RowLaws.{text_takes, text_again, object_takes, object_again, exits_take, exits_again}
use Rattle.paw_image.proofs.RowLaws.{table_takes, table_again}
use Rattle.paw_image.proofs.SoundRows.{declared_as}
use Rattle.paw_image.proofs.ValidLaws.{parts_of, valid_fits}
use Rattle.paw_image.proofs.VersionLaws.{needed_by, needed_byte}

-- The lists after the words one after another, from each on, and what follows them.
abbrev pub from_tables : GameLists → Bytes → Bytes
from_tables g rest = flat_map table_image g.tables ++ rest

abbrev pub from_exits : GameLists → Bytes → Bytes
from_exits g rest = flat_map exits_image g.exits ++ from_tables g rest

abbrev pub from_locations : GameLists → Bytes → Bytes
from_locations g rest = flat_map text_image g.locations ++ from_exits g rest

abbrev pub from_objects : GameLists → Bytes → Bytes
from_objects g rest = flat_map object_image g.objects ++ from_locations g rest

abbrev pub from_messages : GameLists → Bytes → Bytes
from_messages g rest = flat_map text_image g.messages ++ from_objects g rest

abbrev pub lists_image : GameLists → Bytes → Bytes
lists_image g rest = flat_map text_image g.system ++ from_messages g rest

-- What declares as many rows as there are is what the game declares.
declared_is : (d : ImagePreface) (g : GameLists) → g.words ≡ d.words → length d.words ≡ d.counts.words
    → length g.system ≡ d.counts.system → length g.messages ≡ d.counts.messages
    → length g.objects ≡ d.counts.objects → length g.locations ≡ d.counts.locations
    → length g.tables ≡ d.counts.tables → d ≡ declared_as d.version g
declared_is d g words a b c e f h = rw (words, a, b, c, e, f, h) refl

-- Lists that were read.
pub record AreTaken (d : ImagePreface) (bytes : Bytes) (x : GameLists × Bytes) : Type 0 where
  pub parts : bytes ≡ lists_image x.0 x.1
  pub declared : length d.words ≡ d.counts.words → d ≡ declared_as d.version x.0

pub lists_take : (d : ImagePreface) (bytes : Bytes) (x : GameLists × Bytes) → IsBytes bytes → lists_at d bytes ≡ Ok x
    → AreTaken d bytes x
unfolding lists_at
lists_take d bytes x fits e =
    let counts = d.counts in
    bind_then _ (leading_rows sized_text_at counts.system bytes) _ x e (λ system system_ok e.
    bind_then _ (leading_rows sized_text_at counts.messages system.1) _ x e (λ messages messages_ok e.
    bind_then _ (leading_rows object_at counts.objects messages.1) _ x e (λ objects objects_ok e.
    bind_then _ (leading_rows sized_text_at counts.locations objects.1) _ x e (λ locations locations_ok e.
    bind_then _ (leading_rows exits_at counts.locations locations.1) _ x e (λ exits exits_ok e.
    bind_then _ (leading_rows leading_table counts.tables exits.1) _ x e (λ tables tables_ok e.
    let texts = rows_take sized_text_at text_image text_takes in
    let system_taken = texts counts.system bytes system fits system_ok in
    let messages_taken = texts counts.messages system.1 messages system_taken.0.rest_fits messages_ok in
    let objects_taken =
    rows_take object_at object_image object_takes counts.objects messages.1 objects messages_taken.0.rest_fits
    objects_ok in
    let locations_taken = texts counts.locations objects.1 locations objects_taken.0.rest_fits locations_ok in
    let exits_taken =
    rows_take exits_at exits_image exits_take counts.locations locations.1 exits locations_taken.0.rest_fits exits_ok in
    let tables_taken =
    rows_take leading_table table_image table_takes counts.tables exits.1 tables exits_taken.0.rest_fits tables_ok in
    let to_exits = exits_taken.0.parts ∙ ap (λ t. flat_map exits_image exits.0 ++ t) tables_taken.0.parts in
    let to_locations = locations_taken.0.parts ∙ ap (λ t. flat_map text_image locations.0 ++ t) to_exits in
    let to_objects = objects_taken.0.parts ∙ ap (λ t. flat_map object_image objects.0 ++ t) to_locations in
    let to_messages = messages_taken.0.parts ∙ ap (λ t. flat_map text_image messages.0 ++ t) to_objects in
    let lists = game_with d.words system.0 messages.0 objects.0 locations.0 exits.0 tables.0 in
    at_ok (λ (y : GameLists × Bytes). AreTaken d bytes y) _ x e (record {
      parts = system_taken.0.parts ∙ ap (λ t. flat_map text_image system.0 ++ t) to_messages;
      declared = λ many. declared_is d lists refl many system_taken.1 messages_taken.1 objects_taken.1
          locations_taken.1 tables_taken.1;
    })))))))

lists_again : (v : Version) (g : GameLists) (rest : Bytes) → FitsGame g
    → lists_at (declared_as v g) (lists_image g rest) ≡ Ok (g, rest)
unfolding lists_at
lists_again v g rest fits =
    let texts = rows_again sized_text_at text_image FitsText text_again in
    let all_exits = rows_again exits_at exits_image FitsExits exits_again g.exits (from_tables g rest) fits.exits in
    let exits : leading_rows exits_at (length g.locations) (from_exits g rest) ≡ Ok (g.exits, from_tables g rest) =
    rw (← fits.counts.exits) all_exits in
    rw (
      texts g.system (from_messages g rest) fits.system,
      texts g.messages (from_objects g rest) fits.messages,
      rows_again object_at object_image FitsObject object_again g.objects (from_locations g rest) fits.objects,
      texts g.locations (from_exits g rest) fits.locations,
      exits,
      rows_again leading_table table_image FitsTable table_again g.tables rest fits.tables,
    ) refl

pub image_is : (v : Version) (g : GameLists) → version_byte v ≡ version_of g
    → image g ≡ front_image (declared_as v g) ++ lists_image g []
image_is v g is =
    let spelled : image g ≡ front_with (version_of g) (counts_of g) g.words ++ lists_image g [] = simp (append_assoc, append-nil) in
    spelled ∙ ap (λ (byte : ℕ). front_with byte (counts_of g) g.words ++ lists_image g []) (sym is)

-- What is read is the game, where nothing is left and the version is right.
pub ended : (g : GameLists) (right : Bool) → right ≡ true → (if eqb (length {A = ℕ} []) 0 && right then read_ok g else Err 0) ≡ Ok g
ended g right h = rw h refl

pub all_takes : (bytes : Bytes) (g : GameLists) → IsBytes bytes → all_of bytes ≡ Ok g → bytes ≡ image g
unfolding all_of
all_takes bytes g fits e =
    bind_then _ (front bytes) _ g e (λ d d_ok e.
    bind_then _ (lists_at d.0 d.1) _ g e (λ lists lists_ok e.
    let kept = follows_ok (eqb (length lists.1) 0 && eqb (version_byte d.0.version) (version_of lists.0)) _ _ g e in
    let tests = and_parts (eqb (length lists.1) 0) _ kept.0 in
    let version = eqb-true (version_byte d.0.version) (version_of lists.0) tests.1 in
    let fronted = front_takes bytes d fits d_ok in
    let taken = lists_take d.0 d.1 lists fronted.taken.rest_fits lists_ok in
    let lists_are =
    taken.parts ∙ ap (λ t. lists_image lists.0 t) (nil_from_length lists.1 (eqb-true _ _ tests.0)) in
    let front_is = ap (λ (f : ImagePreface). front_image f ++ lists_image lists.0 []) (taken.declared fronted.many) in
    at_ok (λ (y : GameLists). bytes ≡ image y) lists.0 g kept.1
    (fronted.taken.parts ∙ ap (λ t. front_image d.0 ++ t) lists_are ∙ front_is ∙ sym (image_is d.0.version lists.0 version))))

pub all_again : (g : GameLists) → Valid g → all_of (image g) ≡ Ok g
unfolding all_of
all_again g v =
    let needs = needed_by g in
    ap all_of (image_is needs g (needed_byte g))
    ∙ rw (front_passes needs g (lists_image g []) (parts_of g v), lists_again needs g [] (valid_fits g v))
    (ended g (eqb (version_byte needs) (version_of g)) (eq-eqb (version_byte needs) (version_of g) (needed_byte g)))
