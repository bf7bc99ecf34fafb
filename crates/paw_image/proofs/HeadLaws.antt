-- The front of an image: what is read of it stands there as its image, and follows its rules; and the front of the
-- image of a valid game is read as what the game declares.
use Rattle.std.proofs.Common.{◌≡◌, ℕ, zero, suc, ◌+◌, ◌&&◌, true, leb, List, [], ◌∷◌, ◌++◌, length, Result, Ok}
use Rattle.std.proofs.Common.{refl, ap, subst, ◌∙◌, append_assoc, arith, lit<}
use Rattle.std.specs.Prelude.{codes}
use Rattle.std.specs.List.{flat_map, list_all}
use Rattle.std.specs.Str.{bytes_eq}
use Rattle.std.specs.Ordering.{is_lt, nat_cmp}
use Rattle.std.specs.Cmp.Lexicographic.{slice_cmp}
use Rattle.std.proofs.lemmas.Bool.{and_parts, leb-true, le-leb}
use Rattle.std.proofs.lemmas.List.{length-append}
use Rattle.std.proofs.lemmas.Slice.Eq.{bytes_eq-Decides}
use Rattle.paw_base.specs.Bytes.{Bytes}
use Rattle.paw_base.specs.declared.limits.TheConstants.{WORD_LENGTH, WORD_LIMIT, SYSTEM_LIMIT, MESSAGE_LIMIT}
use Rattle.paw_base.specs.declared.limits.TheConstants.{OBJECT_LIMIT, LOCATION_LEAST, LOCATION_LIMIT, TABLE_LEAST}
use Rattle.paw_base.specs.declared.limits.TheConstants.{TABLE_LIMIT}
use Rattle.paw_base.specs.declared.words.TheConstants.{PRONOUN_CLASS, LEAST_WORD, GREATEST_WORD}
use Rattle.paw_base.specs.declared.parts.Counts.{Counts}
use Rattle.paw_game.specs.declared.parts.Word.{Word}
use Rattle.paw_game.specs.Game.{GameLists, counts_of}
use Rattle.paw_game.specs.Valid.{is_within, are_letters, is_word}
use Rattle.paw_game.specs.Image.{two_bytes, word_image}
use Rattle.paw_game.proofs.Faults.{rise_after}
use Rattle.paw_read_error.specs.Bind.{◌>>=◌}
use Rattle.paw_image.specs.declared.version.Version.{Version}
use Rattle.paw_image.specs.declared.version.Version.TheVariants.{One, Two}
use Rattle.paw_image.specs.Reading.{byte_at, bytes_at, number_at}
use Rattle.paw_image.specs.inner.Reading.{version_byte}
use Rattle.paw_image.specs.Damage.{ImagePreface, checked_number, version_of_byte, checked_version, checked_counts}
use Rattle.paw_image.specs.Damage.{checked_word, words_above, front}
use Rattle.paw_image.proofs.FieldLaws.{IsBytes, Takes, Takes-then, at_ok, bind_then, byte_takes, bytes_take}
use Rattle.paw_image.proofs.FieldLaws.{bytes_again}
use Rattle.paw_image.proofs.FieldLaws.{number_takes}
use Rattle.paw_image.proofs.PassRows.{within_passes}
use Rattle.paw_image.proofs.SoundRows.{declared_as}
use Rattle.paw_image.proofs.Stands.{and_true, follows_then}
use Rattle.paw_image.proofs.ValidLaws.{letters_fit, ValidParts}

-- ---- signature and version ----

-- A byte that stands for a version is the byte of that version.
told : (byte : ℕ) → is_within 1 2 byte ≡ true → byte ≡ version_byte (version_of_byte byte)
told zero h = absurd cc
told (suc zero) h = refl
told (suc (suc zero)) h = refl
told (suc (suc (suc byte))) h =
    let high = leb-true (suc (suc (suc byte))) 2 (and_parts (leb 1 (suc (suc (suc byte)))) _ h).1 in
    absurd (omega (arith, high))

version_takes : (bytes : Bytes) (x : Version × Bytes) → IsBytes bytes → checked_version bytes ≡ Ok x
    → Takes bytes (codes "PAWI" ++ version_byte x.0 ∷ []) x.1
unfolding checked_version
version_takes bytes x fits e =
    follows_then _ (λ m. bytes_eq m (codes "PAWI")) (bytes_at 4) bytes _ x e (λ signature signature_ok signature_follows e.
    follows_then _ (is_within 1 2) byte_at signature.1 _ x e (λ byte byte_ok byte_follows e.
    let signature_taken = (bytes_take 4 bytes signature fits signature_ok).0 in
    let byte_taken = (byte_takes signature.1 byte signature_taken.rest_fits byte_ok).0 in
    let is_signature = (bytes_eq-Decides signature.0 (codes "PAWI")).0 signature_follows in
    at_ok (λ (y : Version × Bytes). Takes bytes (codes "PAWI" ++ version_byte y.0 ∷ []) y.1) _ x e
    (Takes-then (codes "PAWI") (version_byte (version_of_byte byte.0) ∷ [])
    (subst (λ (m : Bytes). Takes bytes m signature.1) is_signature signature_taken)
    (subst (λ (b : ℕ). Takes signature.1 (b ∷ []) byte.1) (told byte.0 byte_follows) byte_taken))))

version_passes : (v : Version) (rest : Bytes) → checked_version (codes "PAWI" ++ (version_byte v ∷ rest)) ≡ Ok (v, rest)
unfolding checked_version
version_passes One rest = rw (bytes_again 4 (codes "PAWI") (1 ∷ rest) refl) refl
version_passes Two rest = rw (bytes_again 4 (codes "PAWI") (2 ∷ rest) refl) refl

-- ---- counts ----

-- The six counts.
abbrev pub counts_image : Counts → Bytes
counts_image c =
    two_bytes c.words ++ two_bytes c.system ++ two_bytes c.messages ++ two_bytes c.objects ++ two_bytes c.locations
    ++ two_bytes c.tables

-- The counts are within their limits.
pub record AreFew (c : Counts) : Type 0 where
  pub words : is_within 0 WORD_LIMIT c.words ≡ true
  pub system : is_within 0 SYSTEM_LIMIT c.system ≡ true
  pub messages : is_within 0 MESSAGE_LIMIT c.messages ≡ true
  pub objects : is_within 0 OBJECT_LIMIT c.objects ≡ true
  pub locations : is_within LOCATION_LEAST LOCATION_LIMIT c.locations ≡ true
  pub tables : is_within TABLE_LEAST TABLE_LIMIT c.tables ≡ true

-- What follows from a number within its limits.
within_then : {B : Type 0} (P : Type 0) (least most : ℕ) (bytes : Bytes) (f : ℕ × Bytes → Result B ℕ) (y : B)
    → IsBytes bytes → (checked_number least most bytes >>= f) ≡ Ok y
    → ((x : ℕ × Bytes) → Takes bytes (two_bytes x.0) x.1 → is_within least most x.0 ≡ true → f x ≡ Ok y → P) → P
within_then P least most bytes f y fits e go =
    follows_then P (is_within least most) number_at bytes f y e
    (λ x x_ok x_follows e. go x (number_takes bytes x fits x_ok).0 x_follows e)

counts_take : (bytes : Bytes) (x : Counts × Bytes) → IsBytes bytes → checked_counts bytes ≡ Ok x
    → Takes bytes (counts_image x.0) x.1 × AreFew x.0
unfolding checked_counts
counts_take bytes x fits e =
    within_then _ 0 WORD_LIMIT bytes _ x fits e (λ words words_taken w e.
    within_then _ 0 SYSTEM_LIMIT words.1 _ x words_taken.rest_fits e (λ system system_taken s e.
    within_then _ 0 MESSAGE_LIMIT system.1 _ x system_taken.rest_fits e (λ messages messages_taken m e.
    within_then _ 0 OBJECT_LIMIT messages.1 _ x messages_taken.rest_fits e (λ objects objects_taken o e.
    within_then _ LOCATION_LEAST LOCATION_LIMIT objects.1 _ x objects_taken.rest_fits e
    (λ locations locations_taken l e.
    within_then _ TABLE_LEAST TABLE_LIMIT locations.1 _ x locations_taken.rest_fits e (λ tables tables_taken t e.
    let four = Takes-then _ _ objects_taken (Takes-then _ _ locations_taken tables_taken) in
    let taken = Takes-then _ _ words_taken (Takes-then _ _ system_taken (Takes-then _ _ messages_taken four)) in
    at_ok (λ (y : Counts × Bytes). Takes bytes (counts_image y.0) y.1 × AreFew y.0) _ x e
    (taken, record { words = w; system = s; messages = m; objects = o; locations = l; tables = t })))))))

counts_pass : (g : GameLists) (rest : Bytes) → AreFew (counts_of g)
    → checked_counts (counts_image (counts_of g) ++ rest) ≡ Ok (counts_of g, rest)
unfolding checked_counts
counts_pass g rest h =
    let after_locations = two_bytes (length g.tables) ++ rest in
    let after_objects = two_bytes (length g.locations) ++ after_locations in
    let after_messages = two_bytes (length g.objects) ++ after_objects in
    let after_system = two_bytes (length g.messages) ++ after_messages in
    let after_words = two_bytes (length g.system) ++ after_system in
    rw (
      within_passes 0 WORD_LIMIT (length g.words) after_words (lit< tt) h.words,
      within_passes 0 SYSTEM_LIMIT (length g.system) after_system (lit< tt) h.system,
      within_passes 0 MESSAGE_LIMIT (length g.messages) after_messages (lit< tt) h.messages,
      within_passes 0 OBJECT_LIMIT (length g.objects) after_objects (lit< tt) h.objects,
      within_passes LOCATION_LEAST LOCATION_LIMIT (length g.locations) after_locations (lit< tt) h.locations,
      within_passes TABLE_LEAST TABLE_LIMIT (length g.tables) rest (lit< tt) h.tables,
    ) refl

few_counts : (g : GameLists) → ValidParts g → AreFew (counts_of g)
few_counts g v = record {
  words = and_true (leb 0 (length g.words)) _ (le-leb 0 _ (omega arith)) v.words_few;
  system = and_true (leb 0 (length g.system)) _ (le-leb 0 _ (omega arith)) v.system_few;
  messages = and_true (leb 0 (length g.messages)) _ (le-leb 0 _ (omega arith)) v.messages_few;
  objects = and_true (leb 0 (length g.objects)) _ (le-leb 0 _ (omega arith)) v.objects_few;
  locations = and_true (leb LOCATION_LEAST (length g.locations)) _ v.locations_some v.locations_few;
  tables = v.tables_within;
}

-- ---- words ----

record IsNext (before bytes : Bytes) (x : Word × Bytes) : Type 0 where
  taken : Takes bytes (word_image x.0) x.1
  follows : is_word x.0 ≡ true
  above : is_lt (slice_cmp nat_cmp before x.0.letters) ≡ true

word_takes : (before bytes : Bytes) (x : Word × Bytes) → IsBytes bytes → checked_word before bytes ≡ Ok x
    → IsNext before bytes x
unfolding checked_word
word_takes before bytes x fits e =
    follows_then _ (λ l. are_letters l && is_lt (slice_cmp nat_cmp before l)) (bytes_at WORD_LENGTH) bytes _ x e
    (λ letters letters_ok letters_follows e.
    follows_then _ (is_within LEAST_WORD GREATEST_WORD) byte_at letters.1 _ x e (λ value value_ok value_follows e.
    follows_then _ (λ c. leb c PRONOUN_CLASS) byte_at value.1 _ x e (λ class class_ok class_follows e.
    let both = and_parts (are_letters letters.0) _ letters_follows in
    let letters_taken = (bytes_take WORD_LENGTH bytes letters fits letters_ok).0 in
    let value_taken = (byte_takes letters.1 value letters_taken.rest_fits value_ok).0 in
    let class_taken = (byte_takes value.1 class value_taken.rest_fits class_ok).0 in
    at_ok (λ (y : Word × Bytes). IsNext before bytes y) _ x e (record {
      taken = Takes-then letters.0 (value.0 ∷ class.0 ∷ []) letters_taken
          (Takes-then (value.0 ∷ []) (class.0 ∷ []) value_taken class_taken);
      follows = rw (both.0, value_follows, class_follows) refl;
      above = both.1;
    }))))

record AreNext (before : Bytes) (n : ℕ) (bytes : Bytes) (x : List Word × Bytes) : Type 0 where
  taken : Takes bytes (flat_map word_image x.0) x.1
  many : length x.0 ≡ n
  follow : list_all is_word x.0 ≡ true
  rise : rise_after before x.0 ≡ true

words_take : (before : Bytes) (n : ℕ) (bytes : Bytes) (x : List Word × Bytes) → IsBytes bytes
    → words_above before n bytes ≡ Ok x → AreNext before n bytes x
unfolding words_above rise_after
words_take before zero bytes x fits e =
    at_ok (λ (y : List Word × Bytes). AreNext before 0 bytes y) ([], bytes) x e
    (record { taken = record { parts = refl; rest_fits = fits }; many = refl; follow = refl; rise = refl })
words_take before (suc n) bytes x fits e =
    bind_then _ (checked_word before bytes) _ x e (λ first first_ok e.
    bind_then _ (words_above first.0.letters n first.1) _ x e (λ others others_ok e.
    let w = word_takes before bytes first fits first_ok in
    let ws = words_take first.0.letters n first.1 others w.taken.rest_fits others_ok in
    at_ok (λ (y : List Word × Bytes). AreNext before (suc n) bytes y) _ x e (record {
      taken = Takes-then (word_image first.0) (flat_map word_image others.0) w.taken ws.taken;
      many = ap suc ws.many;
      follow = rw (w.follows, ws.follow) refl;
      rise = rw (w.above, ws.rise) refl;
    })))

word_passes : (before : Bytes) (w : Word) (rest : Bytes) → is_word w ≡ true
    → is_lt (slice_cmp nat_cmp before w.letters) ≡ true → checked_word before (word_image w ++ rest) ≡ Ok (w, rest)
unfolding checked_word
word_passes before w rest h above =
    let letters = and_parts (are_letters w.letters) _ h in
    let value = and_parts (is_within LEAST_WORD GREATEST_WORD w.value) (leb w.class PRONOUN_CLASS) letters.1 in
    let regrouped : word_image w ++ rest ≡ w.letters ++ (w.value ∷ w.class ∷ rest) =
    append_assoc w.letters (w.value ∷ w.class ∷ []) rest in
    let again = bytes_again WORD_LENGTH w.letters (w.value ∷ w.class ∷ rest) (letters_fit w.letters letters.0) in
    ap (checked_word before) regrouped ∙ rw (again, letters.0, above, value.0, value.1) refl

words_pass : (before : Bytes) (ws : List Word) (rest : Bytes) → list_all is_word ws ≡ true
    → rise_after before ws ≡ true → words_above before (length ws) (flat_map word_image ws ++ rest) ≡ Ok (ws, rest)
unfolding words_above rise_after
words_pass before [] rest h rise = refl
words_pass before (w ∷ ws) rest h rise =
    let both = and_parts (is_word w) (list_all is_word ws) h in
    let up = and_parts (is_lt (slice_cmp nat_cmp before w.letters)) (rise_after w.letters ws) rise in
    rw (
      append_assoc (word_image w) (flat_map word_image ws) rest,
      word_passes before w (flat_map word_image ws ++ rest) both.0 up.0,
      words_pass w.letters ws rest both.1 up.1,
    ) refl

-- ---- the front ----

-- Mark, a byte for the version, counts and words.
abbrev pub front_with : ℕ → Counts → List Word → Bytes
front_with byte counts words = codes "PAWI" ++ (byte ∷ (counts_image counts ++ flat_map word_image words))

abbrev pub front_image : ImagePreface → Bytes
front_image d = front_with (version_byte d.version) d.counts d.words

pub front_length : (d : ImagePreface) → length (front_image d) ≡ 17 + length (flat_map word_image d.words)
front_length d = omega (arith, length-append (counts_image d.counts) (flat_map word_image d.words))

pub record Fronted (bytes : Bytes) (x : ImagePreface × Bytes) : Type 0 where
  pub taken : Takes bytes (front_image x.0) x.1
  pub few : AreFew x.0.counts
  pub many : length x.0.words ≡ x.0.counts.words
  pub follow : list_all is_word x.0.words ≡ true
  pub rise : rise_after [] x.0.words ≡ true

pub front_takes : (bytes : Bytes) (x : ImagePreface × Bytes) → IsBytes bytes → front bytes ≡ Ok x → Fronted bytes x
unfolding front
front_takes bytes x fits e =
    bind_then _ (checked_version bytes) _ x e (λ version version_ok e.
    bind_then _ (checked_counts version.1) _ x e (λ counts counts_ok e.
    bind_then _ (words_above [] counts.0.words counts.1) _ x e (λ words words_ok e.
    let first = version_takes bytes version fits version_ok in
    let six = counts_take version.1 counts first.rest_fits counts_ok in
    let ws = words_take [] counts.0.words counts.1 words six.0.rest_fits words_ok in
    let after_version = Takes-then (counts_image counts.0) (flat_map word_image words.0) six.0 ws.taken in
    at_ok (λ (y : ImagePreface × Bytes). Fronted bytes y) _ x e (record {
      taken = Takes-then (codes "PAWI" ++ version_byte version.0 ∷ []) _ first after_version;
      few = six.1;
      many = ws.many;
      follow = ws.follow;
      rise = ws.rise;
    }))))

pub front_passes : (version : Version) (g : GameLists) (rest : Bytes) → ValidParts g
    → front (front_image (declared_as version g) ++ rest) ≡ Ok (declared_as version g, rest)
unfolding front
front_passes version g rest v =
    let after_counts = flat_map word_image g.words ++ rest in
    rw (
      version_passes version (counts_image (counts_of g) ++ after_counts),
      counts_pass g after_counts (few_counts g v),
      words_pass [] g.words rest v.words_follow v.words_rise,
    ) refl
