-- Each row: the bytes that it passes are read as a row that follows its rule.
use Rattle.std.proofs.Common.{◌≡◌, ℕ, zero, suc, ◌+◌, ◌<◌, ◌&&◌, ◌||◌, Bool, true, false, not, ltb}
use Rattle.std.proofs.Common.{leb, eqb, List, [], ◌∷◌, length, Ok, refl, sym, ap, ◌∙◌, arith}
use Rattle.std.specs.Prelude.{bit_and}
use Rattle.std.specs.List.{list_all, list_any}
use Rattle.std.proofs.lemmas.Bool.{and_parts, le-leb}
use Rattle.std.proofs.lemmas.Bool.Decides.{nat_tests}
use Rattle.std.proofs.lemmas.Nat.{and_mask}
use Rattle.paw_base.specs.Bytes.{Bytes}
use Rattle.paw_base.specs.declared.parts.Condact.{Condact}
use Rattle.paw_base.specs.declared.rows.ParamKind.{ParamKind}
use Rattle.paw_base.specs.declared.rows.ParamKind.TheVariants as kind
use Rattle.paw_base.specs.Condacts.{is_code, first_kind, second_kind}
use Rattle.paw_base.specs.declared.limits.TheConstants.{TEXT_LIMIT, EXIT_LIMIT, ENTRY_LIMIT, CONDACT_LIMIT}
use Rattle.paw_base.specs.declared.limits.TheConstants.{WEIGHT_LIMIT}
use Rattle.paw_base.specs.declared.words.TheConstants.{NOUN_CLASS, ADJECTIVE_CLASS}
use Rattle.paw_game.specs.declared.parts.Exit.{Exit}
use Rattle.paw_game.specs.declared.parts.Entry.{Entry}
use Rattle.paw_game.specs.Game.{GameLists, counts_of}
use Rattle.paw_game.specs.Image.{two_bytes, text_image, exit_image, parameter_image, condact_image, entry_image}
use Rattle.paw_game.specs.Image.{table_image}
use Rattle.paw_game.specs.Valid.{is_within, is_printed, is_text, is_word_or_none, is_place, facts_are_valid}
use Rattle.paw_game.specs.Valid.{is_object, is_verb_value, are_exits, exits_are_valid, is_parameter}
use Rattle.paw_game.specs.Valid.{is_wildcard, has_word}
use Rattle.paw_read_error.specs.Bind.{◌>>=◌}
use Rattle.paw_image.specs.Reading.{byte_at, bytes_at, number_at}
use Rattle.paw_image.specs.inner.Reading.{few_at, pair_at, leading_rows, sized_text_at, facts_with, leading_facts}
use Rattle.paw_image.specs.inner.Reading.{object_at, leading_exit, exits_at}
use Rattle.paw_image.specs.inner.Reading.{code_at, parameter_at, leading_condact, leading_entry, leading_table}
use Rattle.paw_image.specs.Damage.{ImagePreface, may_stand, checked_field, each, after_text, after_facts, after_object}
use Rattle.paw_image.specs.Damage.{checked_exit, after_exits_of, after_exits, after_parameter}
use Rattle.paw_image.specs.Damage.{after_condact, after_entry, after_table}
use Rattle.paw_image.specs.declared.version.Version.{Version}
use Rattle.paw_image.specs.declared.version.Version.TheVariants.{One, Two}
use Rattle.paw_image.specs.inner.Offsets.{offsets, entry_offsets, entries_begin, tables_begin, TableOffsets}
use Rattle.paw_image.proofs.FieldLaws.{IsBytes, at_ok, bind_then, byte_takes, number_takes}
use Rattle.paw_image.proofs.ListLaws.{rows_take}
use Rattle.paw_image.proofs.RowLaws.{text_takes, exit_takes, condact_takes, entry_takes, parameter_takes, table_takes}
use Rattle.paw_image.proofs.Stands.{and_true, follows_then, bytes_length, Stands, SoundRow, rest_fits, each_sound}
use Rattle.paw_image.proofs.Stands.{taken_length}

-- What the lists of a game say at their front, in an image of a version.
abbrev pub declared_as : Version → GameLists → ImagePreface
declared_as v g = record { version = v; counts = counts_of g; words = g.words }

-- ---- texts ----

pub text_sound : SoundRow after_text sized_text_at is_text
unfolding after_text sized_text_at
text_sound bytes rest fits e =
    follows_then _ (is_within 0 TEXT_LIMIT) number_at bytes _ rest e (λ len len_ok len_follows e.
    follows_then _ (is_printed true) (bytes_at len.0) len.1 _ rest e (λ text text_ok text_follows e.
    let few : leb (length text.0) TEXT_LIMIT ≡ true =
    ap (λ (n : ℕ). leb n TEXT_LIMIT) (bytes_length len.0 len.1 text text_ok)
    ∙ (and_parts (leb 0 len.0) (leb len.0 TEXT_LIMIT) len_follows).1 in
    record {
      value = text.0;
      reads = at_ok (λ (r : Bytes). sized_text_at bytes ≡ Ok (text.0, r)) text.1 rest e (rw (len_ok, text_ok) refl);
      follows = and_true (leb (length text.0) TEXT_LIMIT) _ few text_follows;
    }))

-- ---- objects ----

light : (w : ℕ) → leb (bit_and w 63) WEIGHT_LIMIT ≡ true
light w = le-leb (bit_and w 63) WEIGHT_LIMIT (rw (and_mask w 6) (omega arith))

facts_sound : (d : ImagePreface) → SoundRow (after_facts d) leading_facts (facts_are_valid d.words d.counts.locations)
unfolding after_facts leading_facts
facts_sound d bytes rest fits e =
    follows_then _ (is_word_or_none d.words NOUN_CLASS) byte_at bytes _ rest e (λ noun noun_ok noun_follows e.
    follows_then _ (is_word_or_none d.words ADJECTIVE_CLASS) byte_at noun.1 _ rest e
    (λ adjective adjective_ok adjective_follows e.
    follows_then _ (is_place d.counts.locations) byte_at adjective.1 _ rest e (λ start start_ok start_follows e.
    bind_then _ (byte_at start.1) _ rest e (λ weight weight_ok e.
    let facts = facts_with noun.0 adjective.0 start.0 weight.0 in
    record {
      value = facts;
      reads = at_ok (λ (r : Bytes). leading_facts bytes ≡ Ok (facts, r)) weight.1 rest e (rw (noun_ok, adjective_ok, start_ok, weight_ok) refl);
      follows = rw (noun_follows, adjective_follows, start_follows, light weight.0) refl;
    }))))

pub object_sound : (d : ImagePreface) → SoundRow (after_object d) object_at (is_object d.words d.counts.locations)
unfolding object_at
object_sound d bytes rest fits e =
    bind_then _ (after_text bytes) _ rest e (λ after after_ok e.
    let text = text_sound bytes after fits after_ok in
    let facts = facts_sound d after rest (rest_fits sized_text_at text_image is_text text_takes bytes after fits text) e in
    record {
      value = record { text = text.value; facts = facts.value };
      reads = rw (text.reads, facts.reads) refl;
      follows = and_true (is_text text.value) _ text.follows facts.follows;
    })

-- ---- exits ----

-- None of the exits has one of these verbs.
abbrev pub none_of : List ℕ → List Exit → Bool
none_of verbs xs = list_all (λ x. not (list_any (λ earlier. eqb earlier x.verb) verbs)) xs

eqb-swap : (a b : ℕ) → eqb a b ≡ eqb b a
eqb-swap a b = grind (arith, nat_tests)

split_or : (a b p q : Bool) → (not (a || b) && (not p && q)) ≡ (not (a || p) && (not b && q))
split_or true b p q = refl
split_or false true true q = refl
split_or false true false q = refl
split_or false false true q = refl
split_or false false false q = refl

-- None of them has this verb or one of these, exactly where none has this one and none has one of these.
pub none_of-one_more : (v : ℕ) (verbs : List ℕ) (xs : List Exit) → none_of (v ∷ verbs) xs ≡ (not (list_any (λ y. eqb y.verb v) xs) && none_of verbs xs)
none_of-one_more v verbs [] = refl
none_of-one_more v verbs (x ∷ xs) =
    let a = eqb x.verb v in
    let b = list_any (λ earlier. eqb earlier x.verb) verbs in
    rw (eqb-swap v x.verb, none_of-one_more v verbs xs) (split_or a b (list_any (λ y. eqb y.verb v) xs) (none_of verbs xs))

pub none_of-none : (xs : List Exit) → none_of [] xs ≡ true
none_of-none [] = refl
none_of-none (x ∷ xs) = none_of-none xs

-- What rule the exits after those with these verbs follow.
abbrev follow_after : ImagePreface → List ℕ → List Exit → Bool
follow_after d verbs xs = none_of verbs xs && are_exits d.words d.counts.locations xs

exits_sound_of : (d : ImagePreface) (verbs : List ℕ) (n : ℕ) (bytes rest : Bytes)
    → after_exits_of d verbs n bytes ≡ Ok rest → Stands (leading_rows leading_exit n bytes) (follow_after d verbs) rest
unfolding after_exits_of checked_exit leading_rows leading_exit pair_at
exits_sound_of d verbs zero bytes rest e =
    record { value = []; reads = at_ok (λ (r : Bytes). leading_rows leading_exit 0 bytes ≡ Ok ([], r)) bytes rest e refl; follows = refl }
exits_sound_of d verbs (suc n) bytes rest e =
    bind_then _ (checked_exit d verbs bytes) _ rest e (λ x x_ok e.
    follows_then _ (λ v. is_verb_value d.words v && not (list_any (λ earlier. eqb earlier v) verbs)) byte_at bytes _ x x_ok (λ verb verb_ok verb_follows x_ok.
    follows_then _ (λ l. ltb l d.counts.locations) byte_at verb.1 _ x x_ok (λ to to_ok to_follows x_ok.
    let e2 : after_exits_of d (verb.0 ∷ verbs) n to.1 ≡ Ok rest =
    at_ok (λ (y : ℕ × Bytes). after_exits_of d (y.0 ∷ verbs) n y.1 ≡ Ok rest) x (verb.0, to.1) (sym x_ok) e in
    let others = exits_sound_of d (verb.0 ∷ verbs) n to.1 rest e2 in
    let first : Exit = record { verb = verb.0; to = to.0 } in
    let right_verb = and_parts (is_verb_value d.words verb.0) _ verb_follows in
    let right_others = and_parts (none_of (verb.0 ∷ verbs) others.value) _ others.follows in
    let none = and_parts (not (list_any (λ y. eqb y.verb verb.0) others.value)) _ (sym (none_of-one_more verb.0 verbs others.value) ∙ right_others.0) in
    record {
      value = first ∷ others.value;
      reads = rw (verb_ok, to_ok, others.reads) refl;
      follows = rw (right_verb.0, right_verb.1, to_follows, none.0, none.1, right_others.1) refl;
    })))

few : (n : ℕ) → n < 256 → leb n EXIT_LIMIT ≡ true
few n lt = le-leb n EXIT_LIMIT (omega arith)

pub exits_sound : (d : ImagePreface) → SoundRow (after_exits d) exits_at (exits_are_valid d.words d.counts.locations)
unfolding after_exits few_at
exits_sound d bytes rest fits e =
    bind_then _ (byte_at bytes) _ rest e (λ count count_ok e.
    let small = (byte_takes bytes count fits count_ok).1 in
    let fits_after = (byte_takes bytes count fits count_ok).0.rest_fits in
    let rows = exits_sound_of d [] count.0 count.1 rest e in
    let len : length rows.value ≡ count.0 = (rows_take leading_exit exit_image exit_takes count.0 count.1 (rows.value, rest) fits_after rows.reads).1 in
    let right_rows = and_parts (none_of [] rows.value) _ rows.follows in
    record {
      value = rows.value;
      reads = rw (count_ok, rows.reads) refl;
      follows = and_true (leb (length rows.value) EXIT_LIMIT) _ (few (length rows.value) (omega arith)) right_rows.1;
    })

-- ---- tables ----

-- The rules of condacts, entries and tables, by what the front declares.
abbrev pub condact_follows : ImagePreface → Condact → Bool
condact_follows d c =
    may_stand d.version c.code && (is_parameter d.counts d.words (first_kind c.code) c.a && is_parameter d.counts d.words (second_kind c.code) c.b)

abbrev pub entry_follows : ImagePreface → Entry → Bool
entry_follows d e =
    (is_wildcard e.verb || is_verb_value d.words e.verb) && ((is_wildcard e.noun || has_word d.words NOUN_CLASS e.noun)
    && (leb (length e.condacts) CONDACT_LIMIT && list_all (condact_follows d) e.condacts))

abbrev pub table_follows : ImagePreface → List Entry → Bool
table_follows d es = leb (length es) ENTRY_LIMIT && list_all (entry_follows d) es

byte_sound : (rule : ℕ → Bool) (bytes rest : Bytes) → (checked_field rule byte_at bytes >>= λ x. Ok x.1) ≡ Ok rest → Stands (byte_at bytes) rule rest
byte_sound rule bytes rest e =
    follows_then _ rule byte_at bytes _ rest e (λ x x_ok x_follows e.
    record { value = x.0; reads = at_ok (λ (r : Bytes). byte_at bytes ≡ Ok (x.0, r)) x.1 rest e x_ok; follows = x_follows })

parameter_sound : (d : ImagePreface) (k : ParamKind) → SoundRow (after_parameter d k) (parameter_at k) (is_parameter d.counts d.words k)
parameter_sound d kind.Absent bytes rest fits e =
    record { value = 0; reads = at_ok (λ (r : Bytes). parameter_at kind.Absent bytes ≡ Ok (0, r)) bytes rest e refl; follows = refl }
parameter_sound d k bytes rest fits e = byte_sound (is_parameter d.counts d.words k) bytes rest e

code_is : (bytes : Bytes) → code_at bytes ≡ checked_field is_code byte_at bytes
code_is [] = refl
code_is (code ∷ bytes) = refl

-- What may stand is a code.
stands_code : (v : Version) (code : ℕ) → may_stand v code ≡ true → is_code code ≡ true
stands_code One code h = rw h refl
stands_code Two code h = h

pub condact_sound : (d : ImagePreface) → SoundRow (after_condact d) leading_condact (condact_follows d)
unfolding after_condact leading_condact
condact_sound d bytes rest fits e =
    follows_then _ (may_stand d.version) byte_at bytes _ rest e (λ code code_ok code_follows e.
    bind_then _ (after_parameter d (first_kind code.0) code.1) _ rest e (λ after after_ok e.
    let first = first_kind code.0 in
    let second = second_kind code.0 in
    let code_fits = (byte_takes bytes code fits code_ok).0.rest_fits in
    let a = parameter_sound d first code.1 after code_fits after_ok in
    let b = parameter_sound d second after rest
    (rest_fits (parameter_at first) (parameter_image first) (is_parameter d.counts d.words first) (parameter_takes first) code.1
    after code_fits a) e in
    let code_read : code_at bytes ≡ Ok code = code_is bytes ∙ rw (code_ok, stands_code d.version code.0 code_follows) refl in
    record {
      value = record { code = code.0; a = a.value; b = b.value };
      reads = rw (code_read, a.reads, b.reads) refl;
      follows = rw (code_follows, a.follows, b.follows) refl;
    }))

pub entry_sound : (d : ImagePreface) → SoundRow (after_entry d) leading_entry (entry_follows d)
unfolding after_entry leading_entry pair_at few_at
entry_sound d bytes rest fits e =
    follows_then _ (λ v. is_wildcard v || is_verb_value d.words v) byte_at bytes _ rest e (λ verb verb_ok verb_follows e.
    follows_then _ (λ n. is_wildcard n || has_word d.words NOUN_CLASS n) byte_at verb.1 _ rest e (λ noun noun_ok noun_follows e.
    bind_then _ (byte_at noun.1) _ rest e (λ count count_ok e.
    let verb_fits = (byte_takes bytes verb fits verb_ok).0.rest_fits in
    let noun_fits = (byte_takes verb.1 noun verb_fits noun_ok).0.rest_fits in
    let count_taken = byte_takes noun.1 count noun_fits count_ok in
    let rows = each_sound (after_condact d) leading_condact condact_image (condact_follows d) condact_takes
    (condact_sound d) count.0 count.1 rest count_taken.0.rest_fits e in
    let len = rows.many in
    record {
      value = record { verb = verb.0; noun = noun.0; condacts = rows.value };
      reads = rw (verb_ok, noun_ok, count_ok, rows.reads) refl;
      follows = rw (verb_follows, noun_follows, few (length rows.value) (omega (arith, count_taken.1)), rows.follows) refl;
    })))

-- A table, with where its entries begin.
pub record TableBegins (d : ImagePreface) (bytes rest : Bytes) : Type 0 where
  pub value : List Entry
  pub reads : leading_table bytes ≡ Ok (value, rest)
  pub follows : table_follows d value ≡ true
  pub begin : (total start : ℕ) → start + length bytes ≡ total → entries_begin d total bytes ≡ offsets entry_image (start + 2) value

pub table_begins : (d : ImagePreface) (bytes rest : Bytes) → IsBytes bytes → after_table d bytes ≡ Ok rest → TableBegins d bytes rest
unfolding after_table leading_table entries_begin
table_begins d bytes rest fits e =
    follows_then _ (is_within 0 ENTRY_LIMIT) number_at bytes _ rest e (λ count count_ok count_follows e.
    let count_taken = number_takes bytes count fits count_ok in
    let rows = each_sound (after_entry d) leading_entry entry_image (entry_follows d) entry_takes (entry_sound d) count.0 count.1 rest count_taken.0.rest_fits e
    in
    record {
      value = rows.value;
      reads = rw (count_ok, rows.reads) refl;
      follows = and_true (leb (length rows.value) ENTRY_LIMIT) _ (ap (λ (n : ℕ). leb n ENTRY_LIMIT) rows.many
          ∙ (and_parts (leb 0 count.0) (leb count.0 ENTRY_LIMIT) count_follows).1) rows.follows;
      begin = λ total start h.
          let after : start + 2 + length count.1 ≡ total = omega (arith, h, taken_length bytes (two_bytes count.0) count.1 count_taken.0) in
          rw (count_ok, count_follows) (rows.begin total (start + 2) after);
    })

-- Tables, with where their entries begin.
pub record TablesBegin (d : ImagePreface) (n : ℕ) (bytes rest : Bytes) : Type 0 where
  pub value : List (List Entry)
  pub reads : leading_rows leading_table n bytes ≡ Ok (value, rest)
  pub follows : list_all (table_follows d) value ≡ true
  pub begin : (total start : ℕ) → start + length bytes ≡ total → tables_begin d total n bytes ≡ entry_offsets start value

pub each_table_begins : (d : ImagePreface) (n : ℕ) (bytes rest : Bytes) → IsBytes bytes → each (after_table d) n bytes ≡ Ok rest → TablesBegin d n bytes rest
unfolding each leading_rows tables_begin
each_table_begins d zero bytes rest fits e =
    record {
      value = [];
      reads = at_ok (λ (r : Bytes). leading_rows leading_table 0 bytes ≡ Ok ([], r)) bytes rest e refl;
      follows = refl;
      begin = λ total start h. refl;
    }
each_table_begins d (suc n) bytes rest fits e =
    bind_then _ (after_table d bytes) _ rest e (λ after after_ok e.
    let first = table_begins d bytes after fits after_ok in
    let taken = table_takes bytes (first.value, after) fits first.reads in
    let others = each_table_begins d n after rest taken.rest_fits e in
    record {
      value = first.value ∷ others.value;
      reads = rw (first.reads, others.reads) refl;
      follows = and_true (table_follows d first.value) _ first.follows others.follows;
      begin = λ total start h.
          let later = others.begin total (start + length (table_image first.value))
          (omega (arith, h, taken_length bytes (table_image first.value) after taken)) in
          rw (first.begin total start h, after_ok) (ap (λ (l : TableOffsets). offsets entry_image (start + 2) first.value ∷ l) later);
    })
