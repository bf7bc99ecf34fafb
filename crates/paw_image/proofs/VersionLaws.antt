-- The version of an image: with the codes of version 1 those tables pass in which no condact is indirect, and others
-- don't.
use Rattle.std.proofs.Common.{◌≡◌, ℕ, ◌&&◌, ◌||◌, Bool, true, false, not, leb, List, [], ◌∷◌, ◌++◌, length, refl, sym}
use Rattle.std.proofs.Common.{ap, ◌∙◌}
use Rattle.std.proofs.Common.{append_assoc, inl, inr, ◌⊎◌, ◌<◌, ◌≤◌, Option, Some, None, SomeIff, Result, Ok, Err}
use Rattle.std.proofs.Common.{arith, lit<}
use Rattle.std.specs.List.{flat_map, list_all, list_any}
use Rattle.std.proofs.lemmas.Bool.{and_parts, leb-true}
use Rattle.paw_base.specs.Bytes.{Bytes}
use Rattle.paw_base.specs.Condacts.{is_plain_code, is_indirect}
use Rattle.paw_base.specs.declared.codes.TheConstants.{INDIRECT}
use Rattle.paw_base.specs.declared.limits.TheConstants.{ENTRY_LIMIT, CONDACT_LIMIT}
use Rattle.paw_base.specs.declared.words.TheConstants.{NOUN_CLASS}
use Rattle.paw_base.specs.declared.parts.Condact.{Condact}
use Rattle.paw_base.specs.declared.rows.CondactRow.{CondactRow}
use Rattle.paw_base.specs.inner.Condacts.{IsCode, IsPlainCode, condact_row_of}
use Rattle.paw_base.proofs.Table.{code_within, none_from, plain_below, plain_is, plain_of_code}
use Rattle.paw_game.specs.declared.parts.Entry.{Entry}
use Rattle.paw_game.specs.Game.{GameLists}
use Rattle.paw_game.specs.Valid.{is_wildcard, is_condact, is_entry, is_table, is_verb_value, has_word}
use Rattle.paw_game.specs.Image.{any_indirect, has_indirect, version_of, two_bytes, condact_image, entry_image}
use Rattle.paw_game.specs.Image.{table_image}
use Rattle.paw_read_error.specs.Bind.{◌>>=◌}
use Rattle.paw_image.specs.declared.version.Version.{Version}
use Rattle.paw_image.specs.declared.version.Version.TheVariants.{One, Two}
use Rattle.paw_image.specs.Damage.{Passing, checked_field, may_stand, each, after_condact, after_entry, after_table}
use Rattle.paw_image.specs.Damage.{is_end, needs_no_2}
use Rattle.paw_image.specs.Reading.{byte_at}
use Rattle.paw_image.specs.inner.Reading.{IsFault, version_byte}
use Rattle.paw_image.proofs.Faults.{fault_first}
use Rattle.paw_image.proofs.PassRows.{within_passes, up_to, condact_passes, entry_passes, table_passes}
use Rattle.paw_image.proofs.SoundRows.{declared_as, condact_follows, entry_follows, table_follows}
use Rattle.paw_image.proofs.Stands.{and_true, PassesRow}

-- ---- the rules of version 1 ----

-- What the table says of a code below 128 it says of a plain one.
pub plain_side : (code : ℕ) (row : Option CondactRow) → code < INDIRECT → SomeIff row (IsCode code) (condact_row_of code)
    → SomeIff row (IsPlainCode code) (condact_row_of code)
plain_side code None low h = λ plain. h (plain_is code plain)
plain_side code (Some row) low h = (plain_of_code code h.0 low, h.1)

-- From 128 on no code is plain.
pub no_plain : (code : ℕ) → INDIRECT ≤ code → IsPlainCode code → ⊥
no_plain code high plain = let none = none_from code high in cc

-- A plain code isn't indirect.
plain_not : (code : ℕ) → is_plain_code code ≡ true → is_indirect code ≡ false
plain_not code h = let low = code_within code h in plain_below code (omega (arith, low))

-- So it is a code that isn't indirect.
split_code : (plain indirect rest : Bool) → (plain ≡ true → indirect ≡ false)
    → (plain && rest) ≡ (((plain || indirect) && rest) && not indirect)
split_code true indirect true gives = rw (gives refl) refl
split_code true indirect false gives = refl
split_code false true true gives = refl
split_code false true false gives = refl
split_code false false rest gives = refl

split_both : (a b c d : Bool) → ((a && not b) && (c && not d)) ≡ ((a && c) && not (b || d))
split_both false b c d = refl
split_both true true false d = refl
split_both true true true d = refl
split_both true false c d = refl

-- Where a rule is another and a test that fails, it holds of each where the other does and the test of none.
split_all : {A : Type 0} (one two test : A → Bool) → ((x : A) → one x ≡ (two x && not (test x))) → (xs : List A)
    → list_all one xs ≡ (list_all two xs && not (list_any test xs))
split_all one two test splits [] = refl
split_all one two test splits (x ∷ xs) =
    rw (splits x, split_all one two test splits xs) (split_both (two x) (test x) (list_all two xs) (list_any test xs))

move_out : (a b : Bool) → (c : Bool) → (a && (b && c)) ≡ ((a && b) && c)
move_out true b c = refl
move_out false b c = refl

module _ (g : GameLists) where
  split_condact : (c : Condact) → condact_follows (declared_as One g) c ≡ (is_condact g c && not (is_indirect c.code))
  split_condact c = split_code (is_plain_code c.code) (is_indirect c.code) _ (plain_not c.code)

  split_entry : (e : Entry) → entry_follows (declared_as One g) e ≡ (is_entry g e && not (any_indirect e.condacts))
  split_entry e =
      let verb = is_wildcard e.verb || is_verb_value g.words e.verb in
      let noun = is_wildcard e.noun || has_word g.words NOUN_CLASS e.noun in
      let few = leb (length e.condacts) CONDACT_LIMIT in
      let all = list_all (is_condact g) e.condacts in
      let none = not (any_indirect e.condacts) in
      ap (λ (b : Bool). verb && (noun && (few && b)))
      (split_all (condact_follows (declared_as One g)) (is_condact g) (λ (c : Condact). is_indirect c.code) split_condact e.condacts)
      ∙ ap (λ (b : Bool). verb && (noun && b)) (move_out few all none)
      ∙ ap (λ (b : Bool). verb && b) (move_out noun (few && all) none) ∙ move_out verb (noun && (few && all)) none

  split_table : (es : List Entry)
      → table_follows (declared_as One g) es ≡ (is_table g es && not (list_any (λ e. any_indirect e.condacts) es))
  split_table es =
      ap (λ (b : Bool). leb (length es) ENTRY_LIMIT && b)
      (split_all (entry_follows (declared_as One g)) (is_entry g) (λ (e : Entry). any_indirect e.condacts) split_entry es)
      ∙ move_out (leb (length es) ENTRY_LIMIT) (list_all (is_entry g) es) (not (list_any (λ (e : Entry). any_indirect e.condacts) es))

  -- Version 1 needs the rules of a game, and no indirect condact.
  pub split_tables : (ts : List (List Entry))
      → list_all (table_follows (declared_as One g)) ts ≡ (list_all (is_table g) ts && not (has_indirect ts))
  unfolding has_indirect
  split_tables ts =
      split_all (table_follows (declared_as One g)) (is_table g) (λ (es : List Entry). list_any (λ (e : Entry). any_indirect e.condacts) es) split_table ts

  -- Tables that follow the rules of a version follow those of a game.
  pub tables_valid : (v : Version) (ts : List (List Entry)) → list_all (table_follows (declared_as v g)) ts ≡ true
      → list_all (is_table g) ts ≡ true
  tables_valid One ts h = (and_parts (list_all (is_table g) ts) _ (sym (split_tables ts) ∙ h)).0
  tables_valid Two ts h = h

-- ---- where version 1 stops ----

-- An indirect code isn't plain.
not_plain : (code : ℕ) → is_indirect code ≡ true → is_plain_code code ≡ false
unfolding is_indirect
not_plain code h = none_from code (leb-true INDIRECT code (and_parts (leb INDIRECT code) _ h).0)

-- Where the first of two isn't so, the other is.
later_of : (a b : Bool) → a ≡ false → (a || b) ≡ true → b ≡ true
later_of true b e h = absurd cc
later_of false b e h = h

either : (b : Bool) → (b ≡ true) ⊎ (b ≡ false)
either true = inl refl
either false = inr refl

-- In the image of a row that follows a rule, and that a test finds, there is a fault.
abbrev StopsRow : {A : Type 0} → (Bytes → Passing) → (A → Bytes) → (two test : A → Bool) → Type 0
StopsRow {A} pass image two test = (x : A) (rest : Bytes) → two x ≡ true → test x ≡ true → IsFault (pass (image x ++ rest))

-- Where rows stop that a test finds, and others pass, a list of rows stops of which the test finds one.
each_stops : {A : Type 0} (pass : Bytes → Passing) (image : A → Bytes) (one two test : A → Bool)
    → ((x : A) → one x ≡ (two x && not (test x))) → PassesRow pass image one → StopsRow pass image two test
    → (xs : List A) (rest : Bytes) → list_all two xs ≡ true → list_any test xs ≡ true
    → IsFault (each pass (length xs) (flat_map image xs ++ rest))
unfolding each
each_stops pass image one two test splits passes stops [] rest follow found = absurd cc
each_stops pass image one two test splits passes stops (x ∷ xs) rest follow found =
    let both = and_parts (two x) (list_all two xs) follow in
    let after = flat_map image xs ++ rest in
    rw (append_assoc (image x) (flat_map image xs) rest)
    (elim (either (test x)) [
      | inl here ↦ fault_first (pass (image x ++ after)) (each pass (length xs)) (stops x after both.0 here)
      | inr not_here ↦
          let later = later_of (test x) (list_any test xs) not_here found in
          let passed = passes x after (splits x ∙ rw (both.0, not_here) refl) in
          rw passed (each_stops pass image one two test splits passes stops xs rest both.1 later)
    ])

field_stops : {B : Type 0} (rule : ℕ → Bool) (x : ℕ) (rest : Bytes) (f : ℕ × Bytes → Result B ℕ) → rule x ≡ false
    → IsFault (checked_field rule byte_at (x ∷ rest) >>= f)
field_stops rule x rest f h = rw h tt

module _ (g : GameLists) where
  condact_stops : StopsRow (after_condact (declared_as One g)) condact_image (is_condact g) (λ (c : Condact). is_indirect c.code)
  unfolding after_condact
  condact_stops c rest follows indirect = field_stops (may_stand One) c.code _ _ (not_plain c.code indirect)

  entry_stops : StopsRow (after_entry (declared_as One g)) entry_image (is_entry g) (λ (e : Entry). any_indirect e.condacts)
  unfolding after_entry
  entry_stops e rest follows indirect =
      let verb = and_parts (is_wildcard e.verb || is_verb_value g.words e.verb) _ follows in
      let noun = and_parts (is_wildcard e.noun || has_word g.words NOUN_CLASS e.noun) _ verb.1 in
      let condacts = and_parts (leb (length e.condacts) CONDACT_LIMIT) _ noun.1 in
      rw (verb.0, noun.0)
      (each_stops (after_condact (declared_as One g)) condact_image (condact_follows (declared_as One g)) (is_condact g)
      (λ (c : Condact). is_indirect c.code) (split_condact g) (condact_passes (declared_as One g)) condact_stops e.condacts rest condacts.1 indirect)

  table_stops : StopsRow (after_table (declared_as One g)) table_image (is_table g) (λ (es : List Entry). list_any (λ (e : Entry). any_indirect e.condacts) es)
  unfolding after_table
  table_stops es rest follows indirect =
      let both = and_parts (leb (length es) ENTRY_LIMIT) (list_all (is_entry g) es) follows in
      let entries = flat_map entry_image es in
      rw (
        append_assoc (two_bytes (length es)) entries rest,
        within_passes 0 ENTRY_LIMIT (length es) (entries ++ rest) (lit< tt) (up_to ENTRY_LIMIT (length es) both.0),
      )
      (each_stops (after_entry (declared_as One g)) entry_image (entry_follows (declared_as One g)) (is_entry g)
      (λ (e : Entry). any_indirect e.condacts) (split_entry g) (entry_passes (declared_as One g)) entry_stops es rest both.1 indirect)

  pub tables_stop : (ts : List (List Entry)) (rest : Bytes) → list_all (is_table g) ts ≡ true → has_indirect ts ≡ true
      → IsFault (each (after_table (declared_as One g)) (length ts) (flat_map table_image ts ++ rest))
  unfolding has_indirect
  tables_stop ts rest follow indirect =
      each_stops (after_table (declared_as One g)) table_image (table_follows (declared_as One g)) (is_table g)
      (λ (es : List Entry). list_any (λ (e : Entry). any_indirect e.condacts) es) (split_table g)
      (table_passes (declared_as One g)) table_stops ts rest follow indirect

-- ---- the version that a game needs ----

abbrev needed : Bool → Version
needed true = Two
needed false = One

abbrev pub needed_by : GameLists → Version
needed_by g = needed (has_indirect g.tables)

pub needed_byte : (g : GameLists) → version_byte (needed_by g) ≡ version_of g
unfolding version_of
needed_byte g = elim (either (has_indirect g.tables)) [
  | inl is ↦ rw is refl
  | inr none ↦ rw none refl
]

-- The tables of a game that has no indirect condact follow the rules of version 1.
follow_in_1 : (g : GameLists) → list_all (is_table g) g.tables ≡ true → has_indirect g.tables ≡ false
    → list_all (table_follows (declared_as One g)) g.tables ≡ true
follow_in_1 g h none =
    split_tables g g.tables ∙ and_true (list_all (is_table g) g.tables) _ h (ap (λ (b : Bool). not b) none)

-- A game's tables follow the rules of the version that it needs.
pub needed_follows : (g : GameLists) → list_all (is_table g) g.tables ≡ true
    → list_all (table_follows (declared_as (needed_by g) g)) g.tables ≡ true
needed_follows g h = elim (either (has_indirect g.tables)) [
  | inl is ↦ rw is h
  | inr none ↦ rw none (follow_in_1 g h none)
]

-- A fault isn't an end.
no_end : (p : Passing) → IsFault p → is_end p ≡ false
no_end (Ok rest) h = absurd h
no_end (Err left) h = refl

-- A game needs its version, where the tables stop in version 1 if a condact is indirect.
pub is_needed : (g : GameLists) (p : Passing) → (has_indirect g.tables ≡ true → IsFault p) → needs_no_2 (needed_by g) p ≡ false
is_needed g p stops = elim (either (has_indirect g.tables)) [
  | inl is ↦ rw is (no_end p (stops is))
  | inr none ↦ rw none refl
]

-- Where the tables follow the rules of a version that is needed, it is the game's.
pub right_version : (v : Version) (g : GameLists) (p : Passing) → list_all (table_follows (declared_as v g)) g.tables ≡ true
    → needs_no_2 v p ≡ false → (list_all (table_follows (declared_as One g)) g.tables ≡ true → p ≡ Ok [])
    → version_byte v ≡ version_of g
unfolding version_of
right_version One g p follow wanted passes =
    let parts = and_parts (list_all (is_table g) g.tables) (not (has_indirect g.tables)) (sym (split_tables g g.tables) ∙ follow) in
    elim (either (has_indirect g.tables)) [
      | inl is ↦ let wrong : false ≡ true = ap (λ (b : Bool). not b) (sym is) ∙ parts.1 in absurd cc
      | inr none ↦ rw none refl
    ]
right_version Two g p follow wanted passes = elim (either (has_indirect g.tables)) [
  | inl is ↦ rw is refl
  | inr none ↦
      let ends = passes (follow_in_1 g follow none) in
      let wrong : true ≡ false = ap (λ (q : Passing). is_end q) (sym ends) ∙ wanted in
      absurd cc
]
