-- The token that is printed for a value of a word is read as that value.
use Rattle.std.proofs.Common.{◌≡◌, ℕ, ◌<◌, ◌≤◌, Bool, true, false, ◌&&◌, ◌||◌, eqb, ltb, leb, cond, List, [], ◌∷◌, Some}
use Rattle.std.proofs.Common.{None, Result, Ok, Ordering, refl, sym}
use Rattle.std.proofs.Common.{ap, ◌∙◌, subst, inl, inr, bytes_eq, arith}
use Rattle.std.specs.List.{list_all, list_any, find}
use Rattle.std.specs.Option.{option_or}
use Rattle.std.specs.declared.cmp.Ordering.TheVariants.{Less, Equal, Greater}
use Rattle.std.specs.Ordering.{is_eq, is_lt, nat_cmp}
use Rattle.std.specs.Cmp.Lexicographic.{slice_cmp}
use Rattle.std.proofs.lemmas.Bool.{and_parts, or_cases, eqb-true, eq-eqb, ne_eqb, leb-true, lt-ltb, ltb-true}
use Rattle.std.proofs.lemmas.Bool.{false≢true}
use Rattle.paw_base.specs.Bytes.{Token, Tokens}
use Rattle.paw_base.specs.declared.words.TheConstants.{LEAST_WORD, GREATEST_WORD, ANY_WORD, NO_WORD, NOUN_CLASS}
use Rattle.paw_base.specs.declared.words.TheConstants.{VERB_CLASS, FIRST_PLAIN_NOUN}
use Rattle.paw_grammar.specs.Spells.{begins_with_slash}
use Rattle.std.proofs.lemmas.Cmp.{nat_list_cmp_total}
use Rattle.std.proofs.lemmas.Map.Text.{is_eq-slice_cmp}
use Rattle.std.proofs.lemmas.Slice.Eq.{bytes_eq-Decides}
use Rattle.paw_base.specs.declared.fault.SourceKind.{SourceKind}
use Rattle.paw_game.specs.declared.parts.Word.{Word}
use Rattle.paw_game.specs.Valid.{are_letters, is_within, is_word, words_rise, has_word, is_verb_value, is_word_or_none}
use Rattle.paw_game.specs.Valid.{is_wildcard}
use Rattle.paw_game.specs.Tables.{word_of}
use Rattle.paw_grammar.specs.Tokens.{begins_with_at}
use Rattle.paw_grammar.specs.Vocabulary.{declared_word, in_class, as_verb, word_or_none, verb_word, entry_verb, entry_noun}
use Rattle.paw_source.proofs.Faultless.{some_is}
use Rattle.paw_print.specs.Lines.{spelled_letters, first_word, word_token, value_token, verb_token}
use Rattle.paw_print.proofs.FirstWords.{means}
use Rattle.paw_top.proofs.Rows.{is_plain}
use Rattle.paw_top.proofs.Letters.{Spelling, spelling}

-- ---- finding ----

find_passes : (p : Word → Bool) (ws : List Word) (w : Word) → find p ws ≡ Some w → p w ≡ true
find_passes p [] w h = absurd cc
find_passes p (v ∷ vs) w h =
    elim (p v) as (λ b. p v ≡ b → cond b (Some v) (find p vs) ≡ Some w → p w ≡ true) [
      | true ↦ λ is g. subst (λ (u : Word). p u ≡ true) (some_is v w g) is
      | false ↦ λ is g. find_passes p vs w g
    ] refl h

find_follows : (p rule : Word → Bool) (ws : List Word) (w : Word) → list_all rule ws ≡ true → find p ws ≡ Some w → rule w ≡ true
find_follows p rule [] w all h = absurd cc
find_follows p rule (v ∷ vs) w all h =
    let both = and_parts (rule v) (list_all rule vs) all in
    elim (p v) as (λ b. cond b (Some v) (find p vs) ≡ Some w → rule w ≡ true) [
      | true ↦ λ g. subst (λ (u : Word). rule u ≡ true) (some_is v w g) both.0
      | false ↦ λ g. find_follows p rule vs w both.1 g
    ] h

find_some : (p : Word → Bool) (ws : List Word) → list_any p ws ≡ true → (w : Word) × (find p ws ≡ Some w)
find_some p [] h = absurd cc
find_some p (v ∷ vs) h =
    elim (p v) as (λ b. (b || list_any p vs) ≡ true → (w : Word) × (cond b (Some v) (find p vs) ≡ Some w)) [
      | true ↦ λ g. (v, refl)
      | false ↦ λ g. find_some p vs g
    ] h

pub Less-from_is_lt : (o : Ordering) → is_lt o ≡ true → o ≡ Less
Less-from_is_lt Less h = refl
Less-from_is_lt Equal h = absurd (false≢true h)
Less-from_is_lt Greater h = absurd (false≢true h)

pub rest_rises : (w : Word) (ws : List Word) → words_rise (w ∷ ws) ≡ true → words_rise ws ≡ true
rest_rises w [] h = refl
rest_rises w (v ∷ vs) h = (and_parts _ (words_rise (v ∷ vs)) h).1

-- What is found after a word stands above it.
found_above : (p : Word → Bool) (v : Word) (vs : List Word) (w : Word) → words_rise (v ∷ vs) ≡ true →
    find p vs ≡ Some w → slice_cmp nat_cmp v.letters w.letters ≡ Less
found_above p v [] w rise h = absurd cc
found_above p v (u ∷ us) w rise h =
    let both = and_parts (is_lt (slice_cmp nat_cmp v.letters u.letters)) (words_rise (u ∷ us)) rise in
    let here = Less-from_is_lt (slice_cmp nat_cmp v.letters u.letters) both.0 in
    elim (p u) as (λ b. cond b (Some u) (find p us) ≡ Some w → slice_cmp nat_cmp v.letters w.letters ≡ Less) [
      | true ↦ λ g. subst (λ (x : Word). slice_cmp nat_cmp v.letters x.letters ≡ Less) (some_is u w g) here
      | false ↦ λ g. nat_list_cmp_total.trans v.letters u.letters w.letters here (found_above p u us w both.1 g)
    ] h

-- A word that is found is the one with its letters.
pub found_word : (p : Word → Bool) (ws : List Word) (w : Word) → words_rise ws ≡ true → find p ws ≡ Some w → word_of w.letters ws ≡ Some w
found_word p [] w rise h = absurd cc
found_word p (v ∷ vs) w rise h =
    elim (p v) as (λ b. cond b (Some v) (find p vs) ≡ Some w → word_of w.letters (v ∷ vs) ≡ Some w) [
      | true ↦ λ g.
          let same : v ≡ w = some_is v w g in
          let eq : bytes_eq v.letters w.letters ≡ true = (bytes_eq-Decides v.letters w.letters).1 (ap (λ (x : Word). x.letters) same) in
          rw eq g
      | false ↦ λ g.
          let differs : bytes_eq v.letters w.letters ≡ false = sym (is_eq-slice_cmp v.letters w.letters) ∙ ap is_eq (found_above p v vs w rise g) in
          rw differs (found_word p vs w (rest_rises v vs rise) g)
    ] h

-- ---- words of a game ----

-- Words that follow their rules.
pub record Words (ws : List Word) : Type 0 where
  pub all : list_all is_word ws ≡ true
  pub rise : words_rise ws ≡ true

-- The first word with a class and a value, and its token.
record First (ws : List Word) (class value : ℕ) (w : Word) : Type 0 where
  class_is : w.class ≡ class
  value_is : w.value ≡ value
  low : LEAST_WORD ≤ value
  high : value ≤ GREATEST_WORD
  spelled : Spelling (spelled_letters w) w.letters
  known_is : declared_word ws (spelled_letters w) ≡ Some w

first_is : (ws : List Word) (class value : ℕ) (w : Word) → Words ws → first_word ws class value ≡ Some w → First ws class value w
first_is ws class value w words h =
    let passes = and_parts (eqb w.class class) _ (find_passes (means class value) ws w h) in
    let kept = and_parts (are_letters w.letters) _ (find_follows (means class value) is_word ws w words.all h) in
    let range = and_parts (leb LEAST_WORD w.value) (leb w.value GREATEST_WORD) (and_parts (is_within LEAST_WORD GREATEST_WORD w.value) _ kept.1).0 in
    let value_is : w.value ≡ value = eqb-true w.value value passes.1 in
    let low : LEAST_WORD ≤ w.value = leb-true LEAST_WORD w.value range.0 in
    let high : w.value ≤ GREATEST_WORD = leb-true w.value GREATEST_WORD range.1 in
    let s = spelling w.letters kept.0 in
    record {
      class_is = eqb-true w.class class passes.0;
      value_is = value_is;
      low = omega arith;
      high = omega arith;
      spelled = s;
      known_is = rw (s.word, s.is) (found_word (means class value) ws w words.rise h);
    }

no_sign : (value : ℕ) (w : Word) → LEAST_WORD ≤ value → value ≤ GREATEST_WORD → word_token value (Some w) ≡ spelled_letters w
no_sign value w low high =
    let one : eqb value ANY_WORD ≡ false = ne_eqb value ANY_WORD (λ e. omega arith) in
    let none : eqb value NO_WORD ≡ false = ne_eqb value NO_WORD (λ e. omega arith) in
    rw (one, none) refl

-- ---- reading ----

-- A token is plain, begins with no stroke and no `@`, and these readers read this value.
pub record ReadsBack (t : Token) (read : Tokens → Result (ℕ × Tokens) SourceKind) (value : ℕ) : Type 0 where
  pub plain : is_plain t ≡ true
  pub slash : begins_with_slash t ≡ false
  pub at : begins_with_at t ≡ false
  pub is : (ts : Tokens) → read (t ∷ ts) ≡ Ok (value, ts)

in_class-is : (ws : List Word) (class value : ℕ) (w : Word) → First ws class value w → in_class class (declared_word ws (spelled_letters w)) ≡ Some value
in_class-is ws class value w f =
    let same : eqb w.class class ≡ true = eq-eqb w.class class f.class_is in
    rw f.known_is (rw same (ap Some f.value_is))

-- A value that some word of the class has.
value_back : (ws : List Word) (class value : ℕ) → Words ws → has_word ws class value ≡ true →
    ReadsBack (value_token ws class value) (word_or_none ws class) value
value_back ws class value words has =
    let found = find_some (means class value) ws has in
    let f = first_is ws class value found.0 words found.1 in
    let token : value_token ws class value ≡ spelled_letters found.0 = ap (word_token value) found.1 ∙ no_sign value found.0 f.low f.high in
    rw token (record {
      plain = f.spelled.plain;
      slash = f.spelled.slash;
      at = f.spelled.at;
      is = λ ts. rw (f.spelled.none, in_class-is ws class value found.0 f) refl;
    })

-- An object's word, or one that is a parameter.
pub word_or_none_back : (ws : List Word) (class value : ℕ) → Words ws → is_word_or_none ws class value ≡ true →
    ReadsBack (value_token ws class value) (word_or_none ws class) value
word_or_none_back ws class value words h =
    elim (or_cases (eqb value NO_WORD) (has_word ws class value) h) [
      | inl e ↦ rw (eqb-true value NO_WORD e) (record { plain = refl; slash = refl; at = refl; is = λ ts. refl })
      | inr has ↦ value_back ws class value words has
    ]

-- The noun of an entry.
pub entry_noun_back : (ws : List Word) (value : ℕ) → Words ws → (is_wildcard value || has_word ws NOUN_CLASS value) ≡ true →
    ReadsBack (value_token ws NOUN_CLASS value) (entry_noun ws) value
entry_noun_back ws value words h =
    elim (or_cases (is_wildcard value) (has_word ws NOUN_CLASS value) h) [
      | inl any ↦ elim (or_cases (eqb value ANY_WORD) (eqb value NO_WORD) any) [
        | inl e ↦ rw (eqb-true value ANY_WORD e) (record { plain = refl; slash = refl; at = refl; is = λ ts. refl })
        | inr e ↦ rw (eqb-true value NO_WORD e) (record { plain = refl; slash = refl; at = refl; is = λ ts. refl })
      ]
      | inr has ↦
          let found = find_some (means NOUN_CLASS value) ws has in
          let f = first_is ws NOUN_CLASS value found.0 words found.1 in
          let token : value_token ws NOUN_CLASS value ≡ spelled_letters found.0 = ap (word_token value) found.1 ∙ no_sign value found.0 f.low f.high in
          rw token (record {
            plain = f.spelled.plain;
            slash = f.spelled.slash;
            at = f.spelled.at;
            is = λ ts. rw (f.spelled.any, f.spelled.none, in_class-is ws NOUN_CLASS value found.0 f) refl;
          })
    ]

-- ---- verbs ----

-- The word that stands for a verb value.
record Verb (ws : List Word) (value : ℕ) (w : Word) : Type 0 where
  stands : option_or (first_word ws VERB_CLASS value) (first_word ws NOUN_CLASS value) ≡ Some w
  low : LEAST_WORD ≤ value
  high : value ≤ GREATEST_WORD
  spelled : Spelling (spelled_letters w) w.letters
  read : as_verb (declared_word ws (spelled_letters w)) ≡ Some value

verb_is : (ws : List Word) (value : ℕ) (w : Word) → Words ws → first_word ws VERB_CLASS value ≡ Some w → Verb ws value w
verb_is ws value w words h =
    let f = first_is ws VERB_CLASS value w words h in
    let same : eqb w.class VERB_CLASS ≡ true = eq-eqb w.class VERB_CLASS f.class_is in
    record {
      stands = rw h refl;
      low = f.low;
      high = f.high;
      spelled = f.spelled;
      read = rw f.known_is (rw same (ap Some f.value_is));
    }

noun_is : (ws : List Word) (value : ℕ) (w : Word) → Words ws → value < FIRST_PLAIN_NOUN → first_word ws VERB_CLASS value ≡ None
    → first_word ws NOUN_CLASS value ≡ Some w → Verb ws value w
noun_is ws value w words small none h =
    let f = first_is ws NOUN_CLASS value w words h in
    let verb : eqb w.class VERB_CLASS ≡ false = ne_eqb w.class VERB_CLASS (λ e. omega (arith, f.class_is)) in
    let noun : eqb w.class NOUN_CLASS ≡ true = eq-eqb w.class NOUN_CLASS f.class_is in
    let below : ltb w.value FIRST_PLAIN_NOUN ≡ true = lt-ltb w.value FIRST_PLAIN_NOUN (omega (arith, f.value_is)) in
    record {
      stands = rw (none, h) refl;
      low = f.low;
      high = f.high;
      spelled = f.spelled;
      read = rw f.known_is (rw (verb, noun, below) (ap Some f.value_is));
    }

some_verb : (ws : List Word) (value : ℕ) → Words ws → is_verb_value ws value ≡ true → (w : Word) × Verb ws value w
some_verb ws value words h =
    elim (first_word ws VERB_CLASS value) as (λ o. first_word ws VERB_CLASS value ≡ o → (w : Word) × Verb ws value w) [
      | Some w ↦ λ e. (w, verb_is ws value w words e)
      | None ↦ λ e. elim (or_cases (has_word ws VERB_CLASS value) (ltb value FIRST_PLAIN_NOUN && has_word ws NOUN_CLASS value) h) [
        | inl has ↦
            let found = find_some (means VERB_CLASS value) ws has in
            let first : first_word ws VERB_CLASS value ≡ Some found.0 = found.1 in
            absurd cc
        | inr has ↦
            let both = and_parts (ltb value FIRST_PLAIN_NOUN) (has_word ws NOUN_CLASS value) has in
            let found = find_some (means NOUN_CLASS value) ws both.1 in
            (found.0, noun_is ws value found.0 words (ltb-true value FIRST_PLAIN_NOUN both.0) e found.1)
      ]
    ] refl

verb_token-is : (ws : List Word) (value : ℕ) (w : Word) → Verb ws value w → verb_token ws value ≡ spelled_letters w
verb_token-is ws value w v = ap (word_token value) v.stands ∙ no_sign value w v.low v.high

-- The verb of an exit.
pub verb_word_back : (ws : List Word) (value : ℕ) → Words ws → is_verb_value ws value ≡ true → ReadsBack (verb_token ws value) (verb_word ws) value
verb_word_back ws value words h =
    let v = some_verb ws value words h in
    rw (verb_token-is ws value v.0 v.1) (record {
      plain = v.1.spelled.plain;
      slash = v.1.spelled.slash;
      at = v.1.spelled.at;
      is = λ ts. rw v.1.read refl;
    })

-- The verb of an entry.
pub entry_verb_back : (ws : List Word) (value : ℕ) → Words ws → (is_wildcard value || is_verb_value ws value) ≡ true →
    ReadsBack (verb_token ws value) (entry_verb ws) value
entry_verb_back ws value words h =
    elim (or_cases (is_wildcard value) (is_verb_value ws value) h) [
      | inl any ↦ elim (or_cases (eqb value ANY_WORD) (eqb value NO_WORD) any) [
        | inl e ↦ rw (eqb-true value ANY_WORD e) (record { plain = refl; slash = refl; at = refl; is = λ ts. refl })
        | inr e ↦ rw (eqb-true value NO_WORD e) (record { plain = refl; slash = refl; at = refl; is = λ ts. refl })
      ]
      | inr is ↦
          let v = some_verb ws value words is in
          rw (verb_token-is ws value v.0 v.1) (record {
            plain = v.1.spelled.plain;
            slash = v.1.spelled.slash;
            at = v.1.spelled.at;
            is = λ ts. rw (v.1.spelled.any, v.1.spelled.none, v.1.read) refl;
          })
    ]
