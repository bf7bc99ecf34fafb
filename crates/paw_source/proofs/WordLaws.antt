-- Words that are read, declared and looked up follow the rules of a game's words.
use Rattle.std.proofs.Common.{◌≡◌, ℕ, zero, suc, ◌-◌, Bool, true, false, cond, ◌&&◌, ◌||◌, eqb}
use Rattle.std.proofs.Common.{ltb, List, [], ◌∷◌, ◌++◌, length, take, replicate, Option, Some, None}
use Rattle.std.proofs.Common.{is_some, Ok, Err, refl, sym, ap, ◌∙◌, arith, length-append}
use Rattle.std.specs.Prelude.{bytes_eq, nat_le, nat_lt}
use Rattle.std.specs.Char.{to_ascii_uppercase, is_ascii_alphanumeric}
use Rattle.std.specs.List.{list_all}
use Rattle.std.specs.Ordering.{is_lt, is_eq, nat_cmp, ordering_reverse}
use Rattle.std.specs.declared.cmp.Ordering.TheVariants.{Less, Equal, Greater}
use Rattle.std.specs.Cmp.Lexicographic.{slice_cmp}
use Rattle.std.proofs.lemmas.Bool.{and_parts, leb-true, eqb-true, eqb-false}
use Rattle.std.proofs.lemmas.Bool.Decides.{nat_tests}
use Rattle.std.proofs.lemmas.List.{length-take, length-map, length-replicate}
use Rattle.std.proofs.lemmas.List.Quantifiers.{position-Some}
use Rattle.std.proofs.lemmas.Cmp.{nat_list_cmp_total}
use Rattle.std.proofs.lemmas.Map.Text.{is_eq-slice_cmp}
use Rattle.paw_base.specs.Bytes.{Tokens, Letters, Bytes, Token}
use Rattle.paw_base.specs.declared.fault.SourceKind.TheVariants as kind
use Rattle.paw_base.specs.Condacts.{capitals}
use Rattle.paw_base.specs.declared.limits.TheConstants.{WORD_LENGTH, WORD_LIMIT}
use Rattle.paw_base.specs.declared.words.TheConstants.{VERB_CLASS, NOUN_CLASS, PRONOUN_CLASS, ANY_WORD, NO_WORD}
use Rattle.paw_base.specs.declared.words.TheConstants.{FIRST_PLAIN_NOUN}
use Rattle.paw_game.specs.declared.parts.Word.{Word}
use Rattle.paw_game.specs.Valid.{is_letter, is_filled, are_letters, is_word, words_rise, words_are_valid, has_word}
use Rattle.paw_game.specs.Valid.{is_verb_value, is_word_or_none, is_wildcard}
use Rattle.paw_game.specs.Tables.{word_of}
use Rattle.paw_grammar.specs.Tokens.{is_named}
use Rattle.paw_grammar.specs.Vocabulary.{is_word_token, letters_of, letters_in, word, class_names, index_among}
use Rattle.paw_grammar.specs.Vocabulary.{class, words_with, with_word_declared, in_class, as_verb, declared_word, or_none}
use Rattle.paw_grammar.specs.Vocabulary.{or_any, word_or_none, verb_word, entry_verb, entry_noun}
use Rattle.paw_source.proofs.Faultless.{passes, ok_is, some_is, read_ok}

-- ---- letters

all_spaces : (n : ℕ) → list_all (λ d. eqb d 32) (replicate n 32) ≡ true
all_spaces zero = refl
all_spaces (suc n) = all_spaces n

filled_spaces : (n : ℕ) → is_filled (replicate n 32) ≡ true
filled_spaces zero = refl
filled_spaces (suc n) = all_spaces n

-- Letters, and then spaces.
letters_filled : (cs : Bytes) (n : ℕ) → list_all is_letter cs ≡ true → is_filled (cs ++ replicate n 32) ≡ true
letters_filled [] n h = filled_spaces n
letters_filled (c ∷ cs) n h =
    let p = and_parts (is_letter c) (list_all is_letter cs) h in
    rw p.0 (letters_filled cs n p.1)

letters_taken : (i : ℕ) (cs : Bytes) → list_all is_letter cs ≡ true → list_all is_letter (take i cs) ≡ true
letters_taken zero cs h = refl
letters_taken (suc i) [] h = refl
letters_taken (suc i) (c ∷ cs) h =
    let p = and_parts (is_letter c) (list_all is_letter cs) h in
    rw p.0 (letters_taken i cs p.1)

five_letters : (cs : Bytes) → length (take WORD_LENGTH cs ++ replicate (WORD_LENGTH - length cs) 32) ≡ WORD_LENGTH
five_letters cs =
    let a = length-append (take WORD_LENGTH cs) (replicate (WORD_LENGTH - length cs) 32) in
    let b = length-take WORD_LENGTH cs in
    let c = length-replicate {A = ℕ} (WORD_LENGTH - length cs) 32 in
    omega (arith, a, b, c)

upper_letter : (b : ℕ) → is_ascii_alphanumeric b ≡ true → is_letter (to_ascii_uppercase b) ≡ true
upper_letter b h = grind (arith, nat_tests)

upper_letters : (t : Bytes) → list_all is_ascii_alphanumeric t ≡ true → list_all is_letter (capitals t) ≡ true
upper_letters [] h = refl
upper_letters (b ∷ bs) h =
    let p = and_parts (is_ascii_alphanumeric b) (list_all is_ascii_alphanumeric bs) h in
    rw (upper_letter b p.0) (upper_letters bs p.1)

letters_follow : (t : Token) → is_word_token t ≡ true → are_letters (letters_of t) ≡ true
letters_follow [] h = absurd cc
letters_follow (b ∷ bs) h =
    let some = (and_parts (nat_lt 0 (length (b ∷ bs))) (list_all is_ascii_alphanumeric (b ∷ bs)) h).1 in
    let p = and_parts (is_ascii_alphanumeric b) (list_all is_ascii_alphanumeric bs) some in
    let first = upper_letter b p.0 in
    let five = five_letters (capitals (b ∷ bs)) in
    let long = length-map bs to_ascii_uppercase in
    let tail = letters_filled (take 4 (capitals bs)) (WORD_LENGTH - length (b ∷ bs)) (letters_taken 4 (capitals bs) (upper_letters bs p.1)) in
    let same : length (letters_of (b ∷ bs)) ≡ WORD_LENGTH =
    ap (λ (n : ℕ). length (take WORD_LENGTH (capitals (b ∷ bs)) ++ replicate (WORD_LENGTH - suc n) 32)) (sym long) ∙ five in
    rw (same, first, tail) refl

pub word_ok : (ts : Tokens) (x : Letters × Tokens) → word ts ≡ Ok x → are_letters x.0 ≡ true
word_ok ts x h =
    let r = read_ok kind.Word letters_in ts x h in
    elim (is_word_token r.0) as (λ b. is_word_token r.0 ≡ b → cond b (Some (letters_of r.0)) None ≡ Some x.0 → are_letters x.0 ≡ true) [
      | true ↦ λ e f. rw (← some_is (letters_of r.0) x.0 f) (letters_follow r.0 e)
      | false ↦ λ e f. absurd cc
    ] refl r.1

pub class_ok : (ts : Tokens) (x : ℕ × Tokens) → class ts ≡ Ok x → nat_le x.0 PRONOUN_CLASS ≡ true
class_ok ts x h =
    let r = read_ok kind.Word (index_among class_names) ts x h in
    let within = (position-Some (is_named r.0) class_names x.0 [] r.1).0 in
    grind (arith, nat_tests, within)

-- ---- order

-- Of two texts that differ one stands above.
other_way : (a b : Bytes) → is_lt (slice_cmp nat_cmp a b) ≡ false → bytes_eq b a ≡ false → is_lt (slice_cmp nat_cmp b a) ≡ true
other_way a b less same =
    let back = nat_list_cmp_total.antisymm a b in
    let eq = is_eq-slice_cmp b a in
    elim (slice_cmp nat_cmp b a) as (λ o. slice_cmp nat_cmp a b ≡ ordering_reverse o → is_eq o ≡ bytes_eq b a → is_lt o ≡ true) [
      | Less ↦ λ e f. refl
      | Equal ↦ λ e f. absurd (let g : true ≡ false = f ∙ same in cc)
      | Greater ↦ λ e f. absurd (let g : true ≡ false = sym (ap is_lt e) ∙ less in cc)
    ] back eq

-- Some word has these letters.
abbrev is_declared : Letters → List Word → Bool
is_declared letters ws = is_some (word_of letters ws)

no_word : (o : Option Word) → is_some o ≡ false → o ≡ None
no_word None h = refl
no_word (Some w) h = absurd cc

-- Letters that aren't declared are those of no word.
undeclared : (l : Letters) (v : Word) (vs : List Word) → is_declared l (v ∷ vs) ≡ false → (bytes_eq v.letters l ≡ false) × (is_declared l vs ≡ false)
undeclared l v vs h =
    elim (bytes_eq v.letters l) as (λ b. is_some (cond b (Some v) (word_of l vs)) ≡ false → (b ≡ false) × (is_declared l vs ≡ false)) [
      | true ↦ λ e. absurd cc
      | false ↦ λ e. (refl, e)
    ] h

rise_put : (v w : Word) (ws : List Word) → words_rise (v ∷ ws) ≡ true
    → is_lt (slice_cmp nat_cmp v.letters w.letters) ≡ true → is_declared w.letters ws ≡ false
    → words_rise (v ∷ words_with w ws) ≡ true
unfolding words_with
rise_put v w [] rise above new = rw above refl
rise_put v w (u ∷ us) rise above new =
    let p = and_parts (is_lt (slice_cmp nat_cmp v.letters u.letters)) (words_rise (u ∷ us)) rise in
    let n = undeclared w.letters u us new in
    elim (is_lt (slice_cmp nat_cmp w.letters u.letters)) as (λ b. is_lt (slice_cmp nat_cmp w.letters u.letters) ≡ b
    → words_rise (v ∷ cond b (w ∷ u ∷ us) (u ∷ words_with w us)) ≡ true) [
      | true ↦ λ e. rw (above, e, p.1) refl
      | false ↦ λ e. rw p.0 (rise_put u w us p.1 (other_way w.letters u.letters e n.0) n.1)
    ] refl

put_rises : (w : Word) (ws : List Word) → words_rise ws ≡ true → is_declared w.letters ws ≡ false → words_rise (words_with w ws) ≡ true
unfolding words_with
put_rises w [] rise new = refl
put_rises w (u ∷ us) rise new =
    let n = undeclared w.letters u us new in
    elim (is_lt (slice_cmp nat_cmp w.letters u.letters)) as (λ b. is_lt (slice_cmp nat_cmp w.letters u.letters) ≡ b
    → words_rise (cond b (w ∷ u ∷ us) (u ∷ words_with w us)) ≡ true) [
      | true ↦ λ e. rw (e, rise) refl
      | false ↦ λ e. rise_put u w us rise (other_way w.letters u.letters e n.0) n.1
    ] refl

put_length : (w : Word) (ws : List Word) → length (words_with w ws) ≡ suc (length ws)
unfolding words_with
put_length w [] = refl
put_length w (u ∷ us) =
    elim (is_lt (slice_cmp nat_cmp w.letters u.letters)) as (λ b. length (cond b (w ∷ u ∷ us) (u ∷ words_with w us)) ≡ suc (suc (length us))) [
      | true ↦ refl
      | false ↦ ap suc (put_length w us)
    ]

put_words : (w : Word) (ws : List Word) → is_word w ≡ true → list_all is_word ws ≡ true → list_all is_word (words_with w ws) ≡ true
unfolding words_with
put_words w [] one all = rw one refl
put_words w (u ∷ us) one all =
    let p = and_parts (is_word u) (list_all is_word us) all in
    elim (is_lt (slice_cmp nat_cmp w.letters u.letters)) as (λ b. list_all is_word (cond b (w ∷ u ∷ us) (u ∷ words_with w us)) ≡ true) [
      | true ↦ rw one all
      | false ↦ rw p.0 (put_words w us one p.1)
    ]

-- A word that is declared leaves the words in order, and no more than 2,000.
pub declared_ok : (w : Word) (ws vs : List Word) → is_word w ≡ true → words_are_valid ws ≡ true → with_word_declared w ws ≡ Ok vs → words_are_valid vs ≡ true
declared_ok w ws vs one kept h =
    let p = and_parts (nat_le (length ws) WORD_LIMIT) (list_all is_word ws && words_rise ws) kept in
    let q = and_parts (list_all is_word ws) (words_rise ws) p.1 in
    let a = passes (is_declared w.letters ws) kind.Duplicate (cond (eqb (length ws) WORD_LIMIT) (Err kind.TooBig) (Ok (words_with w ws))) vs h in
    let b = passes (eqb (length ws) WORD_LIMIT) kind.TooBig (Ok (words_with w ws)) vs a.1 in
    let long = put_length w ws in
    let few : nat_le (length (words_with w ws)) WORD_LIMIT ≡ true =
    grind (arith, nat_tests, long, leb-true (length ws) WORD_LIMIT p.0, eqb-false (length ws) WORD_LIMIT b.0) in
    rw (← ok_is (words_with w ws) vs b.1, few, put_words w ws one q.0, put_rises w ws q.1 a.0) refl

-- ---- looking up

-- A word that is found is one of the words.
found_has : (l : Letters) (ws : List Word) (w : Word) → word_of l ws ≡ Some w → has_word ws w.class w.value ≡ true
found_has l [] w h = absurd cc
found_has l (u ∷ us) w h =
    elim (bytes_eq u.letters l) as (λ b. cond b (Some u) (word_of l us) ≡ Some w → has_word (u ∷ us) w.class w.value ≡ true) [
      | true ↦ λ e. rw (some_is u w e) (grind (arith, nat_tests))
      | false ↦ λ e. grind (arith, found_has l us w e)
    ] h

known_has : (ws : List Word) (t : Token) (w : Word) → declared_word ws t ≡ Some w → has_word ws w.class w.value ≡ true
known_has ws t w h =
    elim (is_word_token t) as (λ b. cond b (word_of (letters_of t) ws) None ≡ Some w → has_word ws w.class w.value ≡ true) [
      | true ↦ λ e. found_has (letters_of t) ws w e
      | false ↦ λ e. absurd cc
    ] h

class_has : (ws : List Word) (c v : ℕ) (o : Option Word)
    → ((w : Word) → o ≡ Some w → has_word ws w.class w.value ≡ true) → in_class c o ≡ Some v → has_word ws c v ≡ true
class_has ws c v None from h = absurd cc
class_has ws c v (Some w) from h =
    elim (eqb w.class c) as (λ b. eqb w.class c ≡ b → cond b (Some w.value) None ≡ Some v → has_word ws c v ≡ true) [
      | true ↦ λ e f. rw (← eqb-true w.class c e, ← some_is w.value v f) (from w refl)
      | false ↦ λ e f. absurd cc
    ] refl h

verb_has : (ws : List Word) (v : ℕ) (o : Option Word) → ((w : Word) → o ≡ Some w → has_word ws w.class w.value ≡ true)
    → as_verb o ≡ Some v → is_verb_value ws v ≡ true
verb_has ws v None from h = absurd cc
verb_has ws v (Some w) from h =
    elim (eqb w.class VERB_CLASS) as
    (λ b. eqb w.class VERB_CLASS ≡ b → cond (b || (eqb w.class NOUN_CLASS && ltb w.value FIRST_PLAIN_NOUN)) (Some w.value) None ≡ Some v
    → is_verb_value ws v ≡ true) [
      | true ↦ λ e f. let one : has_word ws VERB_CLASS v ≡ true = rw (← eqb-true w.class VERB_CLASS e, ← some_is w.value v f) (from w refl) in rw one refl
      | false ↦ λ e f. elim (eqb w.class NOUN_CLASS) as
          (λ b. eqb w.class NOUN_CLASS ≡ b → cond (b && ltb w.value FIRST_PLAIN_NOUN) (Some w.value) None ≡ Some v → is_verb_value ws v ≡ true) [
            | true ↦ λ e2 f2. elim (ltb w.value FIRST_PLAIN_NOUN) as
                (λ b. ltb w.value FIRST_PLAIN_NOUN ≡ b → cond b (Some w.value) None ≡ Some v → is_verb_value ws v ≡ true) [
                  | true ↦ λ e3 f3.
                      let one : has_word ws NOUN_CLASS v ≡ true =
                      rw (← eqb-true w.class NOUN_CLASS e2, ← some_is w.value v f3) (from w refl) in
                      let low : ltb v FIRST_PLAIN_NOUN ≡ true = rw (← some_is w.value v f3) e3 in
                      rw (one, low) (elim (has_word ws VERB_CLASS v) as (λ b. (b || true) ≡ true) [ true ↦ refl | false ↦ refl ])
                  | false ↦ λ e3 f3. absurd cc
                ] refl f2
            | false ↦ λ e2 f2. absurd cc
          ] refl f
    ] refl h

pub verb_word_ok : (ws : List Word) (ts : Tokens) (x : ℕ × Tokens) → verb_word ws ts ≡ Ok x → is_verb_value ws x.0 ≡ true
verb_word_ok ws ts x h =
    let r = read_ok kind.Word (λ t. as_verb (declared_word ws t)) ts x h in
    verb_has ws x.0 (declared_word ws r.0) (known_has ws r.0) r.1

-- `_` is no word, and anything else what it means.
none_or : (f : Token → Option ℕ) (t : Token) (v : ℕ) (good : Bool) → (f t ≡ Some v → good ≡ true) → or_none f t ≡ Some v → (eqb v NO_WORD || good) ≡ true
none_or f t v good from h =
    elim (bytes_eq t (95 ∷ [])) as (λ b. cond b (Some NO_WORD) (f t) ≡ Some v → (eqb v NO_WORD || good) ≡ true) [
      | true ↦ λ e. rw (← some_is NO_WORD v e) refl
      | false ↦ λ e. rw (from e) (elim (eqb v NO_WORD) as (λ b. (b || true) ≡ true) [ true ↦ refl | false ↦ refl ])
    ] h

any_or : (f : Token → Option ℕ) (t : Token) (v : ℕ) (good : Bool) → (f t ≡ Some v → good ≡ true) → or_any f t ≡ Some v → (is_wildcard v || good) ≡ true
any_or f t v good from h =
    elim (bytes_eq t (42 ∷ [])) as (λ b. cond b (Some ANY_WORD) (or_none f t) ≡ Some v → (is_wildcard v || good) ≡ true) [
      | true ↦ λ e. rw (← some_is ANY_WORD v e) refl
      | false ↦ λ e. let n = none_or f t v good from e in elim (eqb v ANY_WORD) as (λ b. ((b || eqb v NO_WORD) || good) ≡ true) [ true ↦ refl | false ↦ n ]
    ] h

pub word_or_none_ok : (ws : List Word) (c : ℕ) (ts : Tokens) (x : ℕ × Tokens) → word_or_none ws c ts ≡ Ok x → is_word_or_none ws c x.0 ≡ true
word_or_none_ok ws c ts x h =
    let r = read_ok kind.Word (or_none (λ t. in_class c (declared_word ws t))) ts x h in
    none_or (λ t. in_class c (declared_word ws t)) r.0 x.0 (has_word ws c x.0) (class_has ws c x.0 (declared_word ws r.0) (known_has ws r.0)) r.1

pub entry_verb_ok : (ws : List Word) (ts : Tokens) (x : ℕ × Tokens) → entry_verb ws ts ≡ Ok x → (is_wildcard x.0 || is_verb_value ws x.0) ≡ true
entry_verb_ok ws ts x h =
    let r = read_ok kind.Word (or_any (λ t. as_verb (declared_word ws t))) ts x h in
    any_or (λ t. as_verb (declared_word ws t)) r.0 x.0 (is_verb_value ws x.0) (verb_has ws x.0 (declared_word ws r.0) (known_has ws r.0)) r.1

pub entry_noun_ok : (ws : List Word) (ts : Tokens) (x : ℕ × Tokens) → entry_noun ws ts ≡ Ok x → (is_wildcard x.0 || has_word ws NOUN_CLASS x.0)
    ≡ true
entry_noun_ok ws ts x h =
    let r = read_ok kind.Word (or_any (λ t. in_class NOUN_CLASS (declared_word ws t))) ts x h in
    any_or (λ t. in_class NOUN_CLASS (declared_word ws t)) r.0 x.0 (has_word ws NOUN_CLASS x.0)
    (class_has ws NOUN_CLASS x.0 (declared_word ws r.0) (known_has ws r.0)) r.1
