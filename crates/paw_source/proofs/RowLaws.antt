-- Rows of exits, objects and condacts follow the rules of a game.
use Rattle.std.proofs.Common.{◌≡◌, ℕ, zero, suc, ◌+◌, ◌-◌, ◌<◌, Bool, true, false, cond, drop, subst}
use Rattle.std.proofs.Common.{not, ◌&&◌, ◌||◌, eqb, ltb, List, [], ◌∷◌, ◌++◌, length, map}
use Rattle.std.proofs.Common.{min, Option, Ok, Err, refl, sym, ap, ◌∙◌, arith}
use Rattle.std.specs.Prelude.{nat_le, nat_lt, codes}
use Rattle.std.specs.List.{list_all, list_any, IsDistinct, AllByRecursion}
use Rattle.std.specs.Option.{option_map, option_or, ok_or}
use Rattle.std.proofs.lemmas.Bool.{and_parts, and_from, leb-true, ltb-true, eqb-true, eqb-false}
use Rattle.std.proofs.lemmas.Bool.Decides.{nat_tests}
use Rattle.std.proofs.lemmas.List.{length-map, length-append, length-set}
use Rattle.std.proofs.lemmas.List.Folds.{list_all-append}
use Rattle.std.proofs.lemmas.Map.Steps.{length-le_from_distinct_below}
use Rattle.paw_base.specs.Bytes.{Name, Tokens, Token}
use Rattle.paw_base.specs.declared.fault.SourceKind.TheVariants as fault
use Rattle.paw_base.specs.declared.parts.Condact.{Condact}
use Rattle.paw_base.specs.declared.rows.ParamKind.{ParamKind}
use Rattle.paw_base.specs.declared.rows.ParamKind.TheVariants as kind
use Rattle.paw_base.specs.Condacts.{code_named, is_code, first_kind, second_kind, params_of, may_be_indirect}
use Rattle.paw_base.specs.declared.limits.TheConstants.{WORD_LIMIT, EXIT_LIMIT, ENTRY_LIMIT, CONDACT_LIMIT}
use Rattle.paw_base.specs.declared.limits.TheConstants.{WEIGHT_LIMIT, FLAG_COUNT}
use Rattle.paw_base.specs.declared.places.TheConstants.{NOT_CREATED_PLACE, CARRIED_PLACE, HERE_PLACE}
use Rattle.paw_base.specs.declared.words.TheConstants.{VERB_CLASS, ADVERB_CLASS, NOUN_CLASS, ADJECTIVE_CLASS}
use Rattle.paw_base.specs.declared.words.TheConstants.{PREPOSITION_CLASS, PRONOUN_CLASS, LEAST_WORD, GREATEST_WORD}
use Rattle.paw_base.specs.declared.words.TheConstants.{FIRST_PLAIN_NOUN}
use Rattle.paw_game.specs.declared.parts.Word.{Word}
use Rattle.paw_game.specs.declared.parts.Exit.{Exit}
use Rattle.paw_game.specs.declared.parts.Entry.{Entry}
use Rattle.paw_base.specs.declared.parts.ObjectFacts.{ObjectFacts}
use Rattle.paw_game.specs.Game.{GameLists, counts_of}
use Rattle.paw_game.specs.Valid.{words_are_valid, has_word, is_verb_value, is_wildcard, is_within, is_place, are_exits}
use Rattle.paw_game.specs.Valid.{exits_are_valid, facts_are_valid, is_parameter, is_condact, is_entry, is_table}
use Rattle.paw_game.specs.Valid.{is_word}
use Rattle.paw_grammar.specs.declared.bounds.Bounds.{Bounds}
use Rattle.paw_read_error.specs.Bind.{◌>>=◌}
use Rattle.paw_grammar.specs.Tokens.{read_by, at_most, at_is_next}
use Rattle.paw_grammar.specs.Numbers.{number, in_range, number_within, number_below, row_number}
use Rattle.paw_grammar.specs.Vocabulary.{index_among, word, class, object_kind, with_word_declared, word_or_none, verb_word}
use Rattle.paw_grammar.specs.Vocabulary.{entry_verb, entry_noun}
use Rattle.paw_grammar.specs.Condacts.{first_place, any_place, place_names, place_up_to, table, parameter}
use Rattle.paw_grammar.specs.Condacts.{is_indirect_before, flag_after_at, first_parameter, code_of}
use Rattle.paw_grammar.specs.Condacts.{condact, condacts_in, with_more_condacts, more_condacts}
use Rattle.paw_grammar.specs.GrammarState.{last_or, with_last}
use Rattle.paw_grammar.specs.GrammarRows.{voc_row, exit_row, object_row, entry_row, no_entry, more_row}
use Rattle.paw_grammar.proofs.Indirect.{named_plain, read_code, first_kind-indirect, second_kind-read}
use Rattle.paw_source.proofs.Faultless.{passes, holds, bound, bound_then, ok_is, at_end, in_range_ok, number_ok}
use Rattle.paw_source.proofs.WordLaws.{word_ok, class_ok, declared_ok, verb_word_ok, word_or_none_ok, entry_verb_ok}
use Rattle.paw_source.proofs.WordLaws.{entry_noun_ok}
use Rattle.paw_source.proofs.TextLaws.{all_set, all_at, all_pushed, both}

-- ---- words

pub voc_row_ok : (ws vs : List Word) (ts : Tokens) → words_are_valid ws ≡ true → voc_row ws ts ≡ Ok vs → words_are_valid vs ≡ true
unfolding voc_row
voc_row_ok ws vs ts kept h =
    bound_then _ (word ts) _ vs h (λ a a_ok h.
    bound_then _ (number_within LEAST_WORD GREATEST_WORD a.1) _ vs h (λ b b_ok h.
    bound_then _ (class b.1) _ vs h (λ c c_ok h.
    let made : Word = record { letters = a.0; value = b.0; class = c.0 } in
    let one : is_word made ≡ true = rw (word_ok ts a a_ok, number_ok (is_within LEAST_WORD GREATEST_WORD) a.1 b b_ok, class_ok b.1 c c_ok) refl in
    declared_ok made ws vs one kept (at_end c.1 (with_word_declared made ws) vs h))))

-- ---- exits

-- An exit has this verb.
abbrev has_exit : ℕ → List Exit → Bool
has_exit verb xs = list_any (λ x. eqb x.verb verb) xs

-- Whether another exit has its verb.
abbrev shares : Exit → List Exit → Bool
shares x xs = list_any (λ y. eqb y.verb x.verb) xs

shares_more : (x y : Exit) (xs : List Exit) → shares x xs ≡ false → eqb y.verb x.verb ≡ false → shares x (xs ++ y ∷ []) ≡ false
shares_more x y [] h e = rw e refl
shares_more x y (z ∷ zs) h e =
    elim (eqb z.verb x.verb) as (λ b. (b || shares x zs) ≡ false → (b || shares x (zs ++ y ∷ [])) ≡ false) [
      | true ↦ λ f. absurd cc
      | false ↦ λ f. shares_more x y zs f e
    ] h

not_equal_back : (a b : ℕ) → eqb a b ≡ false → eqb b a ≡ false
not_equal_back a b h = grind (arith, nat_tests)

exits_more : (ws : List Word) (locations : ℕ) (xs : List Exit) (x : Exit) → are_exits ws locations xs ≡ true
    → has_exit x.verb xs ≡ false → is_verb_value ws x.verb ≡ true → nat_lt x.to locations ≡ true
    → are_exits ws locations (xs ++ x ∷ []) ≡ true
exits_more ws locations [] x kept none verb to = rw (verb, to) refl
exits_more ws locations (y ∷ ys) x kept none verb to =
    let p = and_parts (is_verb_value ws y.verb && (nat_lt y.to locations && not (shares y ys))) (are_exits ws locations ys) kept in
    let q = and_parts (is_verb_value ws y.verb) (nat_lt y.to locations && not (shares y ys)) p.0 in
    let r = and_parts (nat_lt y.to locations) (not (shares y ys)) q.1 in
    elim (eqb y.verb x.verb) as (λ b. eqb y.verb x.verb ≡ b → (b || has_exit x.verb ys) ≡ false → are_exits ws locations (y ∷ (ys ++ x ∷ [])) ≡ true) [
      | true ↦ λ e f. absurd cc
      | false ↦ λ e f.
          let alone : shares y ys ≡ false = elim (shares y ys) as (λ b. not b ≡ true → b ≡ false) [ true ↦ λ g. absurd cc | false ↦ λ g. refl ] r.1 in
          rw (q.0, r.0, shares_more y x ys alone (not_equal_back y.verb x.verb e)) (exits_more ws locations ys x p.1 f verb to)
    ] refl none

-- No two exits of a location have the same verb.
verbs_apart : (ws : List Word) (locations v : ℕ) (xs : List Exit) → list_any (λ y. eqb y.verb v) xs ≡ false
    → AllByRecursion (λ y. eqb v y ≡ false) (map (λ (x : Exit). x.verb) xs)
verbs_apart ws locations v [] h = tt
verbs_apart ws locations v (x ∷ xs) h =
    elim (eqb x.verb v) as (λ b. eqb x.verb v ≡ b → (b || list_any (λ y. eqb y.verb v) xs) ≡ false
    → AllByRecursion (λ y. eqb v y ≡ false) (map (λ (x : Exit). x.verb) (x ∷ xs))) [
      | true ↦ λ e f. absurd cc
      | false ↦ λ e f. (not_equal_back x.verb v e, verbs_apart ws locations v xs f)
    ] refl h

verbs_distinct : (ws : List Word) (locations : ℕ) (xs : List Exit) → are_exits ws locations xs ≡ true → IsDistinct eqb (map (λ (x : Exit). x.verb) xs)
unfolding IsDistinct
verbs_distinct ws locations [] kept = tt
verbs_distinct ws locations (y ∷ ys) kept =
    let p = and_parts (is_verb_value ws y.verb && (nat_lt y.to locations && not (shares y ys))) (are_exits ws locations ys) kept in
    let q = and_parts (is_verb_value ws y.verb) (nat_lt y.to locations && not (shares y ys)) p.0 in
    let r = and_parts (nat_lt y.to locations) (not (shares y ys)) q.1 in
    let alone : shares y ys ≡ false = elim (shares y ys) as (λ b. not b ≡ true → b ≡ false) [ true ↦ λ g. absurd cc | false ↦ λ g. refl ] r.1 in
    (verbs_apart ws locations y.verb ys alone, verbs_distinct ws locations ys p.1)

-- A word's value is at most the greatest that a word may have.
value_low : (ws : List Word) (c v : ℕ) → list_all is_word ws ≡ true → has_word ws c v ≡ true → v < GREATEST_WORD + 1
value_low [] c v all h = absurd cc
value_low (w ∷ ws) c v all h =
    let p = and_parts (is_word w) (list_all is_word ws) all in
    let q = and_parts (is_within LEAST_WORD GREATEST_WORD w.value) (nat_le w.class PRONOUN_CLASS)
    (and_parts _ (is_within LEAST_WORD GREATEST_WORD w.value && nat_le w.class PRONOUN_CLASS) p.0).1 in
    elim (eqb w.class c && eqb w.value v) as (λ b. (eqb w.class c && eqb w.value v) ≡ b → (b || has_word ws c v) ≡ true → v < GREATEST_WORD + 1) [
      | true ↦ λ e f. let same = eqb-true w.value v (and_parts (eqb w.class c) (eqb w.value v) e).1 in let low =
          leb-true w.value GREATEST_WORD
          (and_parts (nat_le LEAST_WORD w.value) (nat_le w.value GREATEST_WORD) q.0).1 in omega (arith, same, low)
      | false ↦ λ e f. value_low ws c v p.1 f
    ] refl h

verb_low : (ws : List Word) (v : ℕ) → list_all is_word ws ≡ true → is_verb_value ws v ≡ true → v < GREATEST_WORD + 1
verb_low ws v all h =
    elim (has_word ws VERB_CLASS v) as
    (λ b. has_word ws VERB_CLASS v ≡ b → (b || (ltb v FIRST_PLAIN_NOUN && has_word ws NOUN_CLASS v)) ≡ true → v < GREATEST_WORD + 1) [
      | true ↦ λ e f. value_low ws VERB_CLASS v all e
      | false ↦ λ e f. value_low ws NOUN_CLASS v all (and_parts (ltb v FIRST_PLAIN_NOUN) (has_word ws NOUN_CLASS v) f).1
    ] refl h

verbs_low : (ws : List Word) (locations : ℕ) (xs : List Exit) (q : ℕ) → list_all is_word ws ≡ true
    → are_exits ws locations xs ≡ true → list_any (eqb q) (map (λ (x : Exit). x.verb) xs) ≡ true → q < GREATEST_WORD + 1
verbs_low ws locations [] q all kept h = absurd cc
verbs_low ws locations (y ∷ ys) q all kept h =
    let p = and_parts (is_verb_value ws y.verb && (nat_lt y.to locations && not (shares y ys))) (are_exits ws locations ys) kept in
    let v = (and_parts (is_verb_value ws y.verb) (nat_lt y.to locations && not (shares y ys)) p.0).0 in
    elim (eqb q y.verb) as (λ b. eqb q y.verb ≡ b → (b || list_any (eqb q) (map (λ (x : Exit). x.verb) ys)) ≡ true → q < GREATEST_WORD + 1) [
      | true ↦ λ e f. let same = eqb-true q y.verb e in let low = verb_low ws y.verb all v in omega (arith, same, low)
      | false ↦ λ e f. verbs_low ws locations ys q all p.1 f
    ] refl h

-- Verb values that differ are at most 255.
pub exits_few : (ws : List Word) (locations : ℕ) (xs : List Exit) → words_are_valid ws ≡ true → are_exits ws locations xs ≡ true →
    exits_are_valid ws locations xs ≡ true
exits_few ws locations xs words kept =
    let all = (and_parts (list_all is_word ws) _ (and_parts (nat_le (length ws) WORD_LIMIT) _ words).1).0 in
    let few = length-le_from_distinct_below (map (λ (x : Exit). x.verb) xs) (GREATEST_WORD + 1) (verbs_distinct ws locations xs kept)
    (λ q h. verbs_low ws locations xs q all kept h) in
    let long = length-map xs (λ (x : Exit). x.verb) in
    both (nat_le (length xs) EXIT_LIMIT) (are_exits ws locations xs) (grind (arith, nat_tests, few, long)) kept

pub exit_row_ok : (ws : List Word) (locations : ℕ) (xs ys : List Exit) (ts : Tokens) → words_are_valid ws ≡ true
    → exits_are_valid ws locations xs ≡ true → exit_row ws locations xs ts ≡ Ok ys → exits_are_valid ws locations ys ≡ true
unfolding exit_row
exit_row_ok ws locations xs ys ts words kept h =
    bound_then _ (verb_word ws ts) _ ys h (λ a a_ok h.
    bound_then _ (number_below locations a.1) _ ys h (λ b b_ok h.
    let x : Exit = record { verb = a.0; to = b.0 } in
    let c = at_end b.1 (cond (has_exit a.0 xs) (Err fault.Duplicate) (Ok (xs ++ x ∷ []))) ys h in
    let d = passes (has_exit a.0 xs) fault.Duplicate (Ok (xs ++ x ∷ [])) ys c in
    let old = (and_parts (nat_le (length xs) EXIT_LIMIT) (are_exits ws locations xs) kept).1 in
    let low = number_ok (λ n. nat_lt n locations) a.1 b b_ok in
    let new = exits_more ws locations xs x old d.0 (verb_word_ok ws ts a a_ok) low in
    rw (← ok_is (xs ++ x ∷ []) ys d.1) (exits_few ws locations (xs ++ x ∷ []) words new)))

-- ---- objects

place_within : (last : ℕ) (named : Token → Option ℕ) (locations : ℕ) (ts : Tokens) (x : ℕ × Tokens)
    → place_up_to last named locations ts ≡ Ok x → (nat_lt x.0 locations || is_within NOT_CREATED_PLACE last x.0) ≡ true
place_within last named locations ts x h =
    let b = bound (read_by fault.Number (λ t. option_or (number t) (option_map (λ i. NOT_CREATED_PLACE + i) (named t))) ts)
    (in_range (λ n. nat_lt n locations || is_within NOT_CREATED_PLACE last n)) x h in
    in_range_ok (λ n. nat_lt n locations || is_within NOT_CREATED_PLACE last n) b.0 x b.2

first_place_ok : (locations : ℕ) (ts : Tokens) (x : ℕ × Tokens) → first_place locations ts ≡ Ok x → is_place locations x.0 ≡ true
first_place_ok locations ts x h = place_within CARRIED_PLACE (index_among place_names) locations ts x h

pub record LawfulObjectRow (ws : List Word) (locations next count : ℕ) (f : ObjectFacts) : Type 0 where
  pub room : next < count
  pub facts : facts_are_valid ws locations f ≡ true

pub object_row_ok : (ws : List Word) (locations next count : ℕ) (ts : Tokens) (f : ObjectFacts)
    → object_row ws locations next count ts ≡ Ok f → LawfulObjectRow ws locations next count f
unfolding object_row
object_row_ok ws locations next count ts f h =
    bound_then _ (row_number next count ts) _ f h (λ a a_ok h.
    bound_then _ (first_place locations a.1) _ f h (λ b b_ok h.
    bound_then _ (number_within 0 WEIGHT_LIMIT b.1) _ f h (λ c c_ok h.
    bound_then _ (object_kind c.1) _ f h (λ d d_ok h.
    bound_then _ (word_or_none ws NOUN_CLASS d.1) _ f h (λ e e_ok h.
    bound_then _ (word_or_none ws ADJECTIVE_CLASS e.1) _ f h (λ g g_ok h.
    let made : ObjectFacts = record { noun = e.0; adjective = g.0; start = b.0; weight = c.0; container = d.0.0; wearable = d.0.1 } in
    let i = at_end g.1 (Ok made) f h in
    let room = number_ok (λ m. eqb m next && nat_lt next count) ts a a_ok in
    record {
      room = ltb-true next count (and_parts (eqb a.0 next) (nat_lt next count) room).1;
      facts = rw (← ok_is made f i)
          (rw (
            word_or_none_ok ws NOUN_CLASS d.1 e e_ok,
            word_or_none_ok ws ADJECTIVE_CLASS e.1 g g_ok,
            first_place_ok locations a.1 b b_ok,
            (and_parts (nat_le 0 c.0) (nat_le c.0 WEIGHT_LIMIT) (number_ok (is_within 0 WEIGHT_LIMIT) b.1 c c_ok)).1,
          ) refl);
    }))))))

-- ---- condacts

-- A game whose parts have these bounds.
pub record Has (bounds : Bounds) (ws : List Word) (g : GameLists) : Type 0 where
  pub words : g.words ≡ ws
  pub system : length g.system ≡ bounds.system
  pub messages : length g.messages ≡ bounds.messages
  pub objects : length g.objects ≡ bounds.objects
  pub locations : length g.locations ≡ bounds.locations
  pub tables : length g.tables ≡ bounds.tables

table_ok : (tables : ℕ) (ts : Tokens) (x : ℕ × Tokens) → table tables ts ≡ Ok x → nat_lt x.0 tables ≡ true
table_ok tables ts x h =
    let b = bound (number_below tables ts) (λ n. Ok (min n.0 255, n.1)) x h in
    let low = number_ok (λ n. nat_lt n tables) ts b.0 b.1 in
    let made : min b.0.0 255 ≡ x.0 = ap (λ (z : ℕ × Tokens). z.0) (ok_is (min b.0.0 255, b.0.1) x b.2) in
    rw (← made) (let below = ltb-true b.0.0 tables low in grind (arith, nat_tests, below))

place_ok : (locations : ℕ) (ts : Tokens) (x : ℕ × Tokens) → any_place locations ts ≡ Ok x
    → (nat_lt x.0 locations || is_within NOT_CREATED_PLACE HERE_PLACE x.0) ≡ true
place_ok locations ts x h = place_within HERE_PLACE (index_among (place_names ++ codes "HERE" ∷ [])) locations ts x h

parameter_ok : (bounds : Bounds) (ws : List Word) (g : GameLists) (k : ParamKind) (ts : Tokens)
    (x : ℕ × Tokens) → Has bounds ws g → parameter bounds ws k ts ≡ Ok x → is_parameter (counts_of g) g.words k x.0 ≡ true
parameter_ok bounds ws g kind.Absent ts x has h = rw (← ok_is (0, ts) x h) refl
parameter_ok bounds ws g kind.Location ts x has h = rw has.locations (number_ok (λ n. nat_lt n bounds.locations) ts x h)
parameter_ok bounds ws g kind.Place ts x has h = rw has.locations (place_ok bounds.locations ts x h)
parameter_ok bounds ws g kind.Object ts x has h = rw has.objects (number_ok (λ n. nat_lt n bounds.objects) ts x h)
parameter_ok bounds ws g kind.Flag ts x has h = number_ok (λ n. nat_lt n FLAG_COUNT) ts x h
parameter_ok bounds ws g kind.Number ts x has h = number_ok (λ n. nat_lt n 256) ts x h
parameter_ok bounds ws g kind.Message ts x has h = rw has.messages (number_ok (λ n. nat_lt n bounds.messages) ts x h)
parameter_ok bounds ws g kind.System ts x has h = rw has.system (number_ok (λ n. nat_lt n bounds.system) ts x h)
parameter_ok bounds ws g kind.Table ts x has h = rw has.tables (table_ok bounds.tables ts x h)
parameter_ok bounds ws g kind.Adverb ts x has h = rw has.words (word_or_none_ok ws ADVERB_CLASS ts x h)
parameter_ok bounds ws g kind.Noun ts x has h = rw has.words (word_or_none_ok ws NOUN_CLASS ts x h)
parameter_ok bounds ws g kind.Adjective ts x has h = rw has.words (word_or_none_ok ws ADJECTIVE_CLASS ts x h)
parameter_ok bounds ws g kind.Preposition ts x has h = rw has.words (word_or_none_ok ws PREPOSITION_CLASS ts x h)

flag_ok : (ts : Tokens) (x : ℕ × Tokens) → flag_after_at ts ≡ Ok x → nat_lt x.0 FLAG_COUNT ≡ true
flag_ok ts x h =
    let b = bound (read_by fault.Number (λ t. number (drop 1 t)) ts) (in_range (λ n. nat_lt n FLAG_COUNT)) x h in
    in_range_ok (λ n. nat_lt n FLAG_COUNT) b.0 x b.2

first_ok : (bounds : Bounds) (ws : List Word) (g : GameLists) (code : ℕ) (indirect : Bool) (ts : Tokens)
    (x : ℕ × Tokens) → Has bounds ws g → (indirect ≡ true → may_be_indirect code ≡ true)
    → first_parameter bounds ws indirect (first_kind code) ts ≡ Ok x
    → is_parameter (counts_of g) g.words (first_kind (code_of indirect code)) x.0 ≡ true
first_ok bounds ws g code true ts x has may h =
    subst (λ (k : ParamKind). is_parameter (counts_of g) g.words k x.0 ≡ true) (sym (first_kind-indirect code (may refl))) (flag_ok ts x h)
first_ok bounds ws g code false ts x has may h = parameter_ok bounds ws g (first_kind code) ts x has h

condact_ok : (bounds : Bounds) (ws : List Word) (g : GameLists) (name : Name) (ts : Tokens)
    (x : Condact × Tokens) → Has bounds ws g → condact bounds ws name ts ≡ Ok x → is_condact g x.0 ≡ true
unfolding condact
condact_ok bounds ws g name ts x has h =
    bound_then _ (ok_or (code_named name) fault.Condact) _ x h (λ plain plain_ok h.
    bound_then _ (first_parameter bounds ws (is_indirect_before plain ts) (first_kind plain) ts) _ x h (λ a a_ok h.
    bound_then _ (parameter bounds ws (second_kind plain) a.1) _ x h (λ b b_ok h.
    let indirect : Bool = is_indirect_before plain ts in
    let code : ℕ = code_of indirect plain in
    let made : Condact = record { code = code; a = a.0; b = b.0 } in
    let same : made ≡ x.0 = ap (λ (z : Condact × Tokens). z.0) (ok_is (made, b.1) x h) in
    let named = named_plain name plain plain_ok in
    let may : indirect ≡ true → may_be_indirect plain ≡ true = λ e. (and_parts (may_be_indirect plain) (at_is_next ts) e).0 in
    let is : is_code code ≡ true = read_code plain indirect named may in
    let first = first_ok bounds ws g plain indirect ts a has may a_ok in
    let second : is_parameter (counts_of g) g.words (second_kind code) b.0 ≡ true =
    ap (λ (k : ParamKind). is_parameter (counts_of g) g.words k b.0) (second_kind-read plain indirect named may)
    ∙ parameter_ok bounds ws g (second_kind plain) a.1 b has b_ok in
    rw (← same) (and_from (is_code code) _ is (and_from _ _ first second)))))

condacts_ok : (bounds : Bounds) (ws : List Word) (g : GameLists) (skip : ℕ) (ts : Tokens) (cs : List Condact)
    → Has bounds ws g → condacts_in bounds ws skip ts ≡ Ok cs → list_all (is_condact g) cs ≡ true
unfolding condacts_in
condacts_ok bounds ws g skip [] cs has h = rw (← ok_is [] cs h) refl
condacts_ok bounds ws g (suc skip) (t ∷ ts) cs has h = condacts_ok bounds ws g skip ts cs has h
condacts_ok bounds ws g zero (t ∷ ts) cs has h =
    let b = bound (condact bounds ws t ts) (λ c. condacts_in bounds ws (params_of c.0.code) ts >>= λ ds. Ok (c.0 ∷ ds)) cs h in
    let c = bound (condacts_in bounds ws (params_of b.0.0.code) ts) (λ ds. Ok (b.0.0 ∷ ds)) cs b.2 in
    rw (← ok_is (b.0.0 ∷ c.0) cs c.2, condact_ok bounds ws g t ts b.0 has b.1) (condacts_ok bounds ws g (params_of b.0.0.code) ts c.0 has c.1)

more_condacts_ok : (bounds : Bounds) (ws : List Word) (g : GameLists) (before : List Condact) (ts : Tokens)
    (cs : List Condact) → Has bounds ws g → list_all (is_condact g) before ≡ true
    → more_condacts bounds ws before ts ≡ Ok cs → (nat_le (length cs) CONDACT_LIMIT ≡ true)
    × (list_all (is_condact g) cs ≡ true)
unfolding more_condacts
more_condacts_ok bounds ws g before ts cs has old h =
    let a = bound (with_more_condacts before (condacts_in bounds ws 0 ts)) (at_most CONDACT_LIMIT) cs h in
    let c = bound (condacts_in bounds ws 0 ts) (λ more. Ok (before ++ more)) a.0 a.1 in
    let same = ok_is (before ++ c.0) a.0 c.2 in
    let b = passes (nat_lt CONDACT_LIMIT (length a.0)) fault.TooBig (Ok a.0) cs a.2 in
    let few : nat_le (length a.0) CONDACT_LIMIT ≡ true = grind (arith, nat_tests, b.0) in
    let all : list_all (is_condact g) a.0 ≡ true = rw (← same, list_all-append (is_condact g) before c.0, old, condacts_ok bounds ws g 0 ts c.0 has c.1) refl in
    rw (← ok_is a.0 cs b.1) (few, all)

-- ---- tables

pub entry_row_ok : (bounds : Bounds) (ws : List Word) (g : GameLists) (es fs : List Entry) (ts : Tokens)
    → Has bounds ws g → is_table g es ≡ true → entry_row bounds ws es ts ≡ Ok fs → is_table g fs ≡ true
unfolding entry_row
entry_row_ok bounds ws g es fs ts has kept h =
    let a = bound (entry_verb ws ts)
    (λ v. entry_noun ws v.1 >>= λ n. more_condacts bounds ws [] n.1 >>= λ cs. cond (nat_lt (length es) ENTRY_LIMIT)
    (Ok (es ++ (record { verb = v.0; noun = n.0; condacts = cs }) ∷ [])) (Err fault.TooBig)) fs h in
    let b = bound (entry_noun ws a.0.1)
    (λ n. more_condacts bounds ws [] n.1 >>= λ cs. cond (nat_lt (length es) ENTRY_LIMIT)
    (Ok (es ++ (record { verb = a.0.0; noun = n.0; condacts = cs }) ∷ [])) (Err fault.TooBig)) fs a.2 in
    let c = bound (more_condacts bounds ws [] b.0.1)
    (λ cs. cond (nat_lt (length es) ENTRY_LIMIT) (Ok (es ++ (record { verb = a.0.0; noun = b.0.0; condacts = cs }) ∷ []))
    (Err fault.TooBig)) fs b.2 in
    let made : Entry = record { verb = a.0.0; noun = b.0.0; condacts = c.0 } in
    let d = holds (nat_lt (length es) ENTRY_LIMIT) fault.TooBig (Ok (es ++ made ∷ [])) fs c.2 in
    let cs = more_condacts_ok bounds ws g [] b.0.1 c.0 has refl c.1 in
    let v : (is_wildcard a.0.0 || is_verb_value g.words a.0.0) ≡ true = rw has.words (entry_verb_ok ws ts a.0 a.1) in
    let n : (is_wildcard b.0.0 || has_word g.words NOUN_CLASS b.0.0) ≡ true =
    rw has.words (entry_noun_ok ws a.0.1 b.0 b.1) in
    let one : is_entry g made ≡ true = rw (v, n, cs.0, cs.1) refl in
    let old = (and_parts (nat_le (length es) ENTRY_LIMIT) (list_all (is_entry g) es) kept).1 in
    let long = length-append es (made ∷ []) in
    let room = ltb-true (length es) ENTRY_LIMIT d.0 in
    rw (← ok_is (es ++ made ∷ []) fs d.1)
    (both (nat_le (length (es ++ made ∷ [])) ENTRY_LIMIT) (list_all (is_entry g) (es ++ made ∷ []))
    (grind (arith, nat_tests, long, room)) (all_pushed (is_entry g) es made old one))

-- An entry with other condacts.
with_condacts : (g : GameLists) (e : Entry) (cs : List Condact) → is_entry g e ≡ true
    → nat_le (length cs) CONDACT_LIMIT ≡ true
    → list_all (is_condact g) cs ≡ true → is_entry g (record e { condacts = cs }) ≡ true
with_condacts g e cs kept few all =
    let p = and_parts (is_wildcard e.verb || is_verb_value g.words e.verb) ((is_wildcard e.noun || has_word g.words NOUN_CLASS e.noun)
    && (nat_le (length e.condacts) CONDACT_LIMIT && list_all (is_condact g) e.condacts)) kept in
    let q = and_parts (is_wildcard e.noun || has_word g.words NOUN_CLASS e.noun)
    (nat_le (length e.condacts) CONDACT_LIMIT && list_all (is_condact g) e.condacts) p.1 in
    rw (p.0, q.0, few, all) refl

its_condacts : (g : GameLists) (e : Entry) → is_entry g e ≡ true → list_all (is_condact g) e.condacts ≡ true
its_condacts g e kept =
    let p = and_parts (is_wildcard e.verb || is_verb_value g.words e.verb) ((is_wildcard e.noun || has_word g.words NOUN_CLASS e.noun)
    && (nat_le (length e.condacts) CONDACT_LIMIT && list_all (is_condact g) e.condacts)) kept in
    let q = and_parts (is_wildcard e.noun || has_word g.words NOUN_CLASS e.noun)
    (nat_le (length e.condacts) CONDACT_LIMIT && list_all (is_condact g) e.condacts) p.1 in
    (and_parts (nat_le (length e.condacts) CONDACT_LIMIT) (list_all (is_condact g) e.condacts) q.1).1

pub more_row_ok : (bounds : Bounds) (ws : List Word) (g : GameLists) (es fs : List Entry) (ts : Tokens)
    → Has bounds ws g → is_table g es ≡ true → more_row bounds ws es ts ≡ Ok fs → is_table g fs ≡ true
unfolding more_row
more_row_ok bounds ws g es fs ts has kept h =
    let last = last_or no_entry es in
    let a = passes (eqb (length es) 0) fault.Section
    (more_condacts bounds ws (last_or no_entry es).condacts ts >>= λ cs.
    Ok (with_last (record (last_or no_entry es) { condacts = cs }) es)) fs h in
    let b = bound (more_condacts bounds ws (last_or no_entry es).condacts ts)
    (λ cs. Ok (with_last (record (last_or no_entry es) { condacts = cs }) es)) fs a.1 in
    let made : Entry = record (last_or no_entry es) { condacts = b.0 } in
    let some = eqb-false (length es) 0 a.0 in
    let p = and_parts (nat_le (length es) ENTRY_LIMIT) (list_all (is_entry g) es) kept in
    let old : is_entry g (last_or no_entry es) ≡ true = all_at (is_entry g) es (length es - 1) no_entry (omega (arith, some)) p.1 in
    let cs = more_condacts_ok bounds ws g (last_or no_entry es).condacts ts b.0 has (its_condacts g (last_or no_entry es) old) b.1 in
    let one = with_condacts g (last_or no_entry es) b.0 old cs.0 cs.1 in
    let long = length-set es (length es - 1) made in
    rw (← ok_is (with_last made es) fs b.2)
    (both (nat_le (length (with_last made es)) ENTRY_LIMIT) (list_all (is_entry g) (with_last made es))
    (ap (λ (n : ℕ). nat_le n ENTRY_LIMIT) long ∙ p.0) (all_set (is_entry g) es (length es - 1) made p.1 one))
