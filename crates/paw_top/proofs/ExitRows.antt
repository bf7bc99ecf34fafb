-- The printed exits of the locations are read as these exits.
use Rattle.std.proofs.Common.{◌≡◌, ℕ, suc, ◌<◌, ◌≤◌, ◌+◌, ◌-◌, Bool, true, false, not, ◌&&◌, eqb, ltb, leb, List, []}
use Rattle.std.proofs.Common.{◌∷◌, ◌++◌, length, replicate, map, Ok}
use Rattle.std.proofs.Common.{refl, sym, ap, ◌∙◌, arith, length-append}
use Rattle.std.specs.List.{list_all, list_any}
use Rattle.std.specs.Fmt.{decimal}
use Rattle.std.proofs.lemmas.Bool.{and_parts, and_from, or_from, or_parts, le-ltb, lt-ltb, ltb-true, eqb-false, ne_eqb}
use Rattle.std.proofs.lemmas.Bool.{not-true, not_from_false}
use Rattle.std.proofs.lemmas.List.{append_assoc, append-nil, replicate_more}
use Rattle.std.proofs.lemmas.List.Folds.{list_any-append}
use Rattle.paw_base.specs.Bytes.{Lines, Tokens}
use Rattle.paw_base.specs.declared.limits.TheConstants.{LOCATION_LIMIT, EXIT_LIMIT}
use Rattle.paw_game.specs.declared.parts.Word.{Word}
use Rattle.paw_game.specs.declared.parts.Exit.{Exit}
use Rattle.paw_game.specs.Valid.{is_verb_value, are_exits, exits_are_valid}
use Rattle.paw_grammar.specs.declared.section.Section.TheVariants as section
use Rattle.paw_grammar.specs.Vocabulary.{verb_word}
use Rattle.paw_grammar.specs.GrammarState.{Spelt}
use Rattle.paw_grammar.specs.GrammarTexts.{is_in_text}
use Rattle.paw_grammar.specs.GrammarHeads.{item_in}
use Rattle.paw_grammar.specs.GrammarRows.{exit_row, con_row, row_in}
use Rattle.paw_print.specs.Lines.{verb_token, item_token, tokens_spaced}
use Rattle.paw_print.specs.Canonical.{numbered_lines, location_lines}
use Rattle.paw_top.proofs.After.{LineReads, Reads, reads_none, reads_line, reads_append}
use Rattle.paw_top.proofs.Rows.{is_plain, row_next, plain_printed, printed-spaced}
use Rattle.paw_top.proofs.Digits.{number-decimal, plain-decimal, plain-item, item_begins}
use Rattle.paw_top.proofs.Lasts.{last_or-push, with_last-push}
use Rattle.paw_top.proofs.KnownWords.{Words, ReadsBack, verb_word_back}

-- ---- verbs that no exit has yet ----

-- An exit has this verb.
abbrev has_exit : ℕ → List Exit → Bool
has_exit verb xs = list_any (λ x. eqb x.verb verb) xs

abbrev are_fresh : List Exit → List Exit → Bool
are_fresh done xs = list_all (λ x. not (has_exit x.verb done)) xs

fresh_at_first : (xs : List Exit) → are_fresh [] xs ≡ true
fresh_at_first [] = refl
fresh_at_first (x ∷ xs) = fresh_at_first xs

other_verb : (a b : ℕ) → eqb a b ≡ false → eqb b a ≡ false
other_verb a b h = ne_eqb b a (λ e. eqb-false a b h (sym e))

fresh_more : (done : List Exit) (x : Exit) (xs : List Exit) → are_fresh done xs ≡ true →
    list_any (λ y. eqb y.verb x.verb) xs ≡ false → are_fresh (done ++ x ∷ []) xs ≡ true
fresh_more done x [] h g = refl
fresh_more done x (y ∷ ys) h g =
    let here = and_parts (not (has_exit y.verb done)) (are_fresh done ys) h in
    let others = or_parts (eqb y.verb x.verb) (list_any (λ z. eqb z.verb x.verb) ys) g in
    let none : has_exit y.verb (done ++ x ∷ []) ≡ false =
    list_any-append (λ z. eqb z.verb y.verb) done (x ∷ [])
    ∙ or_from (has_exit y.verb done) _ (not-true _ here.0) (or_from (eqb x.verb y.verb) false (other_verb y.verb x.verb others.0) refl) in
    and_from _ _ (not_from_false _ none) (fresh_more done x ys here.1 others.1)

-- ---- one exit ----

-- Verb, location.
abbrev exit_tokens : List Word → Exit → Tokens
exit_tokens ws x = verb_token ws x.verb ∷ decimal x.to ∷ []

-- What a row of an exit needs.
record ExitRow (ws : List Word) (locations : ℕ) (done : List Exit) (x : Exit) : Type 0 where
  verb : ReadsBack (verb_token ws x.verb) (verb_word ws) x.verb
  to : ltb x.to locations ≡ true
  small : x.to ≤ 65535
  fresh : has_exit x.verb done ≡ false

exit_row-is : (ws : List Word) (locations : ℕ) (done : List Exit) (x : Exit) → ExitRow ws locations done x →
    exit_row ws locations done (exit_tokens ws x) ≡ Ok (done ++ x ∷ [])
unfolding exit_row
exit_row-is ws locations done x r = rw (r.verb.is (decimal x.to ∷ []), number-decimal x.to r.small, r.to, r.fresh) refl

con_row-is : (d : Spelt) (before : List (List Exit)) (done : List Exit) (x : Exit) → ExitRow d.words (length d.locations) done x
    → con_row (record d { exits = before ++ done ∷ [] }) (exit_tokens d.words x) ≡ Ok (record d { exits = before ++ (done ++ x ∷ []) ∷ [] })
con_row-is d before done x r =
    let some : eqb (length (before ++ done ∷ [])) 0 ≡ false = ne_eqb _ 0 (λ e. omega (arith, length-append before (done ∷ []))) in
    rw (some, last_or-push [] before done, exit_row-is d.words (length d.locations) done x r)
    (ap (λ (es : List (List Exit)). Ok (record d { exits = es })) (with_last-push (done ++ x ∷ []) before done))

exit_next : (p : ℕ) (d : Spelt) (before : List (List Exit)) (done : List Exit) (x : Exit) → d.section ≡ section.Con →
    ExitRow d.words (length d.locations) done x
    → LineReads p (record d { exits = before ++ done ∷ [] }) (tokens_spaced (exit_tokens d.words x)) (record d { exits = before ++ (done ++ x ∷ []) ∷ [] })
exit_next p d before done x at r =
    let e : Spelt = record d { exits = before ++ done ∷ [] } in
    let out : is_in_text e ≡ false = rw at refl in
    let plain : list_all is_plain (exit_tokens d.words x) ≡ true = rw (r.verb.plain, plain-decimal x.to r.small) refl in
    record {
      is =
          row_next p e (verb_token d.words x.verb) (decimal x.to ∷ []) plain r.verb.slash out
          ∙ ap (λ s. row_in s p e false (exit_tokens d.words x)) at
          ∙ con_row-is d before done x r;
      printed = printed-spaced (verb_token d.words x.verb) (decimal x.to ∷ []) plain;
    }

-- ---- the exits of a location ----

-- What the rows of sections may look at.
pub record Scene (d : Spelt) : Type 0 where
  pub words : Words d.words
  pub few : length d.locations ≤ LOCATION_LIMIT

exits_rows : (p : ℕ) (d : Spelt) (before : List (List Exit)) (done xs : List Exit) → d.section ≡ section.Con → Scene d →
    are_exits d.words (length d.locations) xs ≡ true → are_fresh done xs ≡ true
    → Reads p (record d { exits = before ++ done ∷ [] }) (map (λ y. tokens_spaced (exit_tokens d.words y)) xs)
    (record d { exits = before ++ (done ++ xs) ∷ [] })
exits_rows p d before done [] at scene h fresh = rw (append-nil done) (reads_none p (record d { exits = before ++ done ∷ [] }))
exits_rows p d before done (x ∷ xs) at scene h fresh =
    let here = and_parts (is_verb_value d.words x.verb &&
    (ltb x.to (length d.locations) && not (list_any (λ y. eqb y.verb x.verb) xs)))
    (are_exits d.words (length d.locations) xs) h in
    let verb = and_parts (is_verb_value d.words x.verb) (ltb x.to (length d.locations) && not (list_any (λ y. eqb y.verb x.verb) xs)) here.0 in
    let to = and_parts (ltb x.to (length d.locations)) (not (list_any (λ y. eqb y.verb x.verb) xs)) verb.1 in
    let new = and_parts (not (has_exit x.verb done)) (are_fresh done xs) fresh in
    let low : x.to < length d.locations = ltb-true x.to (length d.locations) to.0 in
    let row : ExitRow d.words (length d.locations) done x = record {
      verb = verb_word_back d.words x.verb scene.words verb.0;
      to = to.0;
      small = omega (arith, scene.few);
      fresh = not-true _ new.0;
    } in
    let same : (done ++ x ∷ []) ++ xs ≡ done ++ x ∷ xs = append_assoc done (x ∷ []) xs in
    let rest = exits_rows p d before (done ++ x ∷ []) xs at scene here.1 (fresh_more done x xs new.1 (not-true _ to.1)) in
    reads_line p _ _ _ _ _ (exit_next p d before done x at row) (rw same at rest)

-- ---- all locations ----

-- With lists of no exits after them these are the exits of n locations.
pub record Filled (es : List (List Exit)) (n : ℕ) (all : List (List Exit)) : Type 0 where
  pub short : length es ≤ n
  pub is : es ++ replicate (n - length es) [] ≡ all

filled_more : (es : List (List Exit)) (n : ℕ) (all : List (List Exit)) → Filled es n all → es ++ replicate (suc n - length es) [] ≡ all ++ [] ∷ []
filled_more es n all f =
    let one : n - length es + 1 ≡ suc n - length es = omega (arith, f.short) in
    let none : List Exit = [] in
    ap (λ k. es ++ replicate k none) (sym one)
    ∙ ap (λ (xs : List (List Exit)). es ++ xs) (sym (replicate_more (n - length es) none))
    ∙ sym (append_assoc es (replicate (n - length es) none) (none ∷ []))
    ∙ ap (λ (xs : List (List Exit)). xs ++ none ∷ []) f.is

filled_none : (es : List (List Exit)) (n : ℕ) (all : List (List Exit)) → Filled es n all → Filled es (suc n) (all ++ [] ∷ [])
filled_none es n all f = record { short = omega (arith, f.short); is = filled_more es n all f }

filled_some : (all : List (List Exit)) (n : ℕ) (xs : List Exit) → n ≡ length all → Filled (all ++ xs ∷ []) (suc n) (all ++ xs ∷ [])
filled_some all n xs is =
    let long = length-append all (xs ∷ []) in
    let left : suc n - length (all ++ xs ∷ []) ≡ 0 = omega (arith, long) in
    let none : List Exit = [] in
    record { short = omega (arith, long); is = ap (λ k. (all ++ xs ∷ []) ++ replicate k none) left ∙ append-nil (all ++ xs ∷ []) }

con_item_next : (p : ℕ) (d : Spelt) (es all : List (List Exit)) (n : ℕ) → d.section ≡ section.Con → Scene d → Filled es n all → n < length d.locations
    → LineReads p (record d { exits = es }) (item_token n) (record d { exits = all ++ [] ∷ [] })
con_item_next p d es all n at scene f below =
    let e : Spelt = record d { exits = es } in
    let small : n ≤ 65535 = omega (arith, scene.few) in
    let new : ltb n (length es) ≡ false = le-ltb n (length es) f.short in
    let location : ltb n (length d.locations) ≡ true = lt-ltb n (length d.locations) below in
    record {
      printed = plain_printed (item_token n) (plain-item n small);
      is =
          item_begins p e n small
          ∙ ap (λ x. item_in x e n) at
          ∙ rw (new, location) (ap (λ (xs : List (List Exit)). Ok (record d { exits = xs })) (filled_more es n all f));
    }

-- What is read is exits that stand for these.
pub record ReadsExits (p : ℕ) (d : Spelt) (es : List (List Exit)) (lines : Lines) (n : ℕ) (all : List (List Exit)) : Type 0 where
  pub exits : List (List Exit)
  pub reads : Reads p (record d { exits = es }) lines (record d { exits = exits })
  pub filled : Filled exits n all

reads_then : (p : ℕ) (d : Spelt) (es fs : List (List Exit)) (ls ms : Lines) (n : ℕ) (all : List (List Exit)) →
    Reads p (record d { exits = es }) ls (record d { exits = fs })
    → ReadsExits p d fs ms n all → ReadsExits p d es (ls ++ ms) n all
reads_then p d es fs ls ms n all first rest = record { exits = rest.exits; reads = reads_append p _ _ _ ls ms first rest.reads; filled = rest.filled }

pub locations_read : (p : ℕ) (d : Spelt) (es all : List (List Exit)) (n m : ℕ) (xss : List (List Exit)) →
    d.section ≡ section.Con → Scene d → Filled es n all → n ≡ length all → m ≡ n + length xss
    → m ≤ length d.locations → list_all (exits_are_valid d.words (length d.locations)) xss ≡ true →
    ReadsExits p d es (numbered_lines (location_lines d.words) n xss) m (all ++ xss)
locations_read p d es all n m [] at scene f is end within h =
    let same : m ≡ n = omega arith in
    rw (append-nil all, same) (record { exits = es; reads = reads_none p (record d { exits = es }); filled = f })
locations_read p d es all n m ([] ∷ xss) at scene f is end within h =
    let both = and_parts (exits_are_valid d.words (length d.locations) []) (list_all (exits_are_valid d.words (length d.locations)) xss) h in
    let next : suc n ≡ length (all ++ [] ∷ []) = omega (arith, length-append all ([] ∷ [])) in
    rw (append_assoc all ([] ∷ []) xss) at
    (locations_read p d es (all ++ [] ∷ []) (suc n) m xss at scene (filled_none es n all f) next (omega arith) within both.1)
locations_read p d es all n m ((x ∷ xs) ∷ xss) at scene f is end within h =
    let both = and_parts (exits_are_valid d.words (length d.locations) (x ∷ xs)) (list_all (exits_are_valid d.words (length d.locations)) xss) h in
    let these = and_parts (leb (length (x ∷ xs)) EXIT_LIMIT)
    (are_exits d.words (length d.locations) (x ∷ xs)) both.0 in
    let next : suc n ≡ length (all ++ (x ∷ xs) ∷ []) = omega (arith, length-append all ((x ∷ xs) ∷ [])) in
    let item = con_item_next p d es all n at scene f (omega arith) in
    let rows = exits_rows p d all [] (x ∷ xs) at scene these.1 (fresh_at_first (x ∷ xs)) in
    let rest = locations_read p d (all ++ (x ∷ xs) ∷ []) (all ++ (x ∷ xs) ∷ []) (suc n) m xss at scene
    (filled_some all n (x ∷ xs) is) next (omega arith) within both.1 in
    rw (append_assoc all ((x ∷ xs) ∷ []) xss) at
    (reads_then p d es (all ++ (x ∷ xs) ∷ []) _ _ m _ (reads_line p _ _ _ _ _ item rows) rest)
