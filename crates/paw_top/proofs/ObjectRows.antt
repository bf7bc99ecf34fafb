-- The printed objects are read as these objects.
use Rattle.std.proofs.Common.{◌≡◌, ℕ, suc, ◌<◌, ◌≤◌, ◌+◌, Bool, true, false, ltb, leb, List, [], ◌∷◌, ◌++◌, length, map}
use Rattle.std.proofs.Common.{Some, Result, Ok, refl, ap, ◌∙◌, inl}
use Rattle.std.proofs.Common.{inr, arith, length-append}
use Rattle.std.specs.List.{list_all}
use Rattle.std.specs.Fmt.{decimal}
use Rattle.std.proofs.lemmas.Bool.{and_parts, and_from, or_cases, leb-true, ltb-true, lt-ltb, le-leb, eq-eqb}
use Rattle.std.proofs.lemmas.List.{append_assoc, append-nil}
use Rattle.paw_base.specs.Bytes.{Tokens}
use Rattle.paw_base.specs.declared.limits.TheConstants.{LOCATION_LIMIT, WEIGHT_LIMIT, OBJECT_LIMIT}
use Rattle.paw_base.specs.declared.places.TheConstants.{NOT_CREATED_PLACE, CARRIED_PLACE}
use Rattle.paw_base.specs.declared.words.TheConstants.{NOUN_CLASS, ADJECTIVE_CLASS}
use Rattle.paw_base.specs.declared.fault.SourceKind.{SourceKind}
use Rattle.paw_base.specs.declared.parts.ObjectFacts.{ObjectFacts}
use Rattle.paw_game.specs.declared.parts.Word.{Word}
use Rattle.paw_game.specs.declared.parts.ObjectRow.{ObjectRow}
use Rattle.paw_game.specs.Valid.{is_within, is_word_or_none, is_place, is_text, facts_are_valid, is_object}
use Rattle.paw_grammar.specs.declared.section.Section.TheVariants as section
use Rattle.paw_read_error.specs.Bind.{◌>>=◌}
use Rattle.paw_grammar.specs.Vocabulary.{kind_named, word_or_none}
use Rattle.paw_grammar.specs.GrammarState.{Spelt, objects_of}
use Rattle.paw_grammar.specs.GrammarTexts.{is_in_text}
use Rattle.paw_grammar.specs.GrammarRows.{object_row, row_in}
use Rattle.paw_print.specs.Lines.{kind_token, value_token, object_tokens, tokens_spaced}
use Rattle.paw_print.specs.Canonical.{numbered_lines}
use Rattle.paw_top.proofs.After.{LineReads, Reads, reads_none, reads_line}
use Rattle.paw_top.proofs.Rows.{is_plain, row_next, printed-spaced}
use Rattle.paw_top.proofs.Digits.{number-decimal, plain-decimal, decimal-slash}
use Rattle.paw_top.proofs.KnownWords.{Words, ReadsBack, word_or_none_back}
use Rattle.paw_top.proofs.ExitRows.{Scene}

kind_plain : (container wearable : Bool) → is_plain (kind_token container wearable) ≡ true
kind_plain true true = refl
kind_plain true false = refl
kind_plain false true = refl
kind_plain false false = refl

kind_back : (container wearable : Bool) → kind_named (kind_token container wearable) ≡ Some (container, wearable)
kind_back true true = refl
kind_back true false = refl
kind_back false true = refl
kind_back false false = refl

-- What the row of an object needs.
record FactsRow (ws : List Word) (locations n count : ℕ) (f : ObjectFacts) : Type 0 where
  below : ltb n count ≡ true
  small : n ≤ 65535
  place : is_place locations f.start ≡ true
  start_small : f.start ≤ 65535
  weight : is_within 0 WEIGHT_LIMIT f.weight ≡ true
  weight_small : f.weight ≤ 65535
  noun : ReadsBack (value_token ws NOUN_CLASS f.noun) (word_or_none ws NOUN_CLASS) f.noun
  adjective : ReadsBack (value_token ws ADJECTIVE_CLASS f.adjective) (word_or_none ws ADJECTIVE_CLASS) f.adjective

object_row-is : (ws : List Word) (locations n count : ℕ) (f : ObjectFacts) → FactsRow ws locations n count f →
    object_row ws locations n count (object_tokens ws n f) ≡ Ok f
unfolding object_row
object_row-is ws locations n count f r =
    rw (
      number-decimal n r.small,
      eq-eqb n n refl,
      r.below,
      number-decimal f.start r.start_small,
      r.place,
      number-decimal f.weight r.weight_small,
      r.weight,
      kind_back f.container f.wearable,
      r.noun.is (value_token ws ADJECTIVE_CLASS f.adjective ∷ []),
      r.adjective.is [],
    ) refl

place_small : (locations p : ℕ) → locations ≤ LOCATION_LIMIT → is_place locations p ≡ true → p ≤ 65535
place_small locations p few h =
    elim (or_cases (ltb p locations) (is_within NOT_CREATED_PLACE CARRIED_PLACE p) h) [
      | inl is ↦ omega (arith, ltb-true p locations is)
      | inr is ↦ omega (arith, leb-true p CARRIED_PLACE (and_parts (leb NOT_CREATED_PLACE p) (leb p CARRIED_PLACE) is).1)
    ]

facts_row : (ws : List Word) (locations n count : ℕ) (f : ObjectFacts) → Words ws → locations ≤ LOCATION_LIMIT → n < count →
    count ≤ 65535 → facts_are_valid ws locations f ≡ true → FactsRow ws locations n count f
facts_row ws locations n count f words few below most h =
    let noun = and_parts (is_word_or_none ws NOUN_CLASS f.noun) _ h in
    let adjective = and_parts (is_word_or_none ws ADJECTIVE_CLASS f.adjective) _ noun.1 in
    let start = and_parts (is_place locations f.start) (leb f.weight WEIGHT_LIMIT) adjective.1 in
    let light : f.weight ≤ WEIGHT_LIMIT = leb-true f.weight WEIGHT_LIMIT start.1 in
    record {
      below = lt-ltb n count below;
      small = omega arith;
      place = start.0;
      start_small = place_small locations f.start few start.0;
      weight = and_from (leb 0 f.weight) _ (le-leb 0 f.weight (omega arith)) start.1;
      weight_small = omega arith;
      noun = word_or_none_back ws NOUN_CLASS f.noun words noun.0;
      adjective = word_or_none_back ws ADJECTIVE_CLASS f.adjective words adjective.0;
    }

plain_facts : (ws : List Word) (locations n count : ℕ) (f : ObjectFacts) → FactsRow ws locations n count f → list_all is_plain (object_tokens ws n f) ≡ true
plain_facts ws locations n count f r =
    rw (
      plain-decimal n r.small,
      plain-decimal f.start r.start_small,
      plain-decimal f.weight r.weight_small,
      kind_plain
          f.container f.wearable,
      r.noun.plain,
      r.adjective.plain,
    ) refl

object_next : (p : ℕ) (d : Spelt) (fs : List ObjectFacts) (f : ObjectFacts) → d.section ≡ section.Obj →
    FactsRow d.words (length d.locations) (length fs) (length d.names) f
    → LineReads p (record d { facts = fs }) (tokens_spaced (object_tokens d.words (length fs) f)) (record d { facts = fs ++ f ∷ [] })
object_next p d fs f at r =
    let e : Spelt = record d { facts = fs } in
    let ts : Tokens = object_tokens d.words (length fs) f in
    let out : is_in_text e ≡ false = rw at refl in
    let others : Tokens = decimal f.start ∷ decimal f.weight ∷ kind_token f.container f.wearable ∷ value_token
    d.words NOUN_CLASS f.noun ∷ value_token d.words ADJECTIVE_CLASS f.adjective ∷ [] in
    let plain = plain_facts d.words (length d.locations) (length fs) (length d.names) f r in
    record {
      is =
          row_next p e (decimal (length fs)) others plain (decimal-slash (length fs) r.small) out
          ∙ ap (λ s. row_in s p e false ts) at
          ∙ ap (λ (x : Result ObjectFacts SourceKind). x >>= λ g. Ok (record d { facts = fs ++ g ∷ [] }))
          (object_row-is d.words (length d.locations) (length fs) (length d.names) f r);
      printed = printed-spaced (decimal (length fs)) others plain;
    }

-- The rows of objects after those that were read.
pub objects_read : (p : ℕ) (d : Spelt) (fs : List ObjectFacts) (n : ℕ) (os : List ObjectRow) → d.section ≡ section.Obj →
    Scene d → n ≡ length fs → length fs + length os ≤ length d.names → length d.names ≤ OBJECT_LIMIT
    → list_all (is_object d.words (length d.locations)) os ≡ true →
    Reads p (record d { facts = fs }) (numbered_lines (λ k (o : ObjectRow). tokens_spaced (object_tokens d.words k o.facts) ∷ []) n os)
    (record d { facts = fs ++ map (λ o. o.facts) os })
objects_read p d fs n [] at scene is room most h = rw (append-nil fs) (reads_none p (record d { facts = fs }))
objects_read p d fs n (o ∷ os) at scene is room most h =
    let both = and_parts (is_object d.words (length d.locations) o) (list_all (is_object d.words (length d.locations)) os) h in
    let facts = and_parts (is_text o.text) (facts_are_valid d.words (length d.locations) o.facts) both.0 in
    let row = facts_row d.words (length d.locations) (length fs) (length d.names) o.facts scene.words scene.few (omega arith) (omega arith) facts.1 in
    let long = length-append fs (o.facts ∷ []) in
    let same : (fs ++ o.facts ∷ []) ++ map (λ x. x.facts) os ≡ fs ++ o.facts ∷ map (λ x. x.facts) os = append_assoc fs (o.facts ∷ []) (map (λ x. x.facts) os) in
    let rest = objects_read p d (fs ++ o.facts ∷ []) (suc n) os at scene (omega (arith, long)) (omega (arith, long)) most both.1 in
    rw is (reads_line p _ _ _ _ _ (object_next p d fs o.facts at row) (rw (same, is) at rest))

-- Texts and facts together are the objects.
pub objects_of-map : (os : List ObjectRow) → objects_of (map (λ o. o.text) os) (map (λ o. o.facts) os) ≡ os
unfolding objects_of
objects_of-map [] = refl
objects_of-map (o ∷ os) = ap (λ (xs : List ObjectRow). o ∷ xs) (objects_of-map os)
