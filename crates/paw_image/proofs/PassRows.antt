-- Each row: the image of a row that follows its rule is passed.
use Rattle.std.proofs.Common.{◌≡◌, ℕ, ◌^◌, ◌<◌, ◌≤◌, ◌&&◌, ◌||◌, Bool, true, not, ltb, leb, eqb, List}
use Rattle.std.proofs.Common.{[], ◌∷◌, ◌++◌, length, Ok, refl, ap, ◌∙◌, append_assoc, arith, lit<}
use Rattle.std.specs.List.{flat_map, list_all, list_any}
use Rattle.std.proofs.lemmas.Bool.{and_parts, leb-true, le-leb}
use Rattle.paw_base.specs.Bytes.{Bytes}
use Rattle.paw_base.specs.declared.parts.ObjectFacts.{ObjectFacts}
use Rattle.paw_base.specs.declared.rows.ParamKind.{ParamKind}
use Rattle.paw_base.specs.declared.rows.ParamKind.TheVariants as kind
use Rattle.paw_base.specs.Condacts.{first_kind, second_kind}
use Rattle.paw_base.specs.declared.limits.TheConstants.{TEXT_LIMIT, EXIT_LIMIT, ENTRY_LIMIT, CONDACT_LIMIT}
use Rattle.paw_base.specs.declared.words.TheConstants.{NOUN_CLASS, ADJECTIVE_CLASS}
use Rattle.paw_game.specs.declared.parts.Exit.{Exit}
use Rattle.paw_game.specs.Image.{two_bytes, text_image, weight_byte, object_image, exit_image, exits_image}
use Rattle.paw_game.specs.Image.{parameter_image, condact_image, entry_image, table_image}
use Rattle.paw_game.specs.Valid.{is_within, is_printed, is_text, is_word_or_none, is_place, facts_are_valid}
use Rattle.paw_game.specs.Valid.{is_object, is_verb_value, are_exits, exits_are_valid, is_wildcard, is_parameter}
use Rattle.paw_game.specs.Valid.{has_word}
use Rattle.paw_read_error.specs.Bind.{◌>>=◌}
use Rattle.paw_image.specs.Reading.{byte_at}
use Rattle.paw_image.specs.Damage.{ImagePreface, may_stand, checked_field, checked_number, after_text, after_facts}
use Rattle.paw_image.specs.Damage.{after_object}
use Rattle.paw_image.specs.Damage.{checked_exit, after_exits_of, after_exits, after_parameter}
use Rattle.paw_image.specs.Damage.{after_condact, after_entry, after_table}
use Rattle.paw_image.proofs.FieldLaws.{bytes_again, number_again}
use Rattle.paw_image.proofs.SoundRows.{none_of, none_of-one_more, none_of-none, condact_follows, entry_follows, table_follows}
use Rattle.paw_image.proofs.Stands.{and_true, PassesRow, each_passes}

-- ---- numbers ----

pub within_passes : (least most n : ℕ) (rest : Bytes) → most < 2 ^ 16 → is_within least most n ≡ true
    → checked_number least most (two_bytes n ++ rest) ≡ Ok (n, rest)
within_passes least most n rest small h =
    let le : n ≤ most = leb-true _ _ (and_parts (leb least n) (leb n most) h).1 in
    rw (number_again n rest (omega arith), h) refl

pub up_to : (most n : ℕ) → leb n most ≡ true → is_within 0 most n ≡ true
up_to most n h = and_true (leb 0 n) (leb n most) (le-leb 0 n (omega arith)) h

-- ---- texts ----

pub text_passes : PassesRow after_text text_image is_text
unfolding after_text
text_passes text rest h =
    let both = and_parts (leb (length text) TEXT_LIMIT) (is_printed true text) h in
    rw (
      append_assoc (two_bytes (length text)) text rest,
      within_passes 0 TEXT_LIMIT (length text) (text ++ rest) (lit< tt) (up_to TEXT_LIMIT (length text) both.0),
      bytes_again (length text) text rest refl,
      both.1,
    ) refl

-- ---- objects ----

facts_pass : (d : ImagePreface) (f : ObjectFacts) (weight : ℕ) (rest : Bytes)
    → facts_are_valid d.words d.counts.locations f ≡ true → after_facts d (f.noun ∷ f.adjective ∷ f.start ∷ weight ∷ rest)
    ≡ Ok rest
unfolding after_facts
facts_pass d f weight rest h =
    let noun = and_parts (is_word_or_none d.words NOUN_CLASS f.noun) _ h in
    let adjective = and_parts (is_word_or_none d.words ADJECTIVE_CLASS f.adjective) _ noun.1 in
    let start = and_parts (is_place d.counts.locations f.start) _ adjective.1 in
    rw (noun.0, adjective.0, start.0) refl

pub object_passes : (d : ImagePreface) → PassesRow (after_object d) object_image (is_object d.words d.counts.locations)
object_passes d o rest h =
    let both = and_parts (is_text o.text) (facts_are_valid d.words d.counts.locations o.facts) h in
    let weight = weight_byte o.facts.weight o.facts.container o.facts.wearable in
    let after = o.facts.noun ∷ o.facts.adjective ∷ o.facts.start ∷ weight ∷ rest in
    let regrouped : object_image o ++ rest ≡ text_image o.text ++ after =
    append_assoc (text_image o.text) (o.facts.noun ∷ o.facts.adjective ∷ o.facts.start ∷ weight ∷ []) rest in
    ap (after_object d) regrouped ∙ rw (text_passes o.text after both.0) (facts_pass d o.facts weight rest both.1)

-- ---- exits ----

exits_pass_of : (d : ImagePreface) (verbs : List ℕ) (xs : List Exit) (rest : Bytes) → none_of verbs xs ≡ true → are_exits d.words d.counts.locations xs ≡ true
    → after_exits_of d verbs (length xs) (flat_map exit_image xs ++ rest) ≡ Ok rest
unfolding after_exits_of checked_exit
exits_pass_of d verbs [] rest none h = refl
exits_pass_of d verbs (x ∷ xs) rest none h =
    let first_none = and_parts (not (list_any (λ earlier. eqb earlier x.verb) verbs)) (none_of verbs xs) none in
    let split = and_parts
    (is_verb_value d.words x.verb && (ltb x.to d.counts.locations && not (list_any (λ y. eqb y.verb x.verb) xs)))
    (are_exits d.words d.counts.locations xs) h in
    let verb = and_parts (is_verb_value d.words x.verb) _ split.0 in
    let to = and_parts (ltb x.to d.counts.locations) _ verb.1 in
    let others : none_of (x.verb ∷ verbs) xs ≡ true = none_of-one_more x.verb verbs xs ∙ rw (to.1, first_none.1) refl in
    rw (verb.0, first_none.0, to.0) (exits_pass_of d (x.verb ∷ verbs) xs rest others split.1)

pub exits_pass : (d : ImagePreface) → PassesRow (after_exits d) exits_image (exits_are_valid d.words d.counts.locations)
unfolding after_exits
exits_pass d xs rest h = exits_pass_of d [] xs rest (none_of-none xs) (and_parts (leb (length xs) EXIT_LIMIT) _ h).1

-- ---- tables ----

byte_passes : (rule : ℕ → Bool) (x : ℕ) (rest : Bytes) → rule x ≡ true → (checked_field rule byte_at (x ∷ rest) >>= λ y. Ok y.1) ≡ Ok rest
byte_passes rule x rest h = rw h refl

parameter_passes : (d : ImagePreface) (k : ParamKind) → PassesRow (after_parameter d k) (parameter_image k) (is_parameter d.counts d.words k)
parameter_passes d kind.Absent x rest h = refl
parameter_passes d k x rest h = byte_passes (is_parameter d.counts d.words k) x rest h

pub condact_passes : (d : ImagePreface) → PassesRow (after_condact d) condact_image (condact_follows d)
unfolding after_condact
condact_passes d c rest h =
    let code = and_parts (may_stand d.version c.code) _ h in
    let both = and_parts (is_parameter d.counts d.words (first_kind c.code) c.a) (is_parameter d.counts d.words (second_kind c.code) c.b) code.1 in
    let first = parameter_image (first_kind c.code) c.a in
    let second = parameter_image (second_kind c.code) c.b in
    let regrouped : condact_image c ++ rest ≡ c.code ∷ (first ++ (second ++ rest)) = ap (λ (t : Bytes). c.code ∷ t) (append_assoc first second rest) in
    ap (after_condact d) regrouped
    ∙ rw (code.0, parameter_passes d (first_kind c.code) c.a (second ++ rest) both.0, parameter_passes d (second_kind c.code) c.b rest both.1) refl

pub entry_passes : (d : ImagePreface) → PassesRow (after_entry d) entry_image (entry_follows d)
unfolding after_entry
entry_passes d e rest h =
    let verb = and_parts (is_wildcard e.verb || is_verb_value d.words e.verb) _ h in
    let noun = and_parts (is_wildcard e.noun || has_word d.words NOUN_CLASS e.noun) _ verb.1 in
    let condacts = and_parts (leb (length e.condacts) CONDACT_LIMIT) _ noun.1 in
    rw (verb.0, noun.0) (each_passes (after_condact d) condact_image (condact_follows d) (condact_passes d) e.condacts rest condacts.1)

pub table_passes : (d : ImagePreface) → PassesRow (after_table d) table_image (table_follows d)
unfolding after_table
table_passes d es rest h =
    let both = and_parts (leb (length es) ENTRY_LIMIT) (list_all (entry_follows d) es) h in
    let entries = flat_map entry_image es in
    rw (
      append_assoc (two_bytes (length es)) entries rest,
      within_passes 0 ENTRY_LIMIT (length es) (entries ++ rest) (lit< tt) (up_to ENTRY_LIMIT (length es) both.0),
    )
    (each_passes (after_entry d) entry_image (entry_follows d) (entry_passes d) es rest both.1)
