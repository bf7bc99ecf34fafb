-- What a source spells is a valid game.
use Rattle.std.proofs.Common.{◌≡◌, ℕ, suc, ◌+◌, ◌-◌, ◌≤◌, true, cond, eqb, List, [], ◌∷◌, length, Ok, Err, refl, ap}
use Rattle.std.proofs.Common.{subst, arith}
use Rattle.std.specs.Prelude.{nat_le, nat_lt}
use Rattle.std.specs.List.{list_all, count_by}
use Rattle.std.proofs.lemmas.Bool.{and_parts}
use Rattle.std.proofs.lemmas.Bool.Decides.{nat_tests}
use Rattle.std.proofs.lemmas.List.Sums.{sum_by-cons}
use Rattle.paw_base.specs.Bytes.{Lines, Tokens}
use Rattle.paw_base.specs.declared.limits.TheConstants.{SOURCE_LIMIT, IMAGE_LIMIT, SYSTEM_LIMIT, MESSAGE_LIMIT}
use Rattle.paw_base.specs.declared.limits.TheConstants.{OBJECT_LIMIT, LOCATION_LEAST, LOCATION_LIMIT, TABLE_LEAST}
use Rattle.paw_base.specs.declared.limits.TheConstants.{TABLE_LIMIT}
use Rattle.paw_base.specs.declared.fault.SourceKind.TheVariants as kind
use Rattle.paw_base.specs.declared.parts.ObjectFacts.{ObjectFacts}
use Rattle.paw_game.specs.declared.parts.Word.{Word}
use Rattle.paw_game.specs.Game.{GameLists}
use Rattle.paw_game.specs.Image.{image}
use Rattle.paw_game.specs.Valid.{Valid, is_text, is_object, facts_are_valid, is_table, rows_are_valid, exits_are_valid}
use Rattle.paw_game.specs.Valid.{is_within}
use Rattle.paw_lex.specs.Lines.{lines_of}
use Rattle.paw_grammar.specs.declared.section.Section.{Section}
use Rattle.paw_grammar.specs.declared.section.Section.TheVariants as section
use Rattle.paw_grammar.specs.GrammarState.{Spelt, nothing_yet, objects_of, all_exits, game_of}
use Rattle.paw_grammar.specs.GrammarRows.{bounds_of}
use Rattle.paw_grammar.specs.Spells.{after_line, begins_table, at_line, fault, whole, spelled_after, game_spelled}
use Rattle.paw_source.specs.inner.Laws.{after_lines, DraftsAreValid, SpellsValidGames}
use Rattle.paw_source.proofs.Faultless.{passes, bound, ok_is}
use Rattle.paw_source.proofs.TextLaws.{both}
use Rattle.paw_source.proofs.RowLaws.{Has}
use Rattle.paw_source.proofs.DraftLaws.{LawfulTexts, NoRows, AtTables, InOrder, IsLawful, filled_exits, filled_length}
use Rattle.paw_source.proofs.DraftLaws.{step_lawful}
use Rattle.paw_source.proofs.CountLaws.{step_counts, counts_tables}

texts_valid : (limit : ℕ) (ts : Tokens) → LawfulTexts limit ts → rows_are_valid limit is_text ts ≡ true
texts_valid limit ts k =
    let few = k.few in
    both (nat_le (length ts) limit) (list_all is_text ts) (grind (arith, nat_tests, few)) k.all

-- ---- objects

objects_count : (ts : Tokens) (fs : List ObjectFacts) → length ts ≤ length fs → length (objects_of ts fs) ≡ length ts
unfolding objects_of
objects_count [] fs h = refl
objects_count (t ∷ ts) [] h = absurd (omega arith)
objects_count (t ∷ ts) (f ∷ fs) h = ap suc (objects_count ts fs (omega (arith, h)))

objects_all : (ws : List Word) (locations : ℕ) (ts : Tokens) (fs : List ObjectFacts)
    → list_all is_text ts ≡ true → list_all (facts_are_valid ws locations) fs ≡ true
    → list_all (is_object ws locations) (objects_of ts fs) ≡ true
unfolding objects_of
objects_all ws locations [] fs a b = refl
objects_all ws locations (t ∷ ts) [] a b = refl
objects_all ws locations (t ∷ ts) (f ∷ fs) a b =
    let p = and_parts (is_text t) (list_all is_text ts) a in
    let q = and_parts (facts_are_valid ws locations f) (list_all (facts_are_valid ws locations) fs) b in
    rw (p.0, q.0) (objects_all ws locations ts fs p.1 q.1)

-- ---- the order of the sections

no_tables : (s : Section) (d : Spelt) → InOrder s d → TABLE_LEAST ≤ length d.tables → AtTables d
no_tables section.Before d o h = let none = ap length o.tables in absurd (omega (arith, none, h))
no_tables section.Voc d o h = let none = ap length o.tables in absurd (omega (arith, none, h))
no_tables section.Stx d o h = let none = ap length o.tables in absurd (omega (arith, none, h))
no_tables section.Mtx d o h = let none = ap length o.tables in absurd (omega (arith, none, h))
no_tables section.Otx d o h = let none = ap length o.tables in absurd (omega (arith, none, h))
no_tables section.Ltx d o h = let none = ap length o.tables in absurd (omega (arith, none, h))
no_tables section.Con d o h = let none = ap length o.tables in absurd (omega (arith, none, h))
no_tables section.Obj d o h = let none = ap length o.tables in absurd (omega (arith, none, h))
no_tables section.Pro d o h = o

-- ---- the whole game

valid_game : (p : ℕ) (d : Spelt) → IsLawful p d → TABLE_LEAST ≤ length d.tables → length d.tables ≡ p → Valid (game_of d)
valid_game p d k three counted =
    let at = no_tables d.section d k.order three in
    let rows = at.rows in
    let some = at.locations in
    let count = objects_count d.names d.facts rows in
    let few_names = k.heads.names.few in
    let few_locations = k.heads.locations.few in
    let few_exits = k.exits.few in
    let few_tables = k.few_tables in
    let long = filled_length (length d.locations - length d.exits) d.exits in
    let has : Has (bounds_of p d) d.words (game_of d) =
    record {
      words = refl;
      system = refl;
      messages = refl;
      objects = count;
      locations = refl;
      tables =
          counted;
    } in
    record {
      words = k.heads.words;
      system = texts_valid SYSTEM_LIMIT d.system k.heads.system;
      messages = texts_valid MESSAGE_LIMIT d.messages k.heads.messages;
      objects = both (nat_le (length (objects_of d.names d.facts)) OBJECT_LIMIT)
          (list_all (is_object d.words (length d.locations)) (objects_of d.names d.facts))
          (grind (arith, nat_tests, count, few_names))
          (objects_all d.words (length d.locations) d.names d.facts k.heads.names.all k.facts.all);
      locations = both (nat_le LOCATION_LEAST (length d.locations)) (rows_are_valid LOCATION_LIMIT is_text d.locations) (grind (arith, nat_tests, some))
          (texts_valid LOCATION_LIMIT d.locations k.heads.locations);
      exits = both (eqb (length (all_exits (length d.locations) d.exits)) (length d.locations))
          (list_all (exits_are_valid d.words (length d.locations)) (all_exits (length d.locations) d.exits))
          (grind (arith, nat_tests, long, few_exits))
          (filled_exits d.words (length d.locations) (length d.locations - length d.exits) d.exits k.exits.all);
      tables = both (is_within TABLE_LEAST TABLE_LIMIT (length d.tables)) (list_all (is_table (game_of d)) d.tables)
          (grind (arith, nat_tests, three, few_tables)) (k.tables (game_of d) has);
    }

whole_valid : (p n : ℕ) (d : Spelt) (g : GameLists) → IsLawful p d → length d.tables ≡ p → whole n d ≡ Ok g → Valid g
whole_valid p n d g k counted h =
    let a = passes (nat_lt (length d.tables) TABLE_LEAST) (fault (suc n) kind.Missing)
    (cond (nat_lt IMAGE_LIMIT (length (image (game_of d)))) (Err (fault (suc n) kind.TooBig)) (Ok (game_of d))) g h in
    let b = passes (nat_lt IMAGE_LIMIT (length (image (game_of d)))) (fault (suc n) kind.TooBig)
    (Ok (game_of d)) g a.1 in
    let three : TABLE_LEAST ≤ length d.tables = grind (arith, nat_tests, a.0) in
    subst Valid (ok_is (game_of d) g b.1) (valid_game p d k three counted)

reading_valid : (p n : ℕ) (d : Spelt) (ls : Lines) (g : GameLists) → IsLawful p d
    → length d.tables + count_by begins_table ls ≡ p → spelled_after p n d ls ≡ Ok g → Valid g
unfolding spelled_after
reading_valid p n d [] g k counted h = whole_valid p n d g k (omega (arith, counted)) h
reading_valid p n d (l ∷ ls) g k counted h =
    elim (after_line p d l) as (λ r. after_line p d l ≡ r → at_line (suc n) r (λ e. spelled_after p (suc n) e ls) ≡ Ok g → Valid g) [
      | Ok e ↦ λ s f.
          let one = step_counts p d e l s in
          let more = sum_by-cons (λ x. cond (begins_table x) 1 0) l ls in
          reading_valid p (suc n) e ls g (step_lawful p d e l k s) (omega (arith, counted, one, more)) f
      | Err j ↦ λ s f. absurd cc
    ] refl h

nothing_lawful : (p : ℕ) → IsLawful p nothing_yet
nothing_lawful p =
    let none : NoRows nothing_yet = record { exits = refl; facts = refl; tables = refl } in
    record {
      heads = record {
        words = refl;
        system = record { all = refl; few = omega arith };
        messages = record { all = refl; few = omega arith };
        names = record { all = refl; few = omega arith };
        locations = record { all = refl; few = omega arith };
      };
      exits = record { all = refl; few = omega arith };
      facts = record { all = refl; few = omega arith };
      tables = λ g has. refl;
      few_tables = omega arith;
      order = none;
    }

after_lawful : (p : ℕ) (d e : Spelt) (ls : Lines) → IsLawful p d → after_lines p d ls ≡ Ok e → IsLawful p e
unfolding after_lines
after_lawful p d e [] k h = subst (IsLawful p) (ok_is d e h) k
after_lawful p d e (l ∷ ls) k h =
    let a = bound (after_line p d l) (λ x. after_lines p x ls) e h in
    after_lawful p a.0 e ls (step_lawful p d a.0 l k a.1) a.2

pub drafts_are_valid : DraftsAreValid
drafts_are_valid source d h three =
    let p = count_by begins_table (lines_of source) in
    let counted = counts_tables (count_by begins_table (lines_of source)) nothing_yet d (lines_of source) h in
    valid_game (count_by begins_table (lines_of source)) d
    (after_lawful (count_by begins_table (lines_of source)) nothing_yet d (lines_of source)
    (nothing_lawful (count_by begins_table (lines_of source))) h) three (omega (arith, counted))

pub spells_valid_games : SpellsValidGames
unfolding game_spelled
spells_valid_games source g h =
    let a = passes (nat_lt SOURCE_LIMIT (length source)) (fault 0 kind.TooBig)
    (spelled_after (count_by begins_table (lines_of source)) 0 nothing_yet (lines_of source)) g h in
    reading_valid (count_by begins_table (lines_of source)) 0 nothing_yet (lines_of source) g
    (nothing_lawful (count_by begins_table (lines_of source))) (omega arith) a.1
