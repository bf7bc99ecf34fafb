-- What the lines spell follows the rules of a game, line by line.
use Rattle.std.proofs.Common.{◌≡◌, ℕ, zero, suc, ◌+◌, ◌-◌, ◌<◌, ◌≤◌, Bool, true, false, cond, not, ◌&&◌}
use Rattle.std.proofs.Common.{◌||◌, eqb, ltb, List, [], ◌∷◌, ◌++◌, length, replicate, drop, Option}
use Rattle.std.proofs.Common.{Some, None, Result, Ok, Err, refl, sym, ap, subst, ◌∙◌, arith}
use Rattle.std.specs.Prelude.{nat_lt}
use Rattle.std.specs.List.{list_all}
use Rattle.std.proofs.lemmas.Bool.{eqb-false}
use Rattle.std.proofs.lemmas.Bool.Decides.{nat_tests}
use Rattle.std.proofs.lemmas.List.{length-append, length-set, length-replicate}
use Rattle.std.proofs.lemmas.List.Folds.{list_all-append}
use Rattle.paw_base.specs.Bytes.{Name, Tokens, Texts, Line}
use Rattle.paw_base.specs.declared.limits.TheConstants.{SYSTEM_LIMIT, MESSAGE_LIMIT, OBJECT_LIMIT, LOCATION_LEAST}
use Rattle.paw_base.specs.declared.limits.TheConstants.{LOCATION_LIMIT, TABLE_LIMIT}
use Rattle.paw_base.specs.declared.fault.SourceKind.{SourceKind}
use Rattle.paw_base.specs.declared.fault.SourceKind.TheVariants as kind
use Rattle.paw_base.specs.declared.parts.ObjectFacts.{ObjectFacts}
use Rattle.paw_game.specs.declared.parts.Word.{Word}
use Rattle.paw_game.specs.declared.parts.Exit.{Exit}
use Rattle.paw_game.specs.declared.parts.Entry.{Entry}
use Rattle.paw_game.specs.Game.{GameLists}
use Rattle.paw_game.specs.Valid.{words_are_valid, is_text, exits_are_valid, facts_are_valid, is_table}
use Rattle.paw_lex.specs.Bytes.{is_comment, has_forbidden_byte}
use Rattle.paw_lex.specs.Tokens.{tokens_of}
use Rattle.paw_grammar.specs.declared.section.Section.{Section}
use Rattle.paw_grammar.specs.declared.section.Section.TheVariants as section
use Rattle.paw_read_error.specs.Bind.{◌>>=◌}
use Rattle.paw_grammar.specs.Tokens.{is_named}
use Rattle.paw_grammar.specs.Numbers.{number}
use Rattle.paw_grammar.specs.GrammarState.{Spelt, last_or, with_last}
use Rattle.paw_grammar.specs.GrammarTexts.{texts_of, with_texts, text_limit, text_item, text_line, is_in_text}
use Rattle.paw_grammar.specs.GrammarHeads.{next_header, section_opened, plain_header, con_header}
use Rattle.paw_grammar.specs.GrammarHeads.{lacks_rows, pro_header, header_of, new_text}
use Rattle.paw_grammar.specs.GrammarHeads.{new_exits, item_in, slash_line}
use Rattle.paw_grammar.specs.GrammarRows.{voc_row, exit_row, con_row, object_row, obj_row, bounds_of, entry_row}
use Rattle.paw_grammar.specs.GrammarRows.{more_row, pro_row, row_in}
use Rattle.paw_grammar.specs.Spells.{begins_with_slash, begins_with_blank, is_text_line, text_added, tokens_added}
use Rattle.paw_grammar.specs.Spells.{after_line}
use Rattle.paw_source.proofs.Faultless.{passes, holds, bound, ok_is, at_end}
use Rattle.paw_source.proofs.Headers.{with_table, table_opened}
use Rattle.paw_source.proofs.TextLaws.{all_set, all_get, all_pushed, text_item_ok, text_line_ok}
use Rattle.paw_source.proofs.RowLaws.{Has, voc_row_ok, exit_row_ok, object_row_ok, entry_row_ok, more_row_ok}

-- ---- the rules

pub record LawfulRows {A : Type 0} (rule : A → Bool) (limit : ℕ) (rows : List A) : Type 0 where
  pub all : list_all rule rows ≡ true
  pub few : length rows ≤ limit

abbrev pub LawfulTexts : ℕ → Texts → Type 0
LawfulTexts limit ts = LawfulRows is_text limit ts

-- No section of rows was reached.
pub record AreNone (es : List (List Exit)) (fs : List ObjectFacts) (ts : List (List Entry)) : Type 0 where
  pub exits : es ≡ []
  pub facts : fs ≡ []
  pub tables : ts ≡ []

abbrev pub NoRows : Spelt → Type 0
NoRows d = AreNone d.exits d.facts d.tables

pub record BeforeObjects (ls : Texts) (fs : List ObjectFacts) (ts : List (List Entry)) : Type 0 where
  pub facts : fs ≡ []
  pub tables : ts ≡ []
  pub locations : LOCATION_LEAST ≤ length ls

abbrev pub AtExits : Spelt → Type 0
AtExits d = BeforeObjects d.locations d.facts d.tables

pub record BeforeTables (ls : Texts) (ts : List (List Entry)) : Type 0 where
  pub tables : ts ≡ []
  pub locations : LOCATION_LEAST ≤ length ls

abbrev pub AtObjects : Spelt → Type 0
AtObjects d = BeforeTables d.locations d.tables

pub record WithRows (ns ls : Texts) (fs : List ObjectFacts) : Type 0 where
  pub locations : LOCATION_LEAST ≤ length ls
  pub rows : length ns ≤ length fs

abbrev pub AtTables : Spelt → Type 0
AtTables d = WithRows d.names d.locations d.facts

-- Which lists have rows, by the section that is open.
abbrev pub InOrder : Section → Spelt → Type 0
InOrder section.Before d = NoRows d
InOrder section.Voc d = NoRows d
InOrder section.Stx d = NoRows d
InOrder section.Mtx d = NoRows d
InOrder section.Otx d = NoRows d
InOrder section.Ltx d = NoRows d
InOrder section.Con d = AtExits d
InOrder section.Obj d = AtObjects d
InOrder section.Pro d = AtTables d

-- From the section that is open to its name, and back.
at_section : (s : Section) (d : Spelt) → d.section ≡ s → InOrder d.section d → InOrder s d
at_section s d here h = subst (λ (t : Section). InOrder t d) here h

from_section : (s : Section) (d : Spelt) → d.section ≡ s → InOrder s d → InOrder d.section d
from_section s d here h = subst (λ (t : Section). InOrder t d) (sym here) h

-- Words and texts have rules of their own.
pub record LawfulHeads (ws : List Word) (ss ms ns ls : Texts) : Type 0 where
  pub words : words_are_valid ws ≡ true
  pub system : LawfulTexts SYSTEM_LIMIT ss
  pub messages : LawfulTexts MESSAGE_LIMIT ms
  pub names : LawfulTexts OBJECT_LIMIT ns
  pub locations : LawfulTexts LOCATION_LIMIT ls

abbrev pub Heads : Spelt → Type 0
Heads d = LawfulHeads d.words d.system d.messages d.names d.locations

pub record IsLawful (p : ℕ) (d : Spelt) : Type 0 where
  pub heads : Heads d
  pub exits : LawfulRows (exits_are_valid d.words (length d.locations)) (length d.locations) d.exits
  pub facts : LawfulRows (facts_are_valid d.words (length d.locations)) (length d.names) d.facts
  pub tables : (g : GameLists) → Has (bounds_of p d) d.words g → list_all (is_table g) d.tables ≡ true
  pub few_tables : length d.tables ≤ TABLE_LIMIT
  pub order : InOrder d.section d

no_rows : (p : ℕ) (d : Spelt) → Heads d → NoRows d → InOrder d.section d → IsLawful p d
no_rows p d heads none order =
    let no_exits = ap length none.exits in
    let no_facts = ap length none.facts in
    let no_tables = ap length none.tables in
    record {
      heads = heads;
      exits = record {
        all = ap (list_all (exits_are_valid d.words (length d.locations))) none.exits;
        few = omega (arith, no_exits);
      };
      facts = record {
        all = ap (list_all (facts_are_valid d.words (length d.locations))) none.facts;
        few = omega (arith, no_facts);
      };
      tables = λ g has. ap (list_all (is_table g)) none.tables;
      few_tables = omega (arith, no_tables);
      order = order;
    }

-- ---- texts

texts_lawful : (p : ℕ) (s : Section) (begun : Bool) (ts : Texts) (d : Spelt) → d.section ≡ s → IsLawful p d
    → LawfulTexts (text_limit s) ts → IsLawful p (with_texts s begun ts d)
texts_lawful p section.Before begun ts d e k new = k
texts_lawful p section.Voc begun ts d e k new = k
texts_lawful p section.Stx begun ts d e k new =
    let h = k.heads in
    let none = at_section section.Stx d e k.order in
    let made : Spelt = record d { system = ts; begun = begun } in
    let heads : Heads made = record { words = h.words; system = new; messages = h.messages; names = h.names; locations = h.locations } in
    no_rows p made heads none (from_section section.Stx made e none)
texts_lawful p section.Mtx begun ts d e k new =
    let h = k.heads in
    let none = at_section section.Mtx d e k.order in
    let made : Spelt = record d { messages = ts; begun = begun } in
    let heads : Heads made = record { words = h.words; system = h.system; messages = new; names = h.names; locations = h.locations } in
    no_rows p made heads none (from_section section.Mtx made e none)
texts_lawful p section.Otx begun ts d e k new =
    let h = k.heads in
    let none = at_section section.Otx d e k.order in
    let made : Spelt = record d { names = ts; begun = begun } in
    let heads : Heads made = record { words = h.words; system = h.system; messages = h.messages; names = new; locations = h.locations } in
    no_rows p made heads none (from_section section.Otx made e none)
texts_lawful p section.Ltx begun ts d e k new =
    let h = k.heads in
    let none = at_section section.Ltx d e k.order in
    let made : Spelt = record d { locations = ts; begun = begun } in
    let heads : Heads made = record { words = h.words; system = h.system; messages = h.messages; names = h.names; locations = new } in
    no_rows p made heads none (from_section section.Ltx made e none)
texts_lawful p section.Con begun ts d e k new = k
texts_lawful p section.Obj begun ts d e k new = k
texts_lawful p section.Pro begun ts d e k new = k

none_lawful : (limit : ℕ) → LawfulTexts limit []
none_lawful limit = record { all = refl; few = omega arith }

texts_lawful_in : (p : ℕ) (s : Section) (d : Spelt) → IsLawful p d → LawfulTexts (text_limit s) (texts_of s d)
texts_lawful_in p section.Before d k = none_lawful 0
texts_lawful_in p section.Voc d k = none_lawful 0
texts_lawful_in p section.Stx d k = k.heads.system
texts_lawful_in p section.Mtx d k = k.heads.messages
texts_lawful_in p section.Otx d k = k.heads.names
texts_lawful_in p section.Ltx d k = k.heads.locations
texts_lawful_in p section.Con d k = none_lawful 0
texts_lawful_in p section.Obj d k = none_lawful 0
texts_lawful_in p section.Pro d k = none_lawful 0

text_lawful : (p : ℕ) (d e : Spelt) (l : Line) → IsLawful p d → is_comment l ≡ false → begins_with_slash l ≡ false
    → has_forbidden_byte true l ≡ false → text_added d l ≡ Ok e → IsLawful p e
text_lawful p d e l k comment slash bytes h =
    let b = bound (text_line d.begun l (texts_of d.section d)) (λ ts. Ok (with_texts d.section true ts d)) e h in
    let old = texts_lawful_in p d.section d k in
    let new = text_line_ok d.begun l (texts_of d.section d) b.0 old.all comment slash bytes b.1 in
    let few = old.few in
    let same = new.1 in
    subst (IsLawful p) (ok_is (with_texts d.section true b.0 d) e b.2)
    (texts_lawful p d.section true b.0 d refl k (record { all = new.0; few = omega (arith, few, same) }))

-- ---- items

new_text_lawful : (p : ℕ) (s : Section) (n : ℕ) (d e : Spelt) → d.section ≡ s → IsLawful p d → new_text s d n ≡ Ok e → IsLawful p e
new_text_lawful p s n d e here k h =
    let b = bound (text_item (text_limit s) n (texts_of s d)) (λ ts. Ok (with_texts s false ts d)) e h in
    let old = texts_lawful_in p s d k in
    let new = text_item_ok (text_limit s) n (texts_of s d) b.0 old.all b.1 in
    subst (IsLawful p) (ok_is (with_texts s false b.0 d) e b.2) (texts_lawful p s false b.0 d here k (record { all = new.0; few = new.1 }))

empty_exits : (ws : List Word) (locations n : ℕ) → list_all (exits_are_valid ws locations) (replicate n []) ≡ true
empty_exits ws locations zero = refl
empty_exits ws locations (suc n) = empty_exits ws locations n

pub filled_exits : (ws : List Word) (locations n : ℕ) (es : List (List Exit))
    → list_all (exits_are_valid ws locations) es ≡ true → list_all (exits_are_valid ws locations) (es ++ replicate n []) ≡ true
filled_exits ws locations n es all = rw (list_all-append (exits_are_valid ws locations) es (replicate n []), all, empty_exits ws locations n) refl

pub filled_length : (n : ℕ) (es : List (List Exit)) → length (es ++ replicate n []) ≡ length es + n
filled_length n es =
    let a = length-append es (replicate n []) in
    let b = length-replicate {A = List Exit} n [] in
    omega (arith, a, b)

or_false : (a b : Bool) → (a || b) ≡ false → (a ≡ false) × (b ≡ false)
or_false true b h = absurd cc
or_false false b h = (refl, h)

-- Other exits, that follow the rules too.
exits_lawful : (p : ℕ) (d : Spelt) (es : List (List Exit)) → d.section ≡ section.Con → IsLawful p d
    → LawfulRows (exits_are_valid d.words (length d.locations)) (length d.locations) es → IsLawful p (record d { exits = es })
exits_lawful p d es here k exits = record {
  heads = k.heads;
  exits = exits;
  facts = k.facts;
  tables = k.tables;
  few_tables = k.few_tables;
  order = from_section section.Con (record d { exits = es }) here (at_section section.Con d here k.order);
}

new_exits_lawful : (p n : ℕ) (d e : Spelt) → d.section ≡ section.Con → IsLawful p d → new_exits d n ≡ Ok e → IsLawful p e
new_exits_lawful p n d e here k h =
    let made : Spelt = record d { exits = d.exits ++ replicate (suc n - length d.exits) [] } in
    let a = passes (nat_lt n (length d.exits) || not (nat_lt n (length d.locations))) kind.Range (Ok made) e h in
    let o = or_false (nat_lt n (length d.exits)) (not (nat_lt n (length d.locations))) a.0 in
    let low : n < length d.locations = grind (arith, nat_tests, o.1) in
    let long = filled_length (suc n - length d.exits) d.exits in
    let few = k.exits.few in
    let all = filled_exits d.words (length d.locations) (suc n - length d.exits) d.exits k.exits.all in
    subst (IsLawful p) (ok_is made e a.1)
    (exits_lawful p d made.exits here k (record { all = all; few = omega (arith, long, low, few) }))

item_lawful : (p : ℕ) (s : Section) (n : ℕ) (d e : Spelt) → d.section ≡ s → IsLawful p d → item_in s d n ≡ Ok e → IsLawful p e
item_lawful p section.Before n d e here k h = absurd cc
item_lawful p section.Voc n d e here k h = absurd cc
item_lawful p section.Stx n d e here k h = new_text_lawful p section.Stx n d e here k h
item_lawful p section.Mtx n d e here k h = new_text_lawful p section.Mtx n d e here k h
item_lawful p section.Otx n d e here k h = new_text_lawful p section.Otx n d e here k h
item_lawful p section.Ltx n d e here k h = new_text_lawful p section.Ltx n d e here k h
item_lawful p section.Con n d e here k h = new_exits_lawful p n d e here k h
item_lawful p section.Obj n d e here k h = absurd cc
item_lawful p section.Pro n d e here k h = absurd cc

-- ---- headers

-- Another section opens, and the tables are others that follow the rules too.
tables_lawful : (p : ℕ) (s : Section) (begun : Bool) (ts : List (List Entry)) (d : Spelt) → IsLawful p d
    → ((g : GameLists) → Has (bounds_of p d) d.words g → list_all (is_table g) ts ≡ true) → length ts ≤ TABLE_LIMIT
    → InOrder s (record d { section = s; begun = begun; tables = ts })
    → IsLawful p (record d { section = s; begun = begun; tables = ts })
tables_lawful p s begun ts d k all few order = record {
  heads = k.heads;
  exits = k.exits;
  facts = k.facts;
  tables = all;
  few_tables = few;
  order = order;
}

-- A section that opens adds no row.
open_lawful : (p : ℕ) (s : Section) (d : Spelt) → IsLawful p d → InOrder s (section_opened s d) → IsLawful p (section_opened s d)
open_lawful p s d k order = tables_lawful p s false d.tables d k k.tables k.few_tables order

plain_lawful : (p : ℕ) (s : Section) (d e : Spelt) (ts : Tokens) → IsLawful p d → InOrder s (section_opened s d) → plain_header s d ts ≡ Ok e → IsLawful p e
plain_lawful p s d e ts k order h =
    subst (IsLawful p) (ok_is (section_opened s d) e (at_end ts (Ok (section_opened s d)) e h)) (open_lawful p s d k order)

con_lawful : (p : ℕ) (d e : Spelt) (ts : Tokens) → IsLawful p d → NoRows d → con_header d ts ≡ Ok e → IsLawful p e
con_lawful p d e ts k none h =
    let a = at_end ts (cond (eqb (length d.locations) 0) (Err kind.Missing) (Ok (section_opened section.Con d))) e h in
    let b = passes (eqb (length d.locations) 0) kind.Missing (Ok (section_opened section.Con d)) e a in
    let some = eqb-false (length d.locations) 0 b.0 in
    let order : AtExits (section_opened section.Con d) = record { facts = none.facts; tables = none.tables; locations = omega (arith, some) } in
    subst (IsLawful p) (ok_is (section_opened section.Con d) e b.1) (open_lawful p section.Con d k order)

-- What a section has to bring for a table to begin.
pub record Ready (d : Spelt) : Type 0 where
  pub locations : LOCATION_LEAST ≤ length d.locations
  pub rows : lacks_rows d ≡ false → length d.names ≤ length d.facts

pro_lawful : (p : ℕ) (d e : Spelt) (ts : Tokens) → IsLawful p d → Ready d → pro_header d ts ≡ Ok e → IsLawful p e
pro_lawful p d e ts k ready h =
    let t = table_opened d e ts h in
    let made = with_table d in
    let few = t.few in
    let long = length-append d.tables ([] ∷ []) in
    let order : AtTables made = record { locations = ready.locations; rows = ready.rows t.rows } in
    subst (IsLawful p) t.is
    (tables_lawful p section.Pro false made.tables d k
    (λ g has. all_pushed (is_table g) d.tables [] (k.tables g has) refl) (omega (arith, long, few)) order)

first_table : (d : Spelt) → AtObjects d → lacks_rows d ≡ false → length d.names ≤ length d.facts
first_table d at h =
    let none = ap length at.tables in
    let first : eqb (length d.tables) 0 ≡ true = rw at.tables refl in
    let enough : ltb (length d.facts) (length d.names) ≡ false = ap (λ (b : Bool). b && ltb (length d.facts) (length d.names)) (sym first) ∙ h in
    grind (arith, nat_tests, enough)

header_of_lawful : (p : ℕ) (s : Section) (d e : Spelt) (ts : Tokens) → d.section ≡ s → IsLawful p d → header_of (next_header s).1 d ts ≡ Ok e → IsLawful p e
header_of_lawful p section.Before d e ts here k h = plain_lawful p section.Voc d e ts k (at_section section.Before d here k.order) h
header_of_lawful p section.Voc d e ts here k h = plain_lawful p section.Stx d e ts k (at_section section.Voc d here k.order) h
header_of_lawful p section.Stx d e ts here k h = plain_lawful p section.Mtx d e ts k (at_section section.Stx d here k.order) h
header_of_lawful p section.Mtx d e ts here k h = plain_lawful p section.Otx d e ts k (at_section section.Mtx d here k.order) h
header_of_lawful p section.Otx d e ts here k h = plain_lawful p section.Ltx d e ts k (at_section section.Otx d here k.order) h
header_of_lawful p section.Ltx d e ts here k h = con_lawful p d e ts k (at_section section.Ltx d here k.order) h
header_of_lawful p section.Con d e ts here k h =
    let at = at_section section.Con d here k.order in
    plain_lawful p section.Obj d e ts k (record { tables = at.tables; locations = at.locations }) h
header_of_lawful p section.Obj d e ts here k h =
    let at = at_section section.Obj d here k.order in
    pro_lawful p d e ts k (record { locations = at.locations; rows = λ f. first_table d at f }) h
header_of_lawful p section.Pro d e ts here k h =
    let at = at_section section.Pro d here k.order in
    pro_lawful p d e ts k (record { locations = at.locations; rows = λ f. at.rows }) h

slash_lawful : (p : ℕ) (d e : Spelt) (name : Name) (o : Option ℕ) (ts : Tokens) → IsLawful p d → slash_line d name o ts ≡ Ok e → IsLawful p e
slash_lawful p d e name (Some n) ts k h = item_lawful p d.section n d e refl k (at_end ts (item_in d.section d n) e h)
slash_lawful p d e name None ts k h =
    let b = holds (is_named name (next_header d.section).0) kind.Section (header_of (next_header d.section).1 d ts) e h in
    header_of_lawful p d.section d e ts refl k b.1

-- ---- rows

voc_lawful : (p : ℕ) (d e : Spelt) (ts : Tokens) → d.section ≡ section.Voc → IsLawful p d
    → (voc_row d.words ts >>= λ ws. Ok (record d { words = ws })) ≡ Ok e → IsLawful p e
voc_lawful p d e ts here k h =
    let b = bound (voc_row d.words ts) (λ ws. Ok (record d { words = ws })) e h in
    let made : Spelt = record d { words = b.0 } in
    let none = at_section section.Voc d here k.order in
    let h = k.heads in
    let words = voc_row_ok d.words b.0 ts h.words b.1 in
    let heads : Heads made = record { words = words; system = h.system; messages = h.messages; names = h.names; locations = h.locations } in
    subst (IsLawful p) (ok_is made e b.2) (no_rows p made heads none (from_section section.Voc made here none))

con_row_lawful : (p : ℕ) (d e : Spelt) (ts : Tokens) → d.section ≡ section.Con → IsLawful p d → con_row d ts ≡ Ok e → IsLawful p e
con_row_lawful p d e ts here k h =
    let a = passes (eqb (length d.exits) 0) kind.Section
    (exit_row d.words (length d.locations) (last_or [] d.exits) ts >>= λ xs.
    Ok (record d { exits = with_last xs d.exits })) e h in
    let b = bound (exit_row d.words (length d.locations) (last_or [] d.exits) ts) (λ xs. Ok (record d { exits = with_last xs d.exits })) e a.1 in
    let made : Spelt = record d { exits = with_last b.0 d.exits } in
    let old : exits_are_valid d.words (length d.locations) (last_or [] d.exits) ≡ true =
    all_get (exits_are_valid d.words (length d.locations)) d.exits (length d.exits - 1) [] k.exits.all refl in
    let new = exit_row_ok d.words (length d.locations) (last_or [] d.exits) b.0 ts k.heads.words old b.1 in
    let long = length-set d.exits (length d.exits - 1) b.0 in
    let few = k.exits.few in
    let all = all_set (exits_are_valid d.words (length d.locations)) d.exits (length d.exits - 1) b.0 k.exits.all new in
    subst (IsLawful p) (ok_is made e b.2)
    (exits_lawful p d made.exits here k (record { all = all; few = omega (arith, long, few) }))

obj_row_lawful : (p : ℕ) (d e : Spelt) (ts : Tokens) → d.section ≡ section.Obj → IsLawful p d → obj_row d ts ≡ Ok e → IsLawful p e
obj_row_lawful p d e ts here k h =
    let b = bound (object_row d.words (length d.locations) (length d.facts) (length d.names) ts) (λ f. Ok (record d { facts = d.facts ++ f ∷ [] })) e h in
    let made : Spelt = record d { facts = d.facts ++ b.0 ∷ [] } in
    let new = object_row_ok d.words (length d.locations) (length d.facts) (length d.names) ts b.0 b.1 in
    let room = new.room in
    let long = length-append d.facts (b.0 ∷ []) in
    let at = at_section section.Obj d here k.order in
    let kept : IsLawful p made = record {
      heads = k.heads;
      exits = k.exits;
      facts = record {
        all = all_pushed (facts_are_valid d.words (length d.locations)) d.facts b.0 k.facts.all new.facts;
        few = omega (arith, long, room);
      };
      tables = k.tables;
      few_tables = k.few_tables;
      order = from_section section.Obj made here at;
    } in
    subst (IsLawful p) (ok_is made e b.2) kept

table_row_ok : (p : ℕ) (d : Spelt) (more : Bool) (g : GameLists) (es fs : List Entry) (ts : Tokens)
    → Has (bounds_of p d) d.words g → is_table g es ≡ true
    → cond more (more_row (bounds_of p d) d.words es ts) (entry_row (bounds_of p d) d.words es ts) ≡ Ok fs
    → is_table g fs ≡ true
table_row_ok p d true g es fs ts has kept h = more_row_ok (bounds_of p d) d.words g es fs ts has kept h
table_row_ok p d false g es fs ts has kept h = entry_row_ok (bounds_of p d) d.words g es fs ts has kept h

pro_row_lawful : (p : ℕ) (d e : Spelt) (more : Bool) (ts : Tokens) → d.section ≡ section.Pro → IsLawful p d → pro_row p d more ts ≡ Ok e → IsLawful p e
pro_row_lawful p d e more ts here k h =
    let b = bound
    (cond more (more_row (bounds_of p d) d.words (last_or [] d.tables) ts)
    (entry_row (bounds_of p d) d.words (last_or [] d.tables) ts))
    (λ es. Ok (record d { tables = with_last es d.tables })) e h in
    let made : Spelt = record d { tables = with_last b.0 d.tables } in
    let long = length-set d.tables (length d.tables - 1) b.0 in
    let few = k.few_tables in
    let at = at_section section.Pro d here k.order in
    let old = last_or [] d.tables in
    let kept : (g : GameLists) → Has (bounds_of p d) d.words g → list_all (is_table g) made.tables ≡ true =
    λ g has.
    let all = k.tables g has in
    let old_kept = all_get (is_table g) d.tables (length d.tables - 1) [] all refl in
    all_set (is_table g) d.tables (length d.tables - 1) b.0 all (table_row_ok p d more g old b.0 ts has old_kept b.1) in
    subst (IsLawful p) (ok_is made e b.2)
    (tables_lawful p d.section d.begun made.tables d k kept (omega (arith, long, few))
    (from_section section.Pro made here at))

row_lawful : (p : ℕ) (s : Section) (d e : Spelt) (more : Bool) (ts : Tokens) → d.section ≡ s → IsLawful p d → row_in s p d more ts ≡ Ok e → IsLawful p e
row_lawful p section.Before d e more ts here k h = absurd cc
row_lawful p section.Voc d e more ts here k h = voc_lawful p d e ts here k h
row_lawful p section.Stx d e more ts here k h = absurd cc
row_lawful p section.Mtx d e more ts here k h = absurd cc
row_lawful p section.Otx d e more ts here k h = absurd cc
row_lawful p section.Ltx d e more ts here k h = absurd cc
row_lawful p section.Con d e more ts here k h = con_row_lawful p d e ts here k h
row_lawful p section.Obj d e more ts here k h = obj_row_lawful p d e ts here k h
row_lawful p section.Pro d e more ts here k h = pro_row_lawful p d e more ts here k h

-- ---- a line

tokens_lawful : (p : ℕ) (d e : Spelt) (slash blank : Bool) (ts : Tokens) → IsLawful p d → tokens_added p d slash blank ts ≡ Ok e → IsLawful p e
tokens_lawful p d e slash blank [] k h = subst (IsLawful p) (ok_is d e h) k
tokens_lawful p d e true blank (t ∷ ts) k h = slash_lawful p d e t (number (drop 1 t)) ts k h
tokens_lawful p d e false blank (t ∷ ts) k h = row_lawful p d.section d e blank (t ∷ ts) refl k h

no_slash : (a b : Bool) → (a && not b) ≡ true → b ≡ false
no_slash true true h = absurd cc
no_slash true false h = refl
no_slash false b h = absurd cc

pub step_lawful : (p : ℕ) (d e : Spelt) (l : Line) → IsLawful p d → after_line p d l ≡ Ok e → IsLawful p e
unfolding after_line
step_lawful p d e l k h =
    let others : Result Spelt SourceKind = tokens_added p d (begins_with_slash l) (begins_with_blank l) (tokens_of l) in
    elim (is_comment l) as (λ b. is_comment l ≡ b
    → cond b (Ok d)
    (cond (has_forbidden_byte (is_text_line d l) l) (Err kind.Text)
    (cond (is_text_line d l) (text_added d l)
    (tokens_added p d (begins_with_slash l) (begins_with_blank l) (tokens_of l)))) ≡ Ok e → IsLawful p e) [
      | true ↦ λ c f. subst (IsLawful p) (ok_is d e f) k
      | false ↦ λ c f.
          elim (is_text_line d l) as (λ b. is_text_line d l ≡ b
          → cond (has_forbidden_byte b l) (Err kind.Text)
          (cond b (text_added d l) (tokens_added p d (begins_with_slash l) (begins_with_blank l) (tokens_of l)))
          ≡ Ok e → IsLawful p e) [
            | true ↦ λ t g.
                let a = passes (has_forbidden_byte true l) kind.Text (text_added d l) e g in
                text_lawful p d e l k c (no_slash (is_in_text d) (begins_with_slash l) t) a.0 a.1
            | false ↦ λ t g.
                let a = passes (has_forbidden_byte false l) kind.Text (tokens_added p d (begins_with_slash l) (begins_with_blank l) (tokens_of l)) e g in
                tokens_lawful p d e (begins_with_slash l) (begins_with_blank l) (tokens_of l) k a.1
          ] refl f
    ] refl h
