-- Lines without a fault begin as many tables as were counted.
use Rattle.std.proofs.Common.{◌≡◌, ℕ, suc, ◌+◌, ◌-◌, Bool, true, false, cond, not, ◌&&◌}
use Rattle.std.proofs.Common.{◌||◌, eqb, [], ◌∷◌, ◌++◌, length, get_or, replicate, drop, Option}
use Rattle.std.proofs.Common.{Some, None, Ok, Err, refl, sym, ap, ◌∙◌, arith}
use Rattle.std.specs.Prelude.{nat_lt, codes}
use Rattle.std.specs.Str.{str_to_ascii_lowercase, bytes_eq}
use Rattle.std.specs.Str.Parse.{digits_value}
use Rattle.std.specs.List.{list_all}
use Rattle.std.specs.Char.{is_ascii_digit, to_ascii_lowercase}
use Rattle.std.proofs.lemmas.Slice.Eq.{bytes_eq-Decides}
use Rattle.std.proofs.lemmas.Bool.{eqb-true, lt-ltb}
use Rattle.std.proofs.lemmas.Bool.Decides.{nat_tests}
use Rattle.std.proofs.lemmas.List.{length-append, length-set}
use Rattle.std.proofs.lemmas.List.Sums.{sum_by-cons}
use Rattle.paw_base.specs.Bytes.{Tokens, Bytes, Line, Token}
use Rattle.paw_base.specs.declared.fault.SourceKind.TheVariants as kind
use Rattle.paw_lex.specs.Bytes.{is_comment, has_forbidden_byte}
use Rattle.paw_lex.specs.Tokens.{tokens_of}
use Rattle.paw_grammar.specs.declared.section.Section.{Section}
use Rattle.paw_grammar.specs.declared.section.Section.TheVariants as section
use Rattle.paw_read_error.specs.Bind.{◌>>=◌}
use Rattle.paw_grammar.specs.Tokens.{is_named}
use Rattle.paw_grammar.specs.Numbers.{number}
use Rattle.paw_grammar.specs.GrammarState.{Spelt, last_or, with_last}
use Rattle.paw_grammar.specs.GrammarTexts.{texts_of, with_texts, text_limit, text_item, text_line, is_in_text}
use Rattle.paw_grammar.specs.GrammarHeads.{next_header, section_opened, plain_header, con_header}
use Rattle.paw_grammar.specs.GrammarHeads.{pro_header, header_of, new_text}
use Rattle.paw_grammar.specs.GrammarHeads.{new_exits, item_in, slash_line}
use Rattle.paw_grammar.specs.GrammarRows.{voc_row, exit_row, con_row, object_row, bounds_of, entry_row, more_row}
use Rattle.paw_grammar.specs.GrammarRows.{pro_row, row_in}
use Rattle.paw_grammar.specs.Spells.{begins_with_slash, begins_with_blank, is_text_line, text_added, tokens_added}
use Rattle.paw_grammar.specs.Spells.{after_line, begins_table}
use Rattle.paw_source.specs.inner.Laws.{after_lines, CountsTables}
use Rattle.paw_source.proofs.Faultless.{passes, holds, bound, ok_is, at_end}
use Rattle.paw_source.proofs.Headers.{table_opened}

-- How many tables are spelled.
abbrev tables : Spelt → ℕ
tables d = length d.tables

texts_same : (s : Section) (begun : Bool) (ts : Tokens) (d : Spelt) → tables (with_texts s begun ts d) ≡ tables d
texts_same section.Before begun ts d = refl
texts_same section.Voc begun ts d = refl
texts_same section.Stx begun ts d = refl
texts_same section.Mtx begun ts d = refl
texts_same section.Otx begun ts d = refl
texts_same section.Ltx begun ts d = refl
texts_same section.Con begun ts d = refl
texts_same section.Obj begun ts d = refl
texts_same section.Pro begun ts d = refl

text_same : (d e : Spelt) (l : Line) → text_added d l ≡ Ok e → tables e ≡ tables d
text_same d e l h =
    let b = bound (text_line d.begun l (texts_of d.section d)) (λ ts. Ok (with_texts d.section true ts d)) e h in
    ap tables (sym (ok_is (with_texts d.section true b.0 d) e b.2)) ∙ texts_same d.section true b.0 d

new_text_same : (s : Section) (n : ℕ) (d e : Spelt) → new_text s d n ≡ Ok e → tables e ≡ tables d
new_text_same s n d e h =
    let b = bound (text_item (text_limit s) n (texts_of s d)) (λ ts. Ok (with_texts s false ts d)) e h in
    ap tables (sym (ok_is (with_texts s false b.0 d) e b.2)) ∙ texts_same s false b.0 d

new_exits_same : (n : ℕ) (d e : Spelt) → new_exits d n ≡ Ok e → tables e ≡ tables d
new_exits_same n d e h =
    let made : Spelt = record d { exits = d.exits ++ replicate (suc n - length d.exits) [] } in
    let a = passes (nat_lt n (length d.exits) || not (nat_lt n (length d.locations))) kind.Range (Ok made) e h in
    ap tables (sym (ok_is made e a.1))

item_same : (s : Section) (n : ℕ) (d e : Spelt) → item_in s d n ≡ Ok e → tables e ≡ tables d
item_same section.Before n d e h = absurd cc
item_same section.Voc n d e h = absurd cc
item_same section.Stx n d e h = new_text_same section.Stx n d e h
item_same section.Mtx n d e h = new_text_same section.Mtx n d e h
item_same section.Otx n d e h = new_text_same section.Otx n d e h
item_same section.Ltx n d e h = new_text_same section.Ltx n d e h
item_same section.Con n d e h = new_exits_same n d e h
item_same section.Obj n d e h = absurd cc
item_same section.Pro n d e h = absurd cc

-- ---- headers

-- A token has one name.
not_pro : (t name : Bytes) → is_named t name ≡ true → is_named name (codes "/PRO") ≡ false → is_named t (codes "/PRO") ≡ false
not_pro t name f other =
    ap (λ (x : Bytes). bytes_eq x (str_to_ascii_lowercase (codes "/PRO")))
    ((bytes_eq-Decides (str_to_ascii_lowercase t) (str_to_ascii_lowercase name)).0 f) ∙ other

digit_no_letter : (c : ℕ) → is_ascii_digit c ≡ true → eqb (to_ascii_lowercase c) 112 ≡ false
digit_no_letter c h = grind (arith, nat_tests)

is_first_digit : (c n : ℕ) (cs : Bytes) → number (c ∷ cs) ≡ Some n → is_ascii_digit c ≡ true
is_first_digit c n cs h =
    let some : nat_lt 0 (length (c ∷ cs)) ≡ true = lt-ltb 0 (length (c ∷ cs)) (omega arith) in
    elim (is_ascii_digit c) as (λ b. cond (b && list_all is_ascii_digit cs) (Some (digits_value 10 (c ∷ cs))) None ≡ Some n → b ≡ true) [
      | true ↦ λ e. refl
      | false ↦ λ e. absurd cc
    ] (rw some at h)

number_not_pro : (t : Token) (n : ℕ) → number (drop 1 t) ≡ Some n → is_named t (codes "/PRO") ≡ false
number_not_pro [] n h = refl
number_not_pro (b ∷ []) n h = absurd cc
number_not_pro (b ∷ c ∷ cs) n h =
    rw (digit_no_letter c (is_first_digit c n cs h)) (elim (eqb (to_ascii_lowercase b) 47) as (λ v. (v && false) ≡ false) [ true ↦ refl | false ↦ refl ])

plain_same : (s : Section) (d e : Spelt) (ts : Tokens) → plain_header s d ts ≡ Ok e → tables e ≡ tables d
plain_same s d e ts h = ap tables (sym (ok_is (section_opened s d) e (at_end ts (Ok (section_opened s d)) e h)))

con_same : (d e : Spelt) (ts : Tokens) → con_header d ts ≡ Ok e → tables e ≡ tables d
con_same d e ts h =
    let a = at_end ts (cond (eqb (length d.locations) 0) (Err kind.Missing) (Ok (section_opened section.Con d))) e h in
    let b = passes (eqb (length d.locations) 0) kind.Missing (Ok (section_opened section.Con d)) e a in
    ap tables (sym (ok_is (section_opened section.Con d) e b.1))

pro_more : (d e : Spelt) (ts : Tokens) → pro_header d ts ≡ Ok e → tables e ≡ tables d + 1
pro_more d e ts h = ap tables (sym (table_opened d e ts h).is) ∙ length-append d.tables ([] ∷ [])

-- The first of these tokens is the header of a table.
abbrev is_pro_token : Tokens → Bool
is_pro_token ts = is_named (get_or ts 0 []) (codes "/PRO")

-- How many tables a line of these tokens begins.
abbrev begun : Tokens → ℕ
begun ts = cond (is_pro_token ts) 1 0

no_more : (d e : Spelt) (b : Bool) → b ≡ false → tables e ≡ tables d → tables e ≡ tables d + cond b 1 0
no_more d e true h same = absurd cc
no_more d e false h same = omega (arith, same)

header_counts : (s : Section) (d e : Spelt) (t : Token) (ts : Tokens)
    → is_named t (next_header s).0 ≡ true → header_of (next_header s).1 d ts ≡ Ok e
    → tables e ≡ tables d + begun (t ∷ ts)
header_counts section.Before d e t ts f h = no_more d e (is_named t (codes "/PRO")) (not_pro t (codes "/VOC") f refl) (plain_same section.Voc d e ts h)
header_counts section.Voc d e t ts f h = no_more d e (is_named t (codes "/PRO")) (not_pro t (codes "/STX") f refl) (plain_same section.Stx d e ts h)
header_counts section.Stx d e t ts f h = no_more d e (is_named t (codes "/PRO")) (not_pro t (codes "/MTX") f refl) (plain_same section.Mtx d e ts h)
header_counts section.Mtx d e t ts f h = no_more d e (is_named t (codes "/PRO")) (not_pro t (codes "/OTX") f refl) (plain_same section.Otx d e ts h)
header_counts section.Otx d e t ts f h = no_more d e (is_named t (codes "/PRO")) (not_pro t (codes "/LTX") f refl) (plain_same section.Ltx d e ts h)
header_counts section.Ltx d e t ts f h = no_more d e (is_named t (codes "/PRO")) (not_pro t (codes "/CON") f refl) (con_same d e ts h)
header_counts section.Con d e t ts f h = no_more d e (is_named t (codes "/PRO")) (not_pro t (codes "/OBJ") f refl) (plain_same section.Obj d e ts h)
header_counts section.Obj d e t ts f h = rw f (pro_more d e ts h)
header_counts section.Pro d e t ts f h = rw f (pro_more d e ts h)

slash_counts : (d e : Spelt) (t : Token) (o : Option ℕ) (ts : Tokens) → number (drop 1 t) ≡ o
    → slash_line d t o ts ≡ Ok e → tables e ≡ tables d + begun (t ∷ ts)
slash_counts d e t (Some n) ts o h =
    no_more d e (is_named t (codes "/PRO")) (number_not_pro t n o) (item_same d.section n d e (at_end ts (item_in d.section d n) e h))
slash_counts d e t None ts o h =
    let b = holds (is_named t (next_header d.section).0) kind.Section (header_of (next_header d.section).1 d ts) e h in
    header_counts d.section d e t ts b.0 b.1

-- ---- rows

con_row_same : (d e : Spelt) (ts : Tokens) → con_row d ts ≡ Ok e → tables e ≡ tables d
con_row_same d e ts h =
    let a = passes (eqb (length d.exits) 0) kind.Section
    (exit_row d.words (length d.locations) (last_or [] d.exits) ts >>= λ xs.
    Ok (record d { exits = with_last xs d.exits })) e h in
    let b = bound (exit_row d.words (length d.locations) (last_or [] d.exits) ts) (λ xs. Ok (record d { exits = with_last xs d.exits })) e a.1 in
    ap tables (sym (ok_is (record d { exits = with_last b.0 d.exits }) e b.2))

pro_row_same : (p : ℕ) (d e : Spelt) (more : Bool) (ts : Tokens) → pro_row p d more ts ≡ Ok e → tables e ≡ tables d
pro_row_same p d e more ts h =
    let b = bound
    (cond more (more_row (bounds_of p d) d.words (last_or [] d.tables) ts)
    (entry_row (bounds_of p d) d.words (last_or [] d.tables) ts))
    (λ es. Ok (record d { tables = with_last es d.tables })) e h in
    ap tables (sym (ok_is (record d { tables = with_last b.0 d.tables }) e b.2)) ∙ length-set d.tables (length d.tables - 1) b.0

row_same : (p : ℕ) (s : Section) (d e : Spelt) (more : Bool) (ts : Tokens) → row_in s p d more ts ≡ Ok e → tables e ≡ tables d
row_same p section.Before d e more ts h = absurd cc
row_same p section.Voc d e more ts h =
    let b = bound (voc_row d.words ts) (λ ws. Ok (record d { words = ws })) e h in
    ap tables (sym (ok_is (record d { words = b.0 }) e b.2))
row_same p section.Stx d e more ts h = absurd cc
row_same p section.Mtx d e more ts h = absurd cc
row_same p section.Otx d e more ts h = absurd cc
row_same p section.Ltx d e more ts h = absurd cc
row_same p section.Con d e more ts h = con_row_same d e ts h
row_same p section.Obj d e more ts h =
    let b = bound (object_row d.words (length d.locations) (length d.facts) (length d.names) ts) (λ f. Ok (record d { facts = d.facts ++ f ∷ [] })) e h in
    ap tables (sym (ok_is (record d { facts = d.facts ++ b.0 ∷ [] }) e b.2))
row_same p section.Pro d e more ts h = pro_row_same p d e more ts h

-- ---- a line

tokens_count : (p : ℕ) (d e : Spelt) (slash blank : Bool) (ts : Tokens)
    → tokens_added p d slash blank ts ≡ Ok e → tables e ≡ tables d + cond (slash && is_pro_token ts) 1 0
tokens_count p d e true blank [] h = let same = ap tables (ok_is d e h) in omega (arith, same)
tokens_count p d e false blank [] h = let same = ap tables (ok_is d e h) in omega (arith, same)
tokens_count p d e true blank (t ∷ ts) h = slash_counts d e t (number (drop 1 t)) ts refl h
tokens_count p d e false blank (t ∷ ts) h = let same = row_same p d.section d e blank (t ∷ ts) h in omega (arith, same)

comment_no_table : (l : Line) → is_comment l ≡ true → begins_table l ≡ false
comment_no_table [] h = absurd cc
comment_no_table (b ∷ bs) h = rw (eqb-true b 59 h) refl

no_slash_no_table : (l : Line) (a : Bool) → (a && not (begins_with_slash l)) ≡ true → begins_table l ≡ false
no_slash_no_table l a h =
    elim (begins_with_slash l) as (λ b. (a && not b) ≡ true → (b && is_pro_token (tokens_of l)) ≡ false) [
      | true ↦ λ e. absurd (elim a as (λ v. (v && false) ≡ true → ⊥) [ true ↦ λ f. absurd cc | false ↦ λ f. absurd cc ] e)
      | false ↦ λ e. refl
    ] h

pub step_counts : (p : ℕ) (d e : Spelt) (l : Line) → after_line p d l ≡ Ok e → length e.tables ≡ length d.tables + cond (begins_table l) 1 0
unfolding after_line
step_counts p d e l h =
    elim (is_comment l) as (λ b. is_comment l ≡ b
    → cond b (Ok d)
    (cond (has_forbidden_byte (is_text_line d l) l) (Err kind.Text)
    (cond (is_text_line d l) (text_added d l)
    (tokens_added p d (begins_with_slash l) (begins_with_blank l) (tokens_of l)))) ≡ Ok e
    → tables e ≡ tables d + cond (begins_table l) 1 0) [
      | true ↦ λ c f. no_more d e (begins_table l) (comment_no_table l c) (ap tables (sym (ok_is d e f)))
      | false ↦ λ c f.
          elim (is_text_line d l) as (λ b. is_text_line d l ≡ b
          → cond (has_forbidden_byte b l) (Err kind.Text)
          (cond b (text_added d l) (tokens_added p d (begins_with_slash l) (begins_with_blank l) (tokens_of l)))
          ≡ Ok e → tables e ≡ tables d + cond (begins_table l) 1 0) [
            | true ↦ λ t g.
                let a = passes (has_forbidden_byte true l) kind.Text (text_added d l) e g in
                no_more d e (begins_table l) (no_slash_no_table l (is_in_text d) t) (text_same d e l a.1)
            | false ↦ λ t g.
                let a = passes (has_forbidden_byte false l) kind.Text (tokens_added p d (begins_with_slash l) (begins_with_blank l) (tokens_of l)) e g in
                tokens_count p d e (begins_with_slash l) (begins_with_blank l) (tokens_of l) a.1
          ] refl f
    ] refl h

pub counts_tables : CountsTables
unfolding after_lines
counts_tables p d e [] h = let same = ap tables (ok_is d e h) in omega (arith, same)
counts_tables p d e (l ∷ ls) h =
    let a = bound (after_line p d l) (λ x. after_lines p x ls) e h in
    let one = step_counts p d a.0 l a.1 in
    let others = counts_tables p a.0 e ls a.2 in
    let more = sum_by-cons (λ x. cond (begins_table x) 1 0) l ls in
    omega (arith, one, others, more)
