-- What the header of a table was, in which no fault was found.
use Rattle.std.proofs.Common.{◌≡◌, ◌<◌, false, cond, not, eqb, [], ◌∷◌, ◌++◌, length, Result, Ok, Err, arith}
use Rattle.std.specs.Prelude.{nat_lt}
use Rattle.std.proofs.lemmas.Bool.{ltb-true}
use Rattle.std.proofs.lemmas.Bool.Decides.{nat_tests}
use Rattle.paw_base.specs.Bytes.{Tokens}
use Rattle.paw_base.specs.declared.limits.TheConstants.{TABLE_LIMIT}
use Rattle.paw_base.specs.declared.fault.SourceKind.{SourceKind}
use Rattle.paw_base.specs.declared.fault.SourceKind.TheVariants as kind
use Rattle.paw_grammar.specs.declared.section.Section.TheVariants as section
use Rattle.paw_read_error.specs.Bind.{◌>>=◌}
use Rattle.paw_grammar.specs.Tokens.{end_of_line}
use Rattle.paw_grammar.specs.Numbers.{number_below}
use Rattle.paw_grammar.specs.GrammarState.{Spelt}
use Rattle.paw_grammar.specs.GrammarHeads.{section_opened, lacks_rows, pro_header}
use Rattle.paw_source.proofs.Faultless.{passes, bound, ok_is, at_end, number_ok}

-- One table more.
abbrev pub with_table : Spelt → Spelt
with_table d = record (section_opened section.Pro d) { tables = d.tables ++ [] ∷ [] }

pub record IsOpened (d e : Spelt) : Type 0 where
  pub few : length d.tables < TABLE_LIMIT
  pub rows : lacks_rows d ≡ false
  pub is : with_table d ≡ e

pub table_opened : (d e : Spelt) (ts : Tokens) → pro_header d ts ≡ Ok e → IsOpened d e
table_opened d e ts h =
    let made = with_table d in
    let last : Result Spelt SourceKind = cond (lacks_rows d) (Err kind.Missing) (Ok made) in
    let a = bound (number_below TABLE_LIMIT ts) (λ n. cond (not (eqb n.0 (length d.tables))) (Err kind.Section) (end_of_line n.1 >>= λ _. last)) e h in
    let rest = end_of_line a.0.1 >>= λ _. last in
    let b = passes (not (eqb a.0.0 (length d.tables))) kind.Section rest e a.2 in
    let f = passes (lacks_rows d) kind.Missing (Ok made) e (at_end a.0.1 last e b.1) in
    let low = ltb-true a.0.0 TABLE_LIMIT (number_ok (λ n. nat_lt n TABLE_LIMIT) ts a.0 a.1) in
    let next : a.0.0 ≡ length d.tables = grind (arith, nat_tests, b.0) in
    record { few = omega (arith, low, next); rows = f.0; is = ok_is made e f.1 }
