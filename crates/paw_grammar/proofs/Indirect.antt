-- The codes of indirect condacts.
use Rattle.std.proofs.Common.{◌≡◌, ℕ, ◌+◌, ◌-◌, Bool, true, false, List, Some, None, Result, Ok, refl, sym, ap, subst}
use Rattle.std.proofs.Common.{◌∙◌, arith}
use Rattle.std.specs.Option.{ok_or}
use Rattle.std.proofs.lemmas.Bool.{and_from, or_left, or_right, le-leb}
use Rattle.paw_base.specs.Bytes.{Name, Tokens}
use Rattle.paw_base.specs.declared.fault.SourceKind.{SourceKind}
use Rattle.paw_base.specs.declared.fault.SourceKind.TheVariants as fault
use Rattle.paw_base.specs.declared.rows.ParamKind.TheVariants.{Flag}
use Rattle.paw_base.specs.Condacts.{CondactLine, plain_line, line_of, code_named, name_of, first_kind, second_kind}
use Rattle.paw_base.specs.Condacts.{is_plain_code, is_indirect, may_be_indirect}
use Rattle.paw_base.specs.inner.Condacts.{IsCode, IsPlainCode}
use Rattle.paw_base.specs.declared.codes.TheConstants.{INDIRECT}
use Rattle.paw_base.proofs.Table.{code_within, plain_below}
use Rattle.paw_base.proofs.Named.{code_named_found}
use Rattle.paw_game.specs.declared.parts.Word.{Word}
use Rattle.paw_grammar.specs.declared.bounds.Bounds.{Bounds}
use Rattle.paw_grammar.specs.Condacts.{parameter, is_indirect_before, first_parameter, code_of, condact}

-- A name gives a plain code.
pub named_plain : (name : Name) (code : ℕ) → ok_or (code_named name) fault.Condact ≡ Ok code → IsPlainCode code
named_plain name code h =
    elim (code_named name) as (λ o. code_named name ≡ o → ok_or o fault.Condact ≡ Ok code → IsPlainCode code) [
      | None ↦ λ e f. absurd cc
      | Some found ↦ λ e f.
          let read : ◌≡◌ {A = Result ℕ SourceKind} (Ok found) (Ok code) = f in
          let same : found ≡ code = cc in
          subst IsPlainCode same (code_named_found name found e).0
    ] refl h

-- A condact that is read part by part.
pub condact_made : (bounds : Bounds) (ws : List Word) (name : Name) (ts : Tokens) (plain : ℕ) (indirect : Bool)
    (a b : ℕ × Tokens) → code_named name ≡ Some plain → is_indirect_before plain ts ≡ indirect
    → first_parameter bounds ws indirect (first_kind plain) ts ≡ Ok a → parameter bounds ws (second_kind plain) a.1 ≡ Ok b
    → condact bounds ws name ts ≡ Ok (record { code = code_of indirect plain; a = a.0; b = b.0 }, b.1)
unfolding condact
condact_made bounds ws name ts plain indirect a b named told first second = rw (named, told, first, second) refl

-- ---- the line of a plain code, and that of the indirect condact with it

back : (code : ℕ) → code + INDIRECT - INDIRECT ≡ code
back code = omega arith

indirect_is : (code : ℕ) → may_be_indirect code ≡ true → is_indirect (code + INDIRECT) ≡ true
unfolding is_indirect
indirect_is code may =
    and_from _ _ (le-leb INDIRECT (code + INDIRECT) (omega arith))
    (subst (λ n. may_be_indirect n ≡ true) (sym (back code)) may)

line_of-indirect : (code : ℕ) → may_be_indirect code ≡ true → line_of (code + INDIRECT) ≡ record (plain_line code) { first = Flag }
unfolding line_of
line_of-indirect code may = rw (indirect_is code may, back code) refl

line_of-plain : (code : ℕ) → IsPlainCode code → line_of code ≡ plain_line code
unfolding line_of
line_of-plain code plain =
    let within = code_within code plain in
    rw (plain_below code (omega (arith, within))) refl

-- ---- the code that is read

pub read_code : (code : ℕ) (indirect : Bool) → IsPlainCode code → (indirect ≡ true → may_be_indirect code ≡ true)
    → IsCode (code_of indirect code)
read_code code true plain may = or_right (is_plain_code (code + INDIRECT)) (is_indirect (code + INDIRECT)) (indirect_is code (may refl))
read_code code false plain may = or_left (is_plain_code code) (is_indirect code) plain

-- The first parameter of an indirect condact is a flag.
pub first_kind-indirect : (code : ℕ) → may_be_indirect code ≡ true → first_kind (code + INDIRECT) ≡ Flag
first_kind-indirect code may = ap (λ (l : CondactLine). l.first) (line_of-indirect code may)

-- The second is of the same kind as that of the plain one.
pub second_kind-read : (code : ℕ) (indirect : Bool) → IsPlainCode code → (indirect ≡ true → may_be_indirect code ≡ true)
    → second_kind (code_of indirect code) ≡ second_kind code
second_kind-read code true plain may =
    ap (λ (l : CondactLine). l.second) (line_of-indirect code (may refl))
    ∙ sym (ap (λ (l : CondactLine). l.second) (line_of-plain code plain))
second_kind-read code false plain may = refl

-- It has the name of the plain one.
pub name_of-read : (code : ℕ) (indirect : Bool) → IsPlainCode code → (indirect ≡ true → may_be_indirect code ≡ true)
    → name_of (code_of indirect code) ≡ name_of code
name_of-read code true plain may =
    ap (λ (l : CondactLine). l.name) (line_of-indirect code (may refl))
    ∙ sym (ap (λ (l : CondactLine). l.name) (line_of-plain code plain))
name_of-read code false plain may = refl
