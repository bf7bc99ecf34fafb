-- The table of condacts: as the code holds it, and what is true of each code.
use Rattle.std.proofs.Common.{◌≡◌, ℕ, zero, suc, ◌-◌, ◌%◌, ◌≤◌, ◌<◌, ◌==◌, Bool, true, false, not, ◌&&◌, ◌||◌, inl, inr}
use Rattle.std.proofs.Common.{subst, arith, Option, Some, None, SomeIff, length, map, refl, sym, ap, ◌∙◌, nat_le}
use Rattle.std.proofs.Common.{nat_lt, bytes_eq}
use Rattle.std.specs.Prelude.{if◌then◌else◌}
use Rattle.std.specs.List.{slice_index_or, list_all}
use Rattle.std.specs.Char.{is_ascii_uppercase, is_ascii_digit}
use Rattle.std.proofs.lemmas.Bool.Decides.{Decides-below_and}
use Rattle.std.proofs.lemmas.Bool.{eqb-true, leb-true, ltb-true, lt-ltb, le-ltb, lt-leb, le-leb, cases_lt, or_cases, and_parts}
use Rattle.std.proofs.lemmas.Slice.Eq.{bytes_eq-Decides}
use Rattle.std.proofs.lemmas.List.{get_or-map, get_or_past}
use Rattle.paw_base.specs.Bytes.{Bytes}
use Rattle.paw_base.proofs.Filled.{has_space-plain, before_space-filled_up}
use Rattle.paw_base.specs.declared.rows.CondactRow.{CondactRow}
use Rattle.paw_base.specs.declared.rows.ParamKind.{ParamKind}
use Rattle.paw_base.specs.declared.rows.TheConstants.{CONDACTS}
use Rattle.paw_base.specs.declared.codes.TheConstants.{INDIRECT, PROCESS, DOALL}
use Rattle.paw_base.specs.Condacts.{CondactLine, is_code, is_plain_code, is_indirect, may_be_indirect, plain_code}
use Rattle.paw_base.specs.Condacts.{plain_line, indirect_line, no_line, condact_lines, line_of, name_of, first_kind}
use Rattle.paw_base.specs.Condacts.{second_kind, param_count, capitals}
use Rattle.paw_base.specs.inner.Condacts.{filled_up, before_space, condact_row_of, row_of_line, HasName, IsCode}
use Rattle.paw_base.specs.inner.Condacts.{IsPlainCode, is_plain}

-- ---- the code's table is the definition's

abbrev pub Held : Type 0
Held = Bytes × ParamKind × ParamKind × Bool

abbrev pub held : CondactLine → Held
held line = (filled_up line.name, line.first, line.second, line.acts)

pub CONDACTS_are : CONDACTS ≡ map held condact_lines
unfolding condact_lines
CONDACTS_are = refl

pub length-condact_lines : length condact_lines ≡ length CONDACTS
unfolding condact_lines
length-condact_lines = refl

-- The plain codes are the indices of the code's table.
pub code_within : (code : ℕ) → IsPlainCode code → code < length CONDACTS
unfolding is_plain_code
code_within code h = rw (sym length-condact_lines) (ltb-true code (length condact_lines) h)

pub within_code : (code : ℕ) → code < length CONDACTS → IsPlainCode code
unfolding is_plain_code
within_code code h = lt-ltb code (length condact_lines) (rw length-condact_lines h)

pub held_at : (code : ℕ) (row : Held) → code < length CONDACTS → slice_index_or CONDACTS code row ≡ held (plain_line code)
unfolding plain_line
held_at code row h =
    ap (λ rows. slice_index_or rows code row) CONDACTS_are
    ∙ get_or-map held condact_lines code no_line row (rw length-condact_lines h)

pub row_is : (code : ℕ) (row : Held) → code < length CONDACTS → row ≡ slice_index_or CONDACTS code row →
    record { name = row.0; first = row.1; second = row.2; acts = row.3 } ≡ row_of_line (plain_line code)
row_is code row h e = rw (e ∙ held_at code row h) refl

-- ---- indirect codes

-- A code that may be indirect has a line.
pub indirect_within : (code : ℕ) → may_be_indirect code ≡ true → code < length CONDACTS
unfolding plain_line
indirect_within code h = elim (cases_lt code (length condact_lines)) [
  | inl low ↦ rw (sym length-condact_lines) low
  | inr past ↦
      let none = get_or_past condact_lines code no_line past in
      let wrong : false ≡ true =
      subst (λ (l : CondactLine). (nat_lt 0 (param_count l.first) && not ((code == PROCESS) || (code == DOALL))) ≡ true) none h in
      absurd cc
]

-- Below 128 a code is plain.
pub plain_below : (code : ℕ) → code < INDIRECT → is_indirect code ≡ false
unfolding is_indirect
plain_below code low = rw (lt-leb INDIRECT code low) refl

-- From 128 on no code is plain.
pub none_from : (code : ℕ) → INDIRECT ≤ code → is_plain_code code ≡ false
unfolding is_plain_code
none_from code high = le-ltb code (length condact_lines) (omega (arith, high, length-condact_lines))

pub indirect_from : (code : ℕ) → INDIRECT ≤ code → is_indirect code ≡ may_be_indirect (code - INDIRECT)
unfolding is_indirect
indirect_from code high = rw (le-leb INDIRECT code high) refl

-- A code is a byte.
pub code_small : (code : ℕ) → IsCode code → code < 256
unfolding is_indirect
code_small code is = elim (or_cases (is_plain_code code) (is_indirect code) is) [
  | inl plain ↦ let within = code_within code plain in omega (arith, within)
  | inr indirect ↦ let within = indirect_within (code - INDIRECT) (and_parts (nat_le INDIRECT code) _ indirect).1 in omega (arith, within)
]

-- A plain code is a code.
pub plain_is : (code : ℕ) → IsPlainCode code → IsCode code
plain_is code h = rw h refl

-- A code below 128 is plain.
pub plain_of_code : (code : ℕ) → IsCode code → code < INDIRECT → IsPlainCode code
plain_of_code code is low = elim (or_cases (is_plain_code code) (is_indirect code) is) [
  | inl plain ↦ plain
  | inr indirect ↦ let not_so = plain_below code low in absurd cc
]

pub indirect_of_code : (code : ℕ) → IsCode code → INDIRECT ≤ code → is_indirect code ≡ true
indirect_of_code code is high = elim (or_cases (is_plain_code code) (is_indirect code) is) [
  | inl plain ↦ let not_so = none_from code high in absurd cc
  | inr indirect ↦ indirect
]

pub plain_within : (code : ℕ) → IsCode code → INDIRECT ≤ code → IsPlainCode (code - INDIRECT)
plain_within code is high =
    within_code (code - INDIRECT) (indirect_within (code - INDIRECT) (sym (indirect_from code high) ∙ indirect_of_code code is high))

-- The row of a code is that of a plain one, or of the indirect one that stands for it.
pub plain_side : (code : ℕ) → code < INDIRECT → (r : Option CondactRow) → SomeIff r (IsPlainCode code) (row_of_line (plain_line code))
    → SomeIff r (IsCode code) (condact_row_of code)
unfolding line_of
plain_side code low None none = λ is. none (plain_of_code code is low)
plain_side code low (Some row) (is, e) = (plain_is code is, rw (plain_below code low) e)

pub indirect_side : (code : ℕ) → INDIRECT ≤ code → (r : Option CondactRow)
    → SomeIff r (may_be_indirect (code - INDIRECT) ≡ true) (row_of_line (indirect_line (code - INDIRECT)))
    → SomeIff r (IsCode code) (condact_row_of code)
unfolding line_of
indirect_side code high None none = λ is. none (sym (indirect_from code high) ∙ indirect_of_code code is high)
indirect_side code high (Some row) (may, e) =
    let indirect = indirect_from code high ∙ may in
    (rw (none_from code high, indirect) refl, rw indirect e)

pub line_plain : (code : ℕ) → IsPlainCode code → line_of code ≡ plain_line code
unfolding line_of
line_plain code h = let within = code_within code h in rw (plain_below code (omega (arith, within))) refl

-- The plain code is what is left over 128.
pub plain_left : (code : ℕ) → IsCode code → plain_code code ≡ code % INDIRECT
plain_left code is = elim (cases_lt code INDIRECT) [
  | inl low ↦ let same : code % INDIRECT ≡ code = omega (arith, low) in rw (plain_below code low, same) refl
  | inr high ↦
      let small = code_small code is in
      let same : code % INDIRECT ≡ code - INDIRECT = omega (arith, high, small) in
      rw (indirect_of_code code is high, same) refl
]

pub plain_code_is : (code : ℕ) → IsCode code → IsPlainCode (code % INDIRECT)
plain_code_is code is = elim (cases_lt code INDIRECT) [
  | inl low ↦ let same : code % INDIRECT ≡ code = omega (arith, low) in rw same (plain_of_code code is low)
  | inr high ↦
      let small = code_small code is in
      let same : code % INDIRECT ≡ code - INDIRECT = omega (arith, high, small) in
      rw same (plain_within code is high)
]

-- The line of the plain code.
pub line_left : (code : ℕ) → IsCode code → plain_line (code % INDIRECT) ≡ line_of (plain_code code)
line_left code is = sym (ap line_of (plain_left code is) ∙ line_plain (code % INDIRECT) (plain_code_is code is))

alike : (b : Bool) (code : ℕ) → (if b then indirect_line (code - INDIRECT) else plain_line code).acts ≡ (plain_line (if b then code - INDIRECT else code)).acts
alike true code = refl
alike false code = refl

-- An indirect condact acts where the plain one does.
pub acts_alike : (code : ℕ) → (line_of code).acts ≡ (plain_line (plain_code code)).acts
unfolding line_of
acts_alike code = alike (is_indirect code) code

-- ---- what a test over all codes shows of each

unfoldable pub below : (ℕ → Bool) → ℕ → Bool
below test zero = true
below test (suc n) = test n && below test n

pub each_plain : (test : ℕ → Bool) → below test (length CONDACTS) ≡ true → (code : ℕ) → IsPlainCode code → test code ≡ true
unfolding below
each_plain test all code h =
    (Decides-below_and test (λ k. test k ≡ true) (below test) (λ k. (λ e. e, λ e. e)) refl (λ _. refl) (length CONDACTS)).0 all code (code_within code h)

after : (code : ℕ) (test : ℕ → Bool) → (not (is_code code) || test code) ≡ true → IsCode code → test code ≡ true
after code test h is = subst (λ b. (not b || test code) ≡ true) is h

pub each_code : (test : ℕ → Bool) → below (λ code. not (is_code code) || test code) 256 ≡ true → (code : ℕ) → IsCode code → test code ≡ true
unfolding below
each_code test all code h =
    after code test
    ((Decides-below_and (λ k. not (is_code k) || test k) (λ k. (not (is_code k) || test k) ≡ true) (below (λ k. not (is_code k) || test k))
    (λ k. (λ e. e, λ e. e)) refl (λ _. refl) 256).0 all code (code_small code h)) h

plain_names : below (λ code. not (is_code code) || (is_plain (name_of code))) 256 ≡ true
unfolding condact_lines plain_line line_of is_plain_code is_indirect below
plain_names = refl

-- A name has at most eight bytes, and no space.
pub is_plain-name_of : (code : ℕ) → IsCode code → is_plain (name_of code) ≡ true
is_plain-name_of = each_code (λ code. is_plain (name_of code)) plain_names

-- So the name is what stands in the row before the first space.
pub before_space-row_of : (code : ℕ) → IsCode code → before_space (condact_row_of code).name ≡ name_of code
before_space-row_of code h = before_space-filled_up (name_of code) (has_space-plain (name_of code) (is_plain-name_of code h))

some_name : below (λ code. not (is_code code) || (nat_lt 0 (length (name_of code)))) 256 ≡ true
unfolding condact_lines plain_line line_of is_plain_code is_indirect below
some_name = refl

-- A name has a byte.
pub length-name_of : (code : ℕ) → IsCode code → 0 < length (name_of code)
length-name_of code h = leb-true 1 (length (name_of code)) (each_code (λ k. nat_lt 0 (length (name_of k))) some_name code h)

letter_names : below (λ code. not (is_code code) || (list_all (λ byte. is_ascii_uppercase byte || is_ascii_digit byte) (name_of code))) 256 ≡ true
unfolding condact_lines plain_line line_of is_plain_code is_indirect below
letter_names = refl

-- A name has only capitals and digits.
pub letters-name_of : (code : ℕ) → IsCode code → list_all (λ byte. is_ascii_uppercase byte || is_ascii_digit byte) (name_of code) ≡ true
letters-name_of = each_code (λ code. list_all (λ byte. is_ascii_uppercase byte || is_ascii_digit byte) (name_of code)) letter_names

capital_names : below (λ code. not (is_code code) || (bytes_eq (name_of code) (capitals (name_of code)))) 256 ≡ true
unfolding condact_lines plain_line line_of is_plain_code is_indirect below
capital_names = refl

-- A name is read as it stands.
pub HasName-name_of : (code : ℕ) → IsPlainCode code → HasName code (name_of code)
HasName-name_of code h = (
  h,
  (bytes_eq-Decides (name_of code) (capitals (name_of code))).0
      (each_code (λ k. bytes_eq (name_of k) (capitals (name_of k))) capital_names code (plain_is code h)),
)

firsts_stand : below (λ code. not (is_code code) || (nat_le (param_count (second_kind code)) (param_count (first_kind code)))) 256 ≡ true
unfolding condact_lines plain_line line_of is_plain_code is_indirect below
firsts_stand = refl

-- A code with a second parameter has a first.
pub param_count-second_kind : (code : ℕ) → IsCode code → param_count (second_kind code) ≤ param_count (first_kind code)
param_count-second_kind code h =
    leb-true (param_count (second_kind code)) (param_count (first_kind code))
    (each_code (λ k. nat_le (param_count (second_kind k)) (param_count (first_kind k))) firsts_stand code h)

as_many_kinds : below (λ code. not (is_code code) || ((param_count (first_kind code) == param_count (first_kind (plain_code code)))
    && (param_count (second_kind code) == param_count (second_kind (plain_code code))))) 256 ≡ true
unfolding condact_lines plain_line line_of is_plain_code is_indirect below
as_many_kinds = refl

-- An indirect code has the parameters that its plain one has.
pub as_many : (code : ℕ) → IsCode code → (param_count (first_kind code) ≡ param_count (first_kind (plain_code code)))
    × (param_count (second_kind code) ≡ param_count (second_kind (plain_code code)))
as_many code h =
    let first = λ (k : ℕ). param_count (first_kind k) == param_count (first_kind (plain_code k)) in
    let second = λ (k : ℕ). param_count (second_kind k) == param_count (second_kind (plain_code k)) in
    let both = and_parts (first code) (second code) (each_code (λ k. first k && second k) as_many_kinds code h) in
    (eqb-true _ _ both.0, eqb-true _ _ both.1)
