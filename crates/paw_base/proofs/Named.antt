-- The code of a name.
use Rattle.std.proofs.Common.{◌≡◌, ℕ, ◌<◌, ◌==◌, Bool, true, false, not, ◌&&◌, List, [], ◌∷◌, length, map, refl, sym}
use Rattle.std.proofs.Common.{ap, ◌∙◌}
use Rattle.std.proofs.Common.{Option, Some, None, option_map, unwrap_or, subst, bytes_eq}
use Rattle.std.specs.List.{position, prefix_len, list_all}
use Rattle.std.proofs.lemmas.Bool.Decides.{Decides-eqb}
use Rattle.std.proofs.lemmas.Slice.Eq.{bytes_eq-Decides}
use Rattle.std.proofs.lemmas.List.Quantifiers.{position-Some}
use Rattle.std.proofs.Math.ListN.{length-map}
use Rattle.paw_base.specs.Bytes.{Name}
use Rattle.paw_base.proofs.Filled.{has_space, has_space-plain, bytes_eq-filled_up, is_plain-capitals}
use Rattle.paw_base.proofs.Table.{held, CONDACTS_are, length-condact_lines, within_code, below, each_plain, plain_is}
use Rattle.paw_base.proofs.Table.{line_plain, is_plain-name_of, HasName-name_of}
use Rattle.paw_base.specs.declared.rows.TheConstants.{CONDACTS}
use Rattle.paw_base.specs.Condacts.{CondactLine, no_line, condact_lines, plain_line, line_of, name_of, capitals}
use Rattle.paw_base.specs.Condacts.{code_named, is_indirect}
use Rattle.paw_base.specs.inner.Condacts.{filled_up, HasName, IsPlainCode, is_plain}

abbrev code_with : Name → Option ℕ
code_with name = position (λ line. bytes_eq line.name name) condact_lines

-- ---- no two codes have one name

is_own : ℕ → Bool
is_own code = unwrap_or (option_map (λ found. found == code) (code_with (name_of code))) false

own_names : below is_own (length CONDACTS) ≡ true
unfolding condact_lines plain_line line_of is_indirect below is_own
own_names = refl

own_from : (found : Option ℕ) (code : ℕ) → unwrap_or (option_map (λ n. n == code) found) false ≡ true → found ≡ Some code
own_from None code h = cc
own_from (Some n) code h = ap Some ((Decides-eqb n code).0 h)

code_with-name_of : (code : ℕ) → IsPlainCode code → code_with (name_of code) ≡ Some code
unfolding is_own
code_with-name_of code h = own_from (code_with (name_of code)) code (each_plain is_own own_names code h)

pub code_named_only : (code : ℕ) (name : Name) → HasName code name → code_named name ≡ Some code
code_named_only code name h = ap code_with (sym h.1) ∙ code_with-name_of code h.0

pub code_named-name_of : (code : ℕ) → IsPlainCode code → code_named (name_of code) ≡ Some code
code_named-name_of code h = code_named_only code (name_of code) (HasName-name_of code h)

pub code_named_found : (name : Name) (code : ℕ) → code_named name ≡ Some code → HasName code name
unfolding plain_line
code_named_found name code e =
    let p = position-Some (λ line. bytes_eq line.name (capitals name)) condact_lines code no_line e in
    let plain = within_code code (subst (λ (n : ℕ). code < n) length-condact_lines p.0) in
    (plain, ap (λ (l : CondactLine). l.name) (line_plain code plain) ∙ (bytes_eq-Decides (plain_line code).name (capitals name)).0 p.1)

-- ---- the search among the names that are filled up

both : (a b : Bool) → (a && b) ≡ true → (a ≡ true) × (b ≡ true)
both true b h = (refl, h)
both false b h = cc

plain_lines : List CondactLine → Bool
plain_lines lines = list_all (λ line. is_plain line.name) lines

condact_lines_plain : plain_lines condact_lines ≡ true
unfolding condact_lines plain_lines
condact_lines_plain = refl

prefix_len-held : (name : Name) (lines : List CondactLine) → has_space name ≡ false → plain_lines lines ≡ true
    → prefix_len (λ row. not (bytes_eq row.0 (filled_up name))) (map held lines) ≡ prefix_len (λ line. not (bytes_eq line.name name)) lines
unfolding plain_lines
prefix_len-held name [] h all = refl
prefix_len-held name (line ∷ lines) h all =
    let two = both (is_plain line.name) (plain_lines lines) all in
    rw (bytes_eq-filled_up line.name name (has_space-plain line.name two.0) h, prefix_len-held name lines h two.1) refl

pub code_of_filled_up : (name : Name) → is_plain name ≡ true → position (λ row. bytes_eq row.0 (filled_up (capitals name))) CONDACTS ≡ code_named name
code_of_filled_up name h =
    let none = has_space-plain (capitals name) (is_plain-capitals name ∙ h) in
    ap (λ rows. position (λ row. bytes_eq row.0 (filled_up (capitals name))) rows) CONDACTS_are
    ∙ rw (prefix_len-held (capitals name) condact_lines none condact_lines_plain, length-map condact_lines held) refl

none_unless : (found : Option ℕ) → ((code : ℕ) → found ≡ Some code → ⊥) → found ≡ None
none_unless None h = refl
none_unless (Some code) h = absurd (h code refl)

has_no_code : (name : Name) → is_plain name ≡ false → (code : ℕ) → code_named name ≡ Some code → ⊥
has_no_code name h code e =
    let has = code_named_found name code e in
    let plain : is_plain (capitals name) ≡ true = subst (λ (s : Name). is_plain s ≡ true) has.1 (is_plain-name_of code (plain_is code has.0)) in
    let capital = is_plain-capitals name in
    cc

pub no_code : (name : Name) → is_plain name ≡ false → code_named name ≡ None
no_code name h = none_unless (code_named name) (has_no_code name h)
