-- Lines that come out, one after another.
use Rattle.std.proofs.Common.{◌≡◌, ℕ, suc, ◌<◌, ◌≤◌, ◌+◌, ◌-◌, ◌++◌, Bool, true, false, List, [], ◌∷◌, length, drop, get_or}
use Rattle.std.proofs.Common.{if◌then◌else◌, cond, filter, refl, sym, ap, ◌∙◌, add-one, drop-cons, append_assoc, append-nil, arith}
use Rattle.std.specs.List.{flat_map}
use Rattle.std.proofs.lemmas.List.{drop_all}
use Rattle.paw_author.specs.Fragments.{LinesInParts}
use Rattle.paw_author.specs.Hooks.{is_entry_for, lines_for, unit_lines}
use Rattle.paw_author.specs.Order.{is_own, own_lines, section_lines, sections}
use Rattle.paw_author.specs.Units.{UnitLines}

-- What comes out now, and the rest after it.
pub go_on : (before added rest all now : LinesInParts) → now ≡ before ++ added → before ++ (added ++ rest) ≡ all → now ++ rest ≡ all
go_on before added rest all now e f = rw e (append_assoc before added rest ∙ f)

-- Nothing is left.
pub at_last : (before rest all : LinesInParts) → rest ≡ [] → before ++ rest ≡ all → before ≡ all
at_last before rest all e f = sym (append-nil before) ∙ ap (λ (more : LinesInParts). before ++ more) (sym e) ∙ f

-- A unit of a list and those after it.
pub from_unit : (units : List UnitLines) (i : ℕ) (u : UnitLines) → u ≡ get_or units i u → i < length units
    → drop i units ≡ u ∷ drop (i + 1) units
from_unit units i u e h = rw (add-one) (drop-cons units i u h ∙ ap (λ (x : UnitLines). x ∷ drop (suc i) units) (sym e))

-- What a test lets through of one unit, and of those after it.
pub one_chosen : (p : UnitLines → Bool) (f : UnitLines → LinesInParts) (u : UnitLines) (us : List UnitLines)
    → flat_map f (filter p (u ∷ us)) ≡ (if p u then f u else []) ++ flat_map f (filter p us)
one_chosen p f u us =
    elim (p u) as (λ v. flat_map f (cond v (u ∷ filter p us) (filter p us)) ≡ (cond v (f u) []) ++ flat_map f (filter p us)) [
      | true ↦ refl
      | false ↦ refl
    ]

pub one_for : (name : List ℕ) (units : List UnitLines) (i : ℕ) (u : UnitLines) → u ≡ get_or units i u → i < length units
    → lines_for name (drop i units)
    ≡ (if is_entry_for name u then u.lines else []) ++ lines_for name (drop (i + 1) units)
one_for name units i u e h =
    ap (λ (us : List UnitLines). lines_for name us) (from_unit units i u e h)
    ∙ one_chosen (λ x. is_entry_for name x) (λ x. x.lines) u (drop (i + 1) units)

pub none_for : (name : List ℕ) (units : List UnitLines) (i : ℕ) → length units ≤ i → lines_for name (drop i units) ≡ []
none_for name units i h = rw (drop_all i units h) refl

pub one_own : (all : List UnitLines) (section file : ℕ) (units : List UnitLines) (i : ℕ) (u : UnitLines)
    → u ≡ get_or units i u → i < length units
    → own_lines all section file (drop i units)
    ≡ (if is_own section file u then unit_lines all u else []) ++ own_lines all section file (drop (i + 1) units)
one_own all section file units i u e h =
    ap (λ (us : List UnitLines). own_lines all section file us) (from_unit units i u e h)
    ∙ one_chosen (λ x. is_own section file x) (λ x. unit_lines all x) u (drop (i + 1) units)

pub none_own : (all : List UnitLines) (section file : ℕ) (units : List UnitLines) (i : ℕ) → length units ≤ i
    → own_lines all section file (drop i units) ≡ []
none_own all section file units i h = rw (drop_all i units h) refl

pub one_section : (most section files : ℕ) (all : List UnitLines) → section < most
    → sections (most - section) section files all
    ≡ section_lines files all section ++ sections (most - (section + 1)) (section + 1) files all
unfolding sections
one_section most section files all h =
    let more : most - section ≡ suc (most - suc section) = omega arith in
    rw (add-one, more) refl

pub no_section : (n section files : ℕ) (all : List UnitLines) → n ≡ 0 → sections n section files all ≡ []
unfolding sections
no_section n section files all e = rw e refl
