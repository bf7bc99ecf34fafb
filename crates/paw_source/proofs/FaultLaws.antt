-- The fault that is named is that of the first line with one.
use Rattle.std.proofs.Common.{◌≡◌, ℕ, suc, ◌+◌, ◌≤◌, ◌⊎◌, inl, inr, true, false, cond, [], ◌∷◌, ◌++◌, length}
use Rattle.std.proofs.Common.{Result, Ok, Err, refl, sym, ap, ◌∙◌, arith}
use Rattle.std.specs.Prelude.{nat_lt}
use Rattle.std.specs.List.{count_by}
use Rattle.std.proofs.lemmas.Bool.Decides.{nat_tests}
use Rattle.paw_base.specs.Bytes.{Bytes, Line, Lines}
use Rattle.paw_base.specs.declared.limits.TheConstants.{SOURCE_LIMIT, IMAGE_LIMIT, TABLE_LEAST}
use Rattle.paw_base.specs.declared.fault.SourceKind.{SourceKind}
use Rattle.paw_base.specs.declared.fault.SourceKind.TheVariants as kind
use Rattle.paw_base.specs.declared.fault.SourceFault.{SourceFault}
use Rattle.paw_game.specs.Image.{image}
use Rattle.paw_lex.specs.Lines.{lines_of}
use Rattle.paw_read_error.specs.Bind.{◌>>=◌}
use Rattle.paw_grammar.specs.GrammarState.{Spelt, nothing_yet, game_of}
use Rattle.paw_grammar.specs.Spells.{after_line, begins_table, fault, at_line, whole, spelled_after, game_spelled}
use Rattle.paw_source.specs.inner.Laws.{after_lines, HasFault, HasNone, NamesTheFirst, IsNamedRightly}

found : (p n : ℕ) (d : Spelt) (before : Lines) (line : Line) (behind : Lines) (e : Spelt)
    (k : SourceKind) → after_lines p d before ≡ Ok e → after_line p e line ≡ Err k
    → spelled_after p n d (before ++ line ∷ behind) ≡ Err (fault (suc (n + length before)) k)
unfolding spelled_after after_lines
found p n d [] line behind e k none here =
    let same : d ≡ e = cc in
    let also : after_line p d line ≡ Err k = ap (λ (x : Spelt). after_line p x line) same ∙ here in
    let number : suc n ≡ suc (n + 0) = omega arith in
    rw also (ap (λ (m : ℕ). Err (fault m k)) number)
found p n d (l ∷ before) line behind e k none here =
    let number : suc (suc n + length before) ≡ suc (n + length (l ∷ before)) = omega arith in
    elim (after_line p d l) as (λ r. (r >>= λ x. after_lines p x before) ≡ Ok e
    → at_line (suc n) r (λ x. spelled_after p (suc n) x (before ++ line ∷ behind))
    ≡ Err (fault (suc (n + length (l ∷ before))) k)) [
      | Ok x ↦ λ h. found p (suc n) x before line behind e k h here ∙ ap (λ (m : ℕ). Err (fault m k)) number
      | Err j ↦ λ h. absurd cc
    ] none

-- A source that isn't too long is read line by line.
short : (source : Bytes) → length source ≤ SOURCE_LIMIT
    → game_spelled source ≡ spelled_after (count_by begins_table (lines_of source)) 0 nothing_yet (lines_of source)
unfolding game_spelled
short source h =
    let no : nat_lt SOURCE_LIMIT (length source) ≡ false = grind (arith, nat_tests, h) in
    rw no refl

pub names_the_first : NamesTheFirst
names_the_first source n k small h =
    let p = count_by begins_table (lines_of source) in
    let number : suc (0 + length h.before) ≡ suc n = let q = h.number in omega (arith, q) in
    short source small
    ∙ ap (spelled_after (count_by begins_table (lines_of source)) 0 nothing_yet) h.parts
    ∙ found (count_by begins_table (lines_of source)) 0 nothing_yet h.before h.line h.after h.draft k h.no_fault h.fault
    ∙ ap (λ (m : ℕ). Err (fault m k)) number

err_is : {A E : Type 0} (x y : E) → ◌≡◌ {A = Result A E} (Err x) (Err y) → x ≡ y
err_is {A} {E} x y h = cc

abbrev Named : ℕ → ℕ → Spelt → Lines → SourceFault → Type 0
Named p n d ls f = ((m : ℕ) × (f.line ≡ suc (n + m)) × HasFault p d ls m f.kind) ⊎ ((f.line ≡ suc (n + length ls)) × HasNone p d ls)

-- At the end no line had a fault.
ended : (n : ℕ) (d : Spelt) (f : SourceFault) → whole n d ≡ Err f → f.line ≡ suc n
ended n d f h =
    elim (nat_lt (length d.tables) TABLE_LEAST) as
    (λ b. cond b (Err (fault (suc n) kind.Missing))
    (cond (nat_lt IMAGE_LIMIT (length (image (game_of d)))) (Err (fault (suc n) kind.TooBig)) (Ok (game_of d)))
    ≡ Err f → f.line ≡ suc n) [
      | true ↦ λ g. ap (λ (x : SourceFault). x.line) (sym (err_is (fault (suc n) kind.Missing) f g))
      | false ↦ λ g. elim (nat_lt IMAGE_LIMIT (length (image (game_of d)))) as
          (λ b. cond b (Err (fault (suc n) kind.TooBig)) (Ok (game_of d)) ≡ Err f → f.line ≡ suc n) [
            | true ↦ λ i. ap (λ (x : SourceFault). x.line) (sym (err_is (fault (suc n) kind.TooBig) f i))
            | false ↦ λ i. absurd cc
          ] g
    ] h

named : (p n : ℕ) (d : Spelt) (ls : Lines) (f : SourceFault) → spelled_after p n d ls ≡ Err f → Named p n d ls f
unfolding spelled_after after_lines
named p n d [] f h =
    let at = ended n d f h in
    inr (omega (arith, at), record { draft = d; no_fault = refl })
named p n d (l ∷ ls) f h =
    elim (after_line p d l) as (λ r. after_line p d l ≡ r → at_line (suc n) r (λ x. spelled_after p (suc n) x ls) ≡ Err f → Named p n d (l ∷ ls) f) [
      | Err j ↦ λ e g.
          let same = err_is (fault (suc n) j) f g in
          let at = ap (λ (x : SourceFault). x.line) same in
          inl (
            0,
            omega (arith, at),
            record {
              before = [];
              line = l;
              after = ls;
              draft = d;
              parts = refl;
              number = refl;
              no_fault = refl;
              fault = e ∙ ap (λ (x : SourceFault). Err x.kind) same;
            },
          )
      | Ok x ↦ λ e g. elim (named p (suc n) x ls f g) [
        | inl a ↦
            let at = a.1 in
            let some = a.2 in
            inl (
              suc a.0,
              omega (arith, at),
              record {
                before = l ∷ some.before;
                line = some.line;
                after = some.after;
                draft = some.draft;
                parts =
                    ap (λ (y : Lines). l ∷ y) some.parts;
                number = ap suc some.number;
                no_fault =
                    rw e some.no_fault;
                fault = some.fault;
              },
            )
        | inr b ↦
            let at = b.0 in
            inr (omega (arith, at), record { draft = b.1.draft; no_fault = rw e b.1.no_fault })
      ]
    ] refl h

pub is_named_rightly : IsNamedRightly
is_named_rightly source f small h =
    elim (named (count_by begins_table (lines_of source)) 0 nothing_yet (lines_of source) f (sym (short source small) ∙ h)) [
      | inl a ↦ let at = a.1 in inl (a.0, omega (arith, at), a.2)
      | inr b ↦ let at = b.0 in inr (omega (arith, at), b.1)
    ]
