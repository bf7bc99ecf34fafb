-- A table of marks, as verbs are marked one by one.
use Rattle.std.proofs.Common.{ℕ, ◌<◌, Bool, true, false, List, [], ◌∷◌, length, replicate, refl, sym, ◌∙◌, inl, inr}
use Rattle.std.proofs.Common.{arith, set}
use Rattle.std.proofs.lemmas.Bool.{eq-eqb, ne_eqb, cases_eq}
use Rattle.std.proofs.lemmas.List.{length-replicate, get_or-replicate, length-set, get_or-set_same, get_or-set_other}
use Rattle.paw_image.specs.inner.Marks.{Marks}

pub no_marks : Marks (replicate 256 false) []
no_marks = record { long = length-replicate 256 false; each = λ v h. get_or-replicate 256 v false false h }

pub one_more : (marks : List Bool) (verbs : List ℕ) (v : ℕ) → Marks marks verbs → Marks (set marks v true) (v ∷ verbs)
one_more marks verbs v m = record {
  long = length-set marks v true ∙ m.long;
  each = λ u h. elim (cases_eq u v) [
    | inl e ↦ let within : v < length marks = omega (arith, m.long) in rw (e, get_or-set_same marks v true false within, eq-eqb v v refl) refl
    | inr ne ↦ rw (get_or-set_other marks v u true false ne, ne_eqb v u (λ same. ne (sym same))) (m.each u h)
  ];
}
