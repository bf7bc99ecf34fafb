-- The lines of a text are the text and a line end.
use Rattle.std.proofs.Common.{◌≡◌, ℕ, ◌<◌, true, false, eqb, cond, [], ◌∷◌, length, refl, sym, ap, ◌∙◌, arith}
use Rattle.std.specs.List.{slice_split, onto_first}
use Rattle.std.proofs.lemmas.Bool.{eqb-true}
use Rattle.std.proofs.lemmas.List.Splits.{length-slice_split}
use Rattle.paw_base.specs.Bytes.{Lines, Text}
use Rattle.paw_print.specs.Lines.{lines_of_text}
use Rattle.paw_print.specs.Canonical.{with_line_end, with_line_ends}

written-onto_first : (b : ℕ) (ls : Lines) → 0 < length ls → with_line_ends (onto_first b ls) ≡ b ∷ with_line_ends ls
written-onto_first b [] h = absurd (omega arith)
written-onto_first b (l ∷ ls) h = refl

written-slice_split : (s : Text) → with_line_ends (slice_split (λ c. eqb c 10) s) ≡ with_line_end s
written-slice_split [] = refl
written-slice_split (b ∷ bs) =
    elim (eqb b 10) as (λ v. eqb b 10 ≡ v
    → with_line_ends (cond v ([] ∷ slice_split (λ c. eqb c 10) bs) (onto_first b (slice_split (λ c. eqb c 10) bs)))
    ≡ b ∷ with_line_end bs) [
      | true ↦ λ e. ap (λ (t : Text). 10 ∷ t) (written-slice_split bs) ∙ ap (λ c. c ∷ with_line_end bs) (sym (eqb-true b 10 e))
      | false ↦ λ e.
          written-onto_first b (slice_split (λ c. eqb c 10) bs) (omega (arith, length-slice_split (λ c. eqb c 10) bs))
          ∙ ap (λ (t : Text). b ∷ t) (written-slice_split bs)
    ] refl

pub written-lines_of_text : (text : Text) → eqb (length text) 0 ≡ false → with_line_ends (lines_of_text text) ≡ with_line_end text
written-lines_of_text [] h = absurd cc
written-lines_of_text (b ∷ bs) h = written-slice_split (b ∷ bs)
