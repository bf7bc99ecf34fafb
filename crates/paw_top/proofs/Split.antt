-- The lines of a text, joined again, and what they may hold.
use Rattle.std.proofs.Common.{◌≡◌, ℕ, Bool, true, false, not, ◌&&◌, eqb, cond, List, [], ◌∷◌, ◌++◌, refl, sym, ap, ◌∙◌}
use Rattle.std.proofs.Common.{inl, inr}
use Rattle.std.specs.List.{list_all, flat_map, slice_split, onto_first}
use Rattle.std.proofs.lemmas.Bool.{and_parts, and_from, or_cases, or_parts, eqb-true, not-true, false≢true}
use Rattle.paw_base.specs.Bytes.{Line, Text}
use Rattle.paw_game.specs.Valid.{is_within, is_text_byte, begins_no_line, is_printed}
use Rattle.paw_lex.specs.Bytes.{is_printed_byte as is_print, is_comment}
use Rattle.paw_grammar.specs.Spells.{begins_with_slash}

-- Lines with an LF between each two.
abbrev pub rejoined : List Line → Text
rejoined [] = []
rejoined (l ∷ ls) = l ++ flat_map (λ m. 10 ∷ m) ls

-- The bytes between line ends.
abbrev pub split : Text → List Line
split s = slice_split (λ c. eqb c 10) s

-- Lines, one at least.
pub data HasLine (ls : List Line) : Type 0 where
  has_line : (l : Line) (ms : List Line) → ls ≡ l ∷ ms → HasLine ls

onto_some : (b : ℕ) (ls : List Line) → HasLine ls → HasLine (onto_first b ls)
onto_some b ls (has_line l ms e) = has_line (b ∷ l) ms (ap (onto_first b) e)

pub split_some : (s : Text) → HasLine (split s)
split_some [] = has_line [] [] refl
split_some (b ∷ bs) =
    elim (eqb b 10) as (λ v. HasLine (cond v ([] ∷ split bs) (onto_first b (split bs)))) [
      | true ↦ has_line [] (split bs) refl
      | false ↦ onto_some b (split bs) (split_some bs)
    ]

rejoined-end : (ls : List Line) → HasLine ls → rejoined ([] ∷ ls) ≡ 10 ∷ rejoined ls
rejoined-end ls (has_line l ms e) = rw e refl

rejoined-onto : (b : ℕ) (ls : List Line) → HasLine ls → rejoined (onto_first b ls) ≡ b ∷ rejoined ls
rejoined-onto b ls (has_line l ms e) = rw e refl

pub rejoined-split : (s : Text) → rejoined (split s) ≡ s
rejoined-split [] = refl
rejoined-split (b ∷ bs) =
    elim (eqb b 10) as (λ v. eqb b 10 ≡ v → rejoined (cond v ([] ∷ split bs) (onto_first b (split bs))) ≡ b ∷ bs) [
      | true ↦ λ e. rejoined-end (split bs) (split_some bs) ∙ ap (λ (t : Text). 10 ∷ t) (rejoined-split bs) ∙ ap (λ c. c ∷ bs) (sym (eqb-true b 10 e))
      | false ↦ λ e. rejoined-onto b (split bs) (split_some bs) ∙ ap (λ (t : Text). b ∷ t) (rejoined-split bs)
    ] refl

-- ---- the bytes of a line ----

-- No `/` and no `;` begins a line.
abbrev pub begins_well : Line → Bool
begins_well [] = true
begins_well (b ∷ bs) = not (begins_no_line b)

-- A line of a text.
abbrev pub is_line : Line → Bool
is_line l = list_all is_print l && begins_well l

-- Lines of which the first may be the rest of a line.
record Lines (first : Bool) (ls : List Line) : Type 0 where
  head : Line
  others : List Line
  are : ls ≡ head ∷ others
  printed : list_all is_print head ≡ true
  begins : first ≡ true → begins_well head ≡ true
  rest : list_all is_line others ≡ true

text_byte : (b : ℕ) → eqb b 10 ≡ false → is_text_byte b ≡ true → is_print b ≡ true
text_byte b other h = elim (or_cases (is_within 32 126 b) (eqb b 10) h) [ inl is ↦ is | inr is ↦ absurd (false≢true (sym other ∙ is)) ]

begins_here : (first : Bool) (b : ℕ) → not (first && begins_no_line b) ≡ true → first ≡ true → not (begins_no_line b) ≡ true
begins_here true b h e = h
begins_here false b h e = absurd (false≢true e)

all_lines : (ls : List Line) → Lines true ls → list_all is_line ls ≡ true
all_lines ls n = rw n.are (and_from _ _ (and_from _ _ n.printed (n.begins refl)) n.rest)

lines_onto : (first : Bool) (b : ℕ) (ls : List Line) → is_print b ≡ true →
    (first ≡ true → not (begins_no_line b) ≡ true) → Lines false ls → Lines first (onto_first b ls)
lines_onto first b ls printed begins n = record {
  head = b ∷ n.head;
  others = n.others;
  are = ap (onto_first b) n.are;
  printed = and_from _ _ printed n.printed;
  begins = begins;
  rest = n.rest;
}

split_lines : (first : Bool) (s : Text) → is_printed first s ≡ true → Lines first (split s)
split_lines first [] h = record { head = []; others = []; are = refl; printed = refl; begins = λ e. refl; rest = refl }
split_lines first (b ∷ bs) h =
    let both = and_parts (is_text_byte b && not (first && begins_no_line b)) (is_printed (eqb b 10) bs) h in
    let here = and_parts (is_text_byte b) (not (first && begins_no_line b)) both.0 in
    elim (eqb b 10) as (λ v. eqb b 10 ≡ v → is_printed v bs ≡ true → Lines first (cond v ([] ∷ split bs) (onto_first b (split bs)))) [
      | true ↦ λ e g. record {
        head = [];
        others = split bs;
        are = refl;
        printed = refl;
        begins = λ f. refl;
        rest = all_lines (split bs) (split_lines true bs g);
      }
      | false ↦ λ e g. lines_onto first b (split bs) (text_byte b e here.0) (begins_here first b here.1) (split_lines false bs g)
    ] refl both.1

-- The lines of a text are printed, and none begins with `/` or `;`.
pub split_is_lines : (s : Text) → is_printed true s ≡ true → list_all is_line (split s) ≡ true
split_is_lines s h = all_lines (split s) (split_lines true s h)

-- What a line of a text is.
pub record TextLine (l : Line) : Type 0 where
  pub printed : list_all is_print l ≡ true
  pub slash : begins_with_slash l ≡ false
  pub comment : is_comment l ≡ false

text_line_begins : (l : Line) → begins_well l ≡ true → (begins_with_slash l ≡ false) × (is_comment l ≡ false)
text_line_begins [] h = (refl, refl)
text_line_begins (b ∷ bs) h = or_parts (eqb b 47) (eqb b 59) (not-true _ h)

pub text_line_is : (l : Line) → is_line l ≡ true → TextLine l
text_line_is l h =
    let both = and_parts (list_all is_print l) _ h in
    let begins = text_line_begins l both.1 in
    record { printed = both.0; slash = begins.0; comment = begins.1 }
