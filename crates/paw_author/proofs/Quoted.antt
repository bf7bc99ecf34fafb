-- The bytes of a text in quotes, one after another.
use Rattle.std.proofs.Common.{◌≡◌, ℕ, suc, ◌<◌, ◌≤◌, ◌+◌, ◌==◌, Bool, true, false, not, [], ◌∷◌, length, drop, get_or, if◌then◌else◌}
use Rattle.std.proofs.Common.{◌++◌, refl, sym, ap, ◌∙◌, add-one, drop-cons, eq-eqb, append_assoc, append-nil, arith}
use Rattle.std.proofs.lemmas.Bool.{eqb-true}
use Rattle.std.proofs.lemmas.List.{drop_all}
use Rattle.paw_base.specs.Bytes.{Bytes}
use Rattle.paw_author.specs.Parts.{quoted_len}
use Rattle.paw_author.specs.Tokens.{unquoted_from}

-- One byte more.
pub one_quoted : (inside : Bool) (text : Bytes) (i : ℕ) → i < length text
    → quoted_len inside (drop i text)
    ≡ (if get_or text i 0 == 34 then suc (quoted_len (not inside) (drop (i + 1) text))
    else if inside then suc (quoted_len inside (drop (i + 1) text)) else 0)
unfolding quoted_len
one_quoted inside text i h = rw (add-one, drop-cons text i 0) refl

-- No byte is left.
pub none_quoted : (inside : Bool) (text : Bytes) (i : ℕ) → length text ≤ i → quoted_len inside (drop i text) ≡ 0
unfolding quoted_len
none_quoted inside text i h = rw (drop_all i text h) refl

-- What one byte more says.
pub one_unquoted : (inside : Bool) (text : Bytes) (i : ℕ) → i < length text
    → unquoted_from inside (drop i text)
    ≡ (if not (get_or text i 0 == 34) then (if inside then get_or text i 0 ∷ unquoted_from inside (drop (i + 1) text) else [])
    else if inside then unquoted_from false (drop (i + 1) text)
    else get_or text i 0 ∷ unquoted_from true (drop (i + 1) text))
unfolding unquoted_from
one_unquoted inside text i h = rw (add-one, drop-cons text i 0) refl

-- No byte is left to say anything.
pub none_unquoted : (inside : Bool) (text : Bytes) (i : ℕ) → length text ≤ i → unquoted_from inside (drop i text) ≡ []
unfolding unquoted_from
none_unquoted inside text i h = rw (drop_all i text h) refl

differs : (a b : ℕ) → (a ≡ b → ⊥) → (a == b) ≡ false
differs a b h =
    elim (a == b) as (λ v. (a == b) ≡ v → v ≡ false) [
      | true ↦ λ e. absurd (h (eqb-true a b e))
      | false ↦ λ e. refl
    ] refl

-- A quote more.
pub quote_more : (n : ℕ) (inside next : Bool) (text : Bytes) (i all : ℕ) → i < length text → get_or text i 0 ≡ 34 → next ≡ not inside
    → n + quoted_len inside (drop i text) ≡ all → n + 1 + quoted_len next (drop (i + 1) text) ≡ all
quote_more n inside next text i all h q e f =
    let one : quoted_len inside (drop i text) ≡ suc (quoted_len (not inside) (drop (i + 1) text)) =
    one_quoted inside text i h ∙ rw (eq-eqb (get_or text i 0) 34 q) refl in
    rw e (omega arith)

-- Another byte more.
pub byte_more : (n : ℕ) (inside next : Bool) (text : Bytes) (i all : ℕ) → i < length text → (get_or text i 0 ≡ 34 → ⊥) → inside ≡ true
    → next ≡ inside → n + quoted_len inside (drop i text) ≡ all → n + 1 + quoted_len next (drop (i + 1) text) ≡ all
byte_more n inside next text i all h q t e f =
    let one : quoted_len inside (drop i text) ≡ suc (quoted_len inside (drop (i + 1) text)) =
    one_quoted inside text i h ∙ rw (differs (get_or text i 0) 34 q, t) refl in
    rw e (omega arith)

-- The text ended before this byte.
pub text_ended : (before : Bytes) (text : Bytes) (i : ℕ) (inside : Bool) (all : Bytes) → i < length text → (get_or text i 0 ≡ 34 → ⊥)
    → inside ≡ false → before ++ unquoted_from inside (drop i text) ≡ all → before ≡ all
text_ended before text i inside all h q e f =
    let none : unquoted_from inside (drop i text) ≡ [] =
    one_unquoted inside text i h ∙ rw (differs (get_or text i 0) 34 q, e) refl in
    sym (append-nil before) ∙ ap (λ (more : Bytes). before ++ more) (sym none) ∙ f

-- A byte of the text.
pub said_byte : (before now : Bytes) (text : Bytes) (i : ℕ) (inside next : Bool) (all : Bytes) → i < length text
    → (get_or text i 0 ≡ 34 → ⊥) → inside ≡ true → next ≡ inside → now ≡ before ++ get_or text i 0 ∷ []
    → before ++ unquoted_from inside (drop i text) ≡ all → now ++ unquoted_from next (drop (i + 1) text) ≡ all
said_byte before now text i inside next all h q t e g f =
    let one : unquoted_from inside (drop i text) ≡ get_or text i 0 ∷ unquoted_from inside (drop (i + 1) text) =
    one_unquoted inside text i h ∙ rw (differs (get_or text i 0) 34 q, t) refl in
    rw (g, e) (append_assoc before (get_or text i 0 ∷ []) (unquoted_from inside (drop (i + 1) text)))
    ∙ ap (λ (more : Bytes). before ++ more) (sym one) ∙ f

-- A quote that may end the text.
pub said_nothing : (before now : Bytes) (text : Bytes) (i : ℕ) (inside next : Bool) (all : Bytes) → i < length text
    → get_or text i 0 ≡ 34 → inside ≡ true → next ≡ false → now ≡ before
    → before ++ unquoted_from inside (drop i text) ≡ all → now ++ unquoted_from next (drop (i + 1) text) ≡ all
said_nothing before now text i inside next all h q t e g f =
    let one : unquoted_from inside (drop i text) ≡ unquoted_from false (drop (i + 1) text) =
    one_unquoted inside text i h ∙ rw (eq-eqb (get_or text i 0) 34 q, t) refl in
    rw (g, e) (ap (λ (more : Bytes). before ++ more) (sym one)) ∙ f

-- A second quote stands for one.
pub said_quote : (before now : Bytes) (text : Bytes) (i : ℕ) (inside next : Bool) (all : Bytes) → i < length text
    → get_or text i 0 ≡ 34 → inside ≡ false → next ≡ true → now ≡ before ++ get_or text i 0 ∷ []
    → before ++ unquoted_from inside (drop i text) ≡ all → now ++ unquoted_from next (drop (i + 1) text) ≡ all
said_quote before now text i inside next all h q t e g f =
    let one : unquoted_from inside (drop i text) ≡ get_or text i 0 ∷ unquoted_from true (drop (i + 1) text) =
    one_unquoted inside text i h ∙ rw (eq-eqb (get_or text i 0) 34 q, t) refl in
    rw (g, e) (append_assoc before (get_or text i 0 ∷ []) (unquoted_from true (drop (i + 1) text)))
    ∙ ap (λ (more : Bytes). before ++ more) (sym one) ∙ f
