-- The bytes of a wrapped text, one after another, and the text that they give back.
use Rattle.std.proofs.Common.{◌≡◌, ℕ, suc, true, eqb, List, [], ◌∷◌, map, set, refl, sym, ap, ◌∙◌}
use Rattle.std.proofs.lemmas.Bool.{eqb-true}
use Rattle.paw_base.specs.Bytes.{Bytes, Text}
use Rattle.paw_wrap.specs.FirstFit.{space, line_feed, breaks_from, with_byte}
use Rattle.paw_wrap.proofs.Breaking.{NextBreak, step, breaks_from-suc}

with_byte-suc : (c x : ℕ) (places : List ℕ) (bytes : Bytes) → with_byte c (map suc places) (x ∷ bytes) ≡ x ∷ with_byte c places bytes
with_byte-suc c x [] bytes = refl
with_byte-suc c x (at ∷ places) bytes = with_byte-suc c x places (set bytes at c)

-- The text wrapped, with this number of bytes before it in its line.
abbrev pub wrapped : ℕ → ℕ → Text → Text
wrapped w before text = with_byte line_feed (breaks_from w 0 before text) text

-- The offsets of the breaks after the first byte.
moved : (w before after b : ℕ) (bs : Bytes) → breaks_from w 0 before (b ∷ bs) ≡ breaks_from w 1 after bs
    → breaks_from w 0 before (b ∷ bs) ≡ map suc (breaks_from w 0 after bs)
moved w before after b bs r = r ∙ breaks_from-suc w 0 after bs

broken : (w before b : ℕ) (bs : Bytes) → breaks_from w 0 before (b ∷ bs) ≡ 0 ∷ breaks_from w 1 0 bs
    → breaks_from w 0 before (b ∷ bs) ≡ 0 ∷ map suc (breaks_from w 0 0 bs)
broken w before b bs r = r ∙ ap (λ (places : List ℕ). 0 ∷ places) (breaks_from-suc w 0 0 bs)

pub wrapped-kept : (w before after b : ℕ) (bs : Bytes) → breaks_from w 0 before (b ∷ bs) ≡ breaks_from w 1 after bs
    → wrapped w before (b ∷ bs) ≡ b ∷ wrapped w after bs
wrapped-kept w before after b bs r =
    ap (λ places. with_byte line_feed places (b ∷ bs)) (moved w before after b bs r)
    ∙ with_byte-suc line_feed b (breaks_from w 0 after bs) bs

pub wrapped-broken : (w before b : ℕ) (bs : Bytes) → breaks_from w 0 before (b ∷ bs) ≡ 0 ∷ breaks_from w 1 0 bs
    → wrapped w before (b ∷ bs) ≡ line_feed ∷ wrapped w 0 bs
wrapped-broken w before b bs r =
    ap (λ places. with_byte line_feed places (b ∷ bs)) (broken w before b bs r)
    ∙ with_byte-suc line_feed line_feed (breaks_from w 0 0 bs) bs

undone-kept : (w before after b : ℕ) (bs : Bytes) → breaks_from w 0 before (b ∷ bs) ≡ breaks_from w 1 after bs
    → with_byte space (breaks_from w 0 after bs) (wrapped w after bs) ≡ bs
    → with_byte space (breaks_from w 0 before (b ∷ bs)) (wrapped w before (b ∷ bs)) ≡ b ∷ bs
undone-kept w before after b bs r again =
    rw (wrapped-kept w before after b bs r, moved w before after b bs r)
    (with_byte-suc space b (breaks_from w 0 after bs) (wrapped w after bs) ∙ ap (λ (rest : Bytes). b ∷ rest) again)

undone-broken : (w before b : ℕ) (bs : Bytes) → eqb b space ≡ true → breaks_from w 0 before (b ∷ bs) ≡ 0 ∷ breaks_from w 1 0 bs
    → with_byte space (breaks_from w 0 0 bs) (wrapped w 0 bs) ≡ bs
    → with_byte space (breaks_from w 0 before (b ∷ bs)) (wrapped w before (b ∷ bs)) ≡ b ∷ bs
undone-broken w before b bs e r again =
    rw (wrapped-broken w before b bs r, broken w before b bs r)
    (with_byte-suc space space (breaks_from w 0 0 bs) (wrapped w 0 bs)
    ∙ ap (λ (rest : Bytes). space ∷ rest) again ∙ ap (λ c. c ∷ bs) (sym (eqb-true b space e)))

-- Spaces at the breaks give the text back.
pub undone : (w before : ℕ) (text : Text) → with_byte space (breaks_from w 0 before text) (wrapped w before text) ≡ text
unfolding breaks_from
undone w before [] = refl
undone w before (b ∷ bs) =
    elim (step w 0 before b bs) as (λ _. with_byte space (breaks_from w 0 before (b ∷ bs)) (wrapped w before (b ∷ bs)) ≡ b ∷ bs) [
      | NextBreak.ends_line e r ↦ undone-kept w before 0 b bs r (undone w 0 bs)
      | NextBreak.breaks e f g r ↦ undone-broken w before b bs f r (undone w 0 bs)
      | NextBreak.goes_on e f r ↦ undone-kept w before (suc before) b bs r (undone w (suc before) bs)
    ]
