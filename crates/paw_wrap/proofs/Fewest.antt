-- No choice of breaks at which each line fits has fewer than first fit.
use Rattle.std.proofs.Common.{◌≡◌, ℕ, zero, suc, ◌<◌, ◌≤◌, ◌+◌, ◌⊎◌, true, false, eqb, List, [], ◌∷◌, Some, length, set}
use Rattle.std.proofs.Common.{refl, sym, ap, ◌∙◌, inl, inr, add-zero, zero-add, arith}
use Rattle.std.specs.Prelude.{⊤, slice_get, unwrap_or}
use Rattle.std.specs.List.{onto_first}
use Rattle.std.proofs.lemmas.Bool.{or_right}
use Rattle.paw_base.specs.Bytes.{Bytes, Text}
use Rattle.paw_wrap.specs.FirstFit.{space, line_feed, word_length, breaks_from, with_byte, AreSpaces, AreFewest}
use Rattle.paw_wrap.proofs.Breaking.{NextBreak, step, breaks_from-empty, word_length-cons}
use Rattle.paw_wrap.proofs.LineWidths.{lines, has_space, first_line, lines-line_feed, lines-other, first_line-onto}
use Rattle.paw_wrap.proofs.LineWidths.{drop-onto, FitsBehind, fits_behind}

-- The bytes are those of the text, except that at most n spaces became LFs.
abbrev pub Broken : Text → Bytes → ℕ → Type 0
Broken [] [] n = ⊤
Broken [] (c ∷ cs) n = ⊥
Broken (b ∷ bs) [] n = ⊥
Broken (b ∷ bs) (c ∷ cs) n =
    ((b ≡ c) × Broken bs cs n) ⊎ ((m : ℕ) × (m < n) × (b ≡ space) × (c ≡ line_feed) × Broken bs cs m)

unbroken : (text : Text) → Broken text text 0
unbroken [] = tt
unbroken (b ∷ bs) = inl (refl, unbroken bs)

broken_once : (text bytes : Bytes) (n at : ℕ) → Broken text bytes n → slice_get text at ≡ Some space
    → Broken text (set bytes at line_feed) (suc n)
broken_once [] [] n at broken here = tt
broken_once [] (c ∷ cs) n at broken here = absurd broken
broken_once (b ∷ bs) [] n at broken here = absurd broken
broken_once (b ∷ bs) (c ∷ cs) n zero (inl (same, more)) here = inr (n, omega arith, ap (λ o. unwrap_or o 0) here, refl, more)
broken_once (b ∷ bs) (c ∷ cs) n zero (inr (m, less, was, lf, more)) here = inr (m, omega (arith, less), was, refl, more)
broken_once (b ∷ bs) (c ∷ cs) n (suc at) (inl (same, more)) here = inl (same, broken_once bs cs n at more here)
broken_once (b ∷ bs) (c ∷ cs) n (suc at) (inr (m, less, was, lf, more)) here =
    inr (suc m, omega (arith, less), was, lf, broken_once bs cs m at more here)

broken_at : (text bytes : Bytes) (choice : List ℕ) (n : ℕ) → Broken text bytes n → AreSpaces text choice
    → Broken text (with_byte line_feed choice bytes) (n + length choice)
broken_at text bytes [] n broken spaces = rw (add-zero n) broken
broken_at text bytes (at ∷ choice) n broken spaces =
    let count : n + suc (length choice) ≡ suc n + length choice = omega arith in
    rw count (broken_at text (set bytes at line_feed) choice (suc n) (broken_once text bytes n at broken spaces.0) spaces.1)

-- The first word of a text stands in the first line of what was broken.
word_whole : (text bytes : Bytes) (n : ℕ) → Broken text bytes n → word_length text ≤ length (first_line (lines bytes))
word_whole [] bytes n broken = omega arith
word_whole (b ∷ bs) [] n broken = absurd broken
word_whole (b ∷ bs) (c ∷ cs) n broken =
    elim (word_length-cons b bs) as (λ _. word_length (b ∷ bs) ≤ length (first_line (lines (c ∷ cs)))) [
      | inl none ↦ rw none (omega arith)
      | inr word ↦ elim broken as (λ _. word_length (b ∷ bs) ≤ length (first_line (lines (c ∷ cs)))) [
        | inl same ↦
            let line : lines (c ∷ cs) ≡ onto_first c (lines cs) = lines-other c cs (ap (λ x. eqb x line_feed) (sym same.0) ∙ word.1) in
            rw (word.2, line, first_line-onto c (lines cs)) (omega (arith, word_whole bs cs n same.1))
        | inr other ↦ absurd (let never : eqb b space ≡ true = ap (λ x. eqb x space) other.2 in cc)
      ]
    ]

-- What an LF or a further byte leaves of lines that fit.
after_line_feed : (w before b : ℕ) (bs : Bytes) → eqb b line_feed ≡ true → FitsBehind w before (lines (b ∷ bs)) → FitsBehind w 0 (lines bs)
after_line_feed w before b bs e fit =
    let here : FitsBehind w before ([] ∷ lines bs) = rw (lines-line_feed b bs e) at fit in
    fits_behind w (lines bs) here.rest

first_line-other : (b : ℕ) (bs : Bytes) → eqb b line_feed ≡ false → first_line (lines (b ∷ bs)) ≡ b ∷ first_line (lines bs)
first_line-other b bs e = ap first_line (lines-other b bs e) ∙ first_line-onto b (lines bs)

after_other : (w before b : ℕ) (bs : Bytes) → eqb b line_feed ≡ false → FitsBehind w before (lines (b ∷ bs)) → FitsBehind w (suc before) (lines bs)
after_other w before b bs e fit =
    let size : length (first_line (lines (b ∷ bs))) ≡ suc (length (first_line (lines bs))) = ap length (first_line-other b bs e) in
    record {
      first = λ some. omega (arith, size, fit.first (ap has_space (first_line-other b bs e) ∙ or_right (eqb b space) _ some));
      rest = rw (lines-other b bs e, drop-onto b (lines bs)) at fit.rest;
    }

-- A space that first fit breaks at, in a line that begins no later, doesn't stay a space where lines fit.
too_long : (w before other c n : ℕ) (bs cs : Bytes) → eqb c line_feed ≡ false → eqb c space ≡ true → before ≤ other
    → w < before + 1 + word_length bs → Broken bs cs n → FitsBehind w other (lines (c ∷ cs)) → ⊥
too_long w before other c n bs cs e f begun long broken fit =
    let size : length (first_line (lines (c ∷ cs))) ≡ suc (length (first_line (lines cs))) = ap length (first_line-other c cs e) in
    let some : has_space (first_line (lines (c ∷ cs))) ≡ true = ap has_space (first_line-other c cs e) ∙ rw f refl in
    omega (arith, size, fit.first some, word_whole bs cs n broken)

-- The lines of the other choice fit. Its line began no later than first fit's, or it has a break in first fit's line.
fewest : (w at before other ahead n : ℕ) (text bytes : Bytes) → Broken text bytes n → (before ≤ other) ⊎ (1 ≤ ahead)
    → FitsBehind w other (lines bytes) → length (breaks_from w at before text) ≤ n + ahead
fewest w at before other ahead n [] bytes broken begun fit = rw (breaks_from-empty w at before) (omega arith)
fewest w at before other ahead n (b ∷ bs) [] broken begun fit = absurd broken
fewest w at before other ahead n (b ∷ bs) (c ∷ cs) (inl (same, more)) begun fit =
    elim (step w at before b bs) as (λ _. length (breaks_from w at before (b ∷ bs)) ≤ n + ahead) [
      | NextBreak.ends_line e r ↦
          rw r (fewest w (suc at) 0 0 ahead n bs cs more (inl (omega arith)) (after_line_feed w other c cs (ap (λ x. eqb x line_feed) (sym same) ∙ e) fit))
      | NextBreak.breaks e f g r ↦
          let line : eqb c line_feed ≡ false = ap (λ x. eqb x line_feed) (sym same) ∙ e in
          let blank : eqb c space ≡ true = ap (λ x. eqb x space) (sym same) ∙ f in
          rw r (elim begun as (λ _. suc (length (breaks_from w (suc at) 0 bs)) ≤ n + ahead) [
            | inl k ↦ absurd (too_long w before other c n bs cs line blank k g more fit)
            | inr one ↦
                omega (arith, one, fewest w (suc at) 0 (suc other) 0 n bs cs more (inl (omega arith)) (after_other w other c cs line fit))
          ])
      | NextBreak.goes_on e f r ↦
          let line : eqb c line_feed ≡ false = ap (λ x. eqb x line_feed) (sym same) ∙ e in
          let still : (suc before ≤ suc other) ⊎ (1 ≤ ahead) =
          elim begun as (λ _. (suc before ≤ suc other) ⊎ (1 ≤ ahead)) [
            | inl k ↦ inl (omega (arith, k))
            | inr one ↦ inr one
          ] in
          rw r (fewest w (suc at) (suc before) (suc other) ahead n bs cs more still (after_other w other c cs line fit))
    ]
fewest w at before other ahead n (b ∷ bs) (c ∷ cs) (inr (m, less, was, lf, more)) begun fit =
    let left : FitsBehind w 0 (lines cs) = after_line_feed w other c cs (ap (λ x. eqb x line_feed) lf) fit in
    elim (step w at before b bs) as (λ _. length (breaks_from w at before (b ∷ bs)) ≤ n + ahead) [
      | NextBreak.ends_line e r ↦ absurd (let never : eqb b line_feed ≡ false = ap (λ x. eqb x line_feed) was in cc)
      | NextBreak.breaks e f g r ↦
          rw r (omega (arith, less, fewest w (suc at) 0 0 0 m bs cs more (inl (omega arith)) left))
      | NextBreak.goes_on e f r ↦
          rw r (omega (arith, less, fewest w (suc at) (suc before) 0 1 m bs cs more (inr (omega arith)) left))
    ]

-- First fit has the fewest breaks.
pub are_fewest : (w : ℕ) (text : Text) → AreFewest w text (breaks_from w 0 0 text)
are_fewest w text choice spaces fits =
    let broken : Broken text (with_byte line_feed choice text) (length choice) =
    rw (zero-add (length choice)) at (broken_at text text choice 0 (unbroken text) spaces) in
    omega (arith, fewest w 0 0 0 0 (length choice) text (with_byte line_feed choice text) broken (inl (omega arith)) (fits_behind w _ fits))
