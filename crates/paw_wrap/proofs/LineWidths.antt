-- How long the lines of a wrapped text are.
use Rattle.std.proofs.Common.{◌≡◌, ℕ, suc, ◌≤◌, ◌+◌, Bool, true, false, eqb, ◌||◌, [], ◌∷◌, length, drop, get_or}
use Rattle.std.proofs.Common.{refl, sym, ap, ◌∙◌, inl, inr, arith}
use Rattle.std.specs.List.{AllByRecursion, list_any, slice_split, onto_first}
use Rattle.paw_base.specs.Bytes.{Bytes, Text, Line, Lines}
use Rattle.paw_wrap.specs.FirstFit.{space, line_feed, word_length, breaks_from, FitsLine}
use Rattle.paw_wrap.proofs.Breaking.{NextBreak, step, left_true}
use Rattle.paw_wrap.proofs.Undoing.{wrapped, wrapped-kept, wrapped-broken}

abbrev pub lines : Text → Lines
lines bytes = slice_split (λ b. eqb b line_feed) bytes

abbrev pub has_space : Line → Bool
has_space line = list_any (λ b. eqb b space) line

abbrev pub first_line : Lines → Line
first_line ls = get_or ls 0 []

both_false : (x y : Bool) → x || y ≡ false → (x ≡ false) × (y ≡ false)
both_false true y h = absurd (cc)
both_false false y h = (refl, h)

pub lines-line_feed : (b : ℕ) (bs : Bytes) → eqb b line_feed ≡ true → lines (b ∷ bs) ≡ [] ∷ lines bs
lines-line_feed b bs e = rw e refl

pub lines-other : (b : ℕ) (bs : Bytes) → eqb b line_feed ≡ false → lines (b ∷ bs) ≡ onto_first b (lines bs)
lines-other b bs e = rw e refl

pub first_line-onto : (b : ℕ) (ls : Lines) → first_line (onto_first b ls) ≡ b ∷ first_line ls
first_line-onto b [] = refl
first_line-onto b (l ∷ ls) = refl

pub drop-onto : (b : ℕ) (ls : Lines) → drop 1 (onto_first b ls) ≡ drop 1 ls
drop-onto b [] = refl
drop-onto b (l ∷ ls) = refl

-- Each line fits, where `before` bytes stand before the first.
pub record FitsBehind (w before : ℕ) (ls : Lines) : Type 0 where
  pub first : has_space (first_line ls) ≡ true → before + length (first_line ls) ≤ w
  pub rest : AllByRecursion (FitsLine w) (drop 1 ls)

pub fits_all : (w : ℕ) (ls : Lines) → FitsBehind w 0 ls → AllByRecursion (FitsLine w) ls
fits_all w [] f = tt
fits_all w (l ∷ ls) f = (
  elim (has_space l) as (λ v. has_space l ≡ v → FitsLine w l) [
    | true ↦ λ e. inl (omega (arith, f.first e))
    | false ↦ λ e. inr e
  ] refl,
  f.rest,
)

pub fits_behind : (w : ℕ) (ls : Lines) → AllByRecursion (FitsLine w) ls → FitsBehind w 0 ls
fits_behind w [] f = record { first = λ never. absurd (cc); rest = tt }
fits_behind w (l ∷ ls) (inl h, more) = record { first = λ _. omega (arith, h); rest = more }
fits_behind w (l ∷ ls) (inr none, more) = record { first = λ some. absurd (cc); rest = more }

-- A line begins after an LF.
pub behind_line_feed : (w before b : ℕ) (bs : Bytes) → eqb b line_feed ≡ true → FitsBehind w 0 (lines bs) → FitsBehind w before (lines (b ∷ bs))
behind_line_feed w before b bs e f = rw (lines-line_feed b bs e) (record { first = λ never. absurd (cc); rest = fits_all w (lines bs) f })

-- One more byte of a line.
pub behind_other : (w before b n : ℕ) (bs : Bytes) → eqb b line_feed ≡ false → FitsBehind w (suc before) (lines bs)
    → (eqb b space ≡ true → before + 1 + n ≤ w) → (has_space (first_line (lines bs)) ≡ false → length (first_line (lines bs)) ≤ n)
    → FitsBehind w before (lines (b ∷ bs))
behind_other w before b n bs e f short word =
    rw (lines-other b bs e) (record {
      first = rw (first_line-onto b (lines bs)) (
          elim (has_space (first_line (lines bs))) as (λ v. has_space (first_line (lines bs)) ≡ v
          → eqb b space || v ≡ true → before + suc (length (first_line (lines bs))) ≤ w) [
            | true ↦ λ h some. omega (arith, f.first h)
            | false ↦ λ h some. omega (arith, short (left_true (eqb b space) false refl some), word h)
          ] refl);
      rest = rw (drop-onto b (lines bs)) f.rest;
    })

-- The first line of a wrapped text is its first word, where it has no space.
first_word : (w before : ℕ) (text : Text) → has_space (first_line (lines (wrapped w before text))) ≡ false
    → length (first_line (lines (wrapped w before text))) ≤ word_length text
unfolding breaks_from
first_word w before [] h = omega arith
first_word w before (b ∷ bs) h =
    elim (step w 0 before b bs) as (λ _. length (first_line (lines (wrapped w before (b ∷ bs)))) ≤ word_length (b ∷ bs)) [
      | NextBreak.ends_line e r ↦ rw (wrapped-kept w before 0 b bs r, lines-line_feed b (wrapped w 0 bs) e) (omega arith)
      | NextBreak.breaks e f g r ↦ rw (wrapped-broken w before b bs r) (omega arith)
      | NextBreak.goes_on e f r ↦
          let more : first_line (lines (wrapped w before (b ∷ bs))) ≡ b ∷ first_line (lines (wrapped w (suc before) bs)) =
          ap (λ bytes. first_line (lines bytes)) (wrapped-kept w before (suc before) b bs r)
          ∙ ap first_line (lines-other b (wrapped w (suc before) bs) e) ∙ first_line-onto b (lines (wrapped w (suc before) bs)) in
          let no_space = both_false (eqb b space) _ (sym (ap has_space more) ∙ h) in
          rw (more, no_space.0, e) (omega (arith, first_word w (suc before) bs no_space.1))
    ]

-- Each line of a wrapped text fits.
pub wrapped_fits : (w before : ℕ) (text : Text) → FitsBehind w before (lines (wrapped w before text))
unfolding breaks_from
wrapped_fits w before [] = record { first = λ never. absurd (cc); rest = tt }
wrapped_fits w before (b ∷ bs) =
    elim (step w 0 before b bs) as (λ _. FitsBehind w before (lines (wrapped w before (b ∷ bs)))) [
      | NextBreak.ends_line e r ↦ rw (wrapped-kept w before 0 b bs r) (behind_line_feed w before b (wrapped w 0 bs) e (wrapped_fits w 0 bs))
      | NextBreak.breaks e f g r ↦ rw (wrapped-broken w before b bs r) (behind_line_feed w before line_feed (wrapped w 0 bs) refl (wrapped_fits w 0 bs))
      | NextBreak.goes_on e f r ↦ rw (wrapped-kept w before (suc before) b bs r)
          (behind_other w before b (word_length bs) (wrapped w (suc before) bs) e (wrapped_fits w (suc before) bs) f (first_word w (suc before) bs))
    ]
