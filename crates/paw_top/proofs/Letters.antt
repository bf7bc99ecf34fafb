-- The printed letters of a word are read as these letters.
use Rattle.std.proofs.Common.{◌≡◌, ℕ, suc, ◌≤◌, ◌-◌, true, false, ◌&&◌, eqb, leb, cond, [], ◌∷◌, ◌++◌, length}
use Rattle.std.proofs.Common.{take, replicate, refl, sym, ap, ◌∙◌, inl}
use Rattle.std.proofs.Common.{inr, bytes_eq, arith}
use Rattle.std.specs.Prelude.{codes}
use Rattle.std.specs.List.{list_all, before_first}
use Rattle.std.specs.Char.{to_ascii_uppercase, is_ascii_alphanumeric}
use Rattle.std.proofs.lemmas.Bool.{and_parts, and_from, or_cases, or_left, or_right, eqb-true, ne_eqb, le-leb, leb-true}
use Rattle.std.proofs.lemmas.Bool.{lt-ltb, not_from_false}
use Rattle.std.proofs.lemmas.List.{take_all}
use Rattle.paw_lex.proofs.Slices.{before_first-cons}
use Rattle.paw_base.specs.Bytes.{Letters, Bytes}
use Rattle.paw_base.specs.declared.limits.TheConstants.{WORD_LENGTH}
use Rattle.paw_base.specs.Condacts.{capitals}
use Rattle.paw_game.specs.Valid.{is_letter, is_filled, are_letters}
use Rattle.paw_grammar.specs.Tokens.{begins_with_at}
use Rattle.paw_grammar.specs.Spells.{begins_with_slash}
use Rattle.paw_grammar.specs.Vocabulary.{is_word_token, letters_of as read_letters}
use Rattle.paw_top.proofs.Rows.{is_clean, is_plain}

-- ---- one letter ----

record Letter (c : ℕ) : Type 0 where
  low : 48 ≤ c
  high : c ≤ 90
  clean : is_clean c ≡ true
  no_space : eqb c 32 ≡ false
  no_at : eqb c 64 ≡ false

letter_of : (c : ℕ) → 48 ≤ c → c ≤ 90 → eqb c 59 ≡ false → eqb c 64 ≡ false → Letter c
letter_of c low high semicolon at = record {
  low = low;
  high = high;
  clean = and_from _ _ (and_from _ _ (le-leb 33 c (omega arith)) (le-leb c 126 (omega arith))) (not_from_false _ semicolon);
  no_space = ne_eqb c 32 (λ e. omega arith);
  no_at = at;
}

letter : (c : ℕ) → is_letter c ≡ true → Letter c
letter c h =
    elim (or_cases (leb 65 c && leb c 90) (leb 48 c && leb c 57) h) [
      | inl capital ↦
          let both = and_parts (leb 65 c) _ capital in
          let low : 65 ≤ c = leb-true 65 c both.0 in
          letter_of c (omega arith) (leb-true c 90 both.1) (ne_eqb c 59 (λ e. omega arith)) (ne_eqb c 64 (λ e. omega arith))
      | inr digit ↦
          let both = and_parts (leb 48 c) _ digit in
          let high : c ≤ 57 = leb-true c 57 both.1 in
          letter_of c (leb-true 48 c both.0) (omega arith) (ne_eqb c 59 (λ e. omega arith)) (ne_eqb c 64 (λ e. omega arith))
    ]

capital-is : (c : ℕ) → is_letter c ≡ true → to_ascii_uppercase c ≡ c
capital-is c h = let l = letter c h in rw (lt-ltb c 97 (omega (arith, l.high))) refl

capitals-are : (t : Bytes) → list_all is_letter t ≡ true → capitals t ≡ t
capitals-are [] h = refl
capitals-are (c ∷ cs) h =
    let both = and_parts (is_letter c) (list_all is_letter cs) h in
    rw (capital-is c both.0) (ap (λ (s : Bytes). c ∷ s) (capitals-are cs both.1))

-- A capital or a digit is a letter or a digit.
alphanumeric : (c : ℕ) → is_letter c ≡ true → is_ascii_alphanumeric c ≡ true
alphanumeric c h =
    elim (or_cases (leb 65 c && leb c 90) (leb 48 c && leb c 57) h) [
      | inl capital ↦ or_left _ _ (or_right (leb 48 c && leb c 57) _ capital)
      | inr digit ↦ or_left _ _ (or_left _ _ digit)
    ]

letters_alphanumeric : (t : Bytes) → list_all is_letter t ≡ true → list_all is_ascii_alphanumeric t ≡ true
letters_alphanumeric [] h = refl
letters_alphanumeric (c ∷ cs) h =
    let both = and_parts (is_letter c) (list_all is_letter cs) h in
    and_from _ _ (alphanumeric c both.0) (letters_alphanumeric cs both.1)

letters_clean : (t : Bytes) → list_all is_letter t ≡ true → list_all is_clean t ≡ true
letters_clean [] h = refl
letters_clean (c ∷ cs) h =
    let both = and_parts (is_letter c) (list_all is_letter cs) h in
    and_from _ _ (letter c both.0).clean (letters_clean cs both.1)

-- ---- letters that are filled up ----

-- t is s without the spaces that fill it up.
record IsTrimmed (s t : Bytes) : Type 0 where
  letters : list_all is_letter t ≡ true
  short : length t ≤ length s
  filled : t ++ replicate (length s - length t) 32 ≡ s

all_spaces : (s : Bytes) → list_all (λ d. eqb d 32) s ≡ true → replicate (length s) 32 ≡ s
all_spaces [] h = refl
all_spaces (c ∷ cs) h =
    let both = and_parts (eqb c 32) (list_all (λ d. eqb d 32) cs) h in
    ap (λ (s : Bytes). 32 ∷ s) (all_spaces cs both.1) ∙ ap (λ d. d ∷ cs) (sym (eqb-true c 32 both.0))

trimmed-letter : (c : ℕ) (cs t : Bytes) → is_letter c ≡ true → IsTrimmed cs t → IsTrimmed (c ∷ cs) (c ∷ t)
trimmed-letter c cs t h rest =
    let left : suc (length cs) - suc (length t) ≡ length cs - length t = omega arith in
    record {
      letters = and_from _ _ h rest.letters;
      short = omega (arith, rest.short);
      filled = ap (λ (s : Bytes). c ∷ s) (ap (λ n. t ++ replicate n 32) left ∙ rest.filled);
    }

trimmed-spaces : (c : ℕ) (cs : Bytes) → list_all (λ d. eqb d 32) (c ∷ cs) ≡ true → IsTrimmed (c ∷ cs) (before_first (λ b. eqb b 32) (c ∷ cs))
trimmed-spaces c cs h =
    let space = (and_parts (eqb c 32) (list_all (λ d. eqb d 32) cs) h).0 in
    let whole : length (c ∷ cs) - 0 ≡ length (c ∷ cs) = omega arith in
    rw space (record { letters = refl; short = omega arith; filled = ap (λ n. replicate n 32) whole ∙ all_spaces (c ∷ cs) h })

trimmed : (s : Bytes) → is_filled s ≡ true → IsTrimmed s (before_first (λ b. eqb b 32) s)
trimmed [] h = record { letters = refl; short = omega arith; filled = refl }
trimmed (c ∷ cs) h =
    elim (is_letter c) as (λ v. is_letter c ≡ v → cond v (is_filled cs) (list_all (λ d. eqb d 32) (c ∷ cs)) ≡ true →
    IsTrimmed (c ∷ cs) (before_first (λ b. eqb b 32) (c ∷ cs))) [
      | true ↦ λ is g. rw (before_first-cons (λ b. eqb b 32) c cs (letter c is).no_space)
          (trimmed-letter c cs (before_first (λ b. eqb b 32) cs) is (trimmed cs g))
      | false ↦ λ is g. trimmed-spaces c cs g
    ] refl h

-- ---- the token of a word ----

-- A token that spells these letters, and is no sign and no header.
pub record Spelling (t letters : Bytes) : Type 0 where
  pub plain : is_plain t ≡ true
  pub slash : begins_with_slash t ≡ false
  pub at : begins_with_at t ≡ false
  pub any : bytes_eq t (codes "*") ≡ false
  pub none : bytes_eq t (codes "_") ≡ false
  pub word : is_word_token t ≡ true
  pub is : read_letters t ≡ letters

spelling-letters : (c : ℕ) (cs letters : Bytes) → length letters ≡ WORD_LENGTH → IsTrimmed letters (c ∷ cs) → Spelling (c ∷ cs) letters
spelling-letters c cs letters long t =
    let first = letter c (and_parts (is_letter c) (list_all is_letter cs) t.letters).0 in
    let stroke : eqb c 47 ≡ false = ne_eqb c 47 (λ e. omega (arith, first.low)) in
    let star : eqb c 42 ≡ false = ne_eqb c 42 (λ e. omega (arith, first.low)) in
    let under : eqb c 95 ≡ false = ne_eqb c 95 (λ e. omega (arith, first.high)) in
    let same = capitals-are (c ∷ cs) t.letters in
    record {
      plain = letters_clean (c ∷ cs) t.letters;
      slash = stroke;
      at = first.no_at;
      any = rw star refl;
      none = rw under refl;
      word = and_from _ _ (lt-ltb 0 (length (c ∷ cs)) (omega arith)) (letters_alphanumeric (c ∷ cs) t.letters);
      is =
          ap (λ (s : Bytes). take WORD_LENGTH s ++ replicate (WORD_LENGTH - length (c ∷ cs)) 32) same
          ∙ ap (λ (s : Bytes). s ++ replicate (WORD_LENGTH - length (c ∷ cs)) 32) (take_all WORD_LENGTH (c ∷ cs) (omega (arith, t.short)))
          ∙ ap (λ n. (c ∷ cs) ++ replicate (n - length (c ∷ cs)) 32) (sym long)
          ∙ t.filled;
    }

pub spelling : (letters : Letters) → are_letters letters ≡ true → Spelling (before_first (λ b. eqb b 32) letters) letters
spelling [] h = absurd cc
spelling (c ∷ cs) h =
    let long = and_parts (eqb (length (c ∷ cs)) WORD_LENGTH) _ h in
    let first = and_parts (is_letter c) (is_filled cs) long.1 in
    let begins = before_first-cons (λ b. eqb b 32) c cs (letter c first.0).no_space in
    rw begins (spelling-letters c (before_first (λ b. eqb b 32) cs) (c ∷ cs) (eqb-true _ _ long.0)
    (trimmed-letter c cs (before_first (λ b. eqb b 32) cs) first.0 (trimmed cs first.1)))
