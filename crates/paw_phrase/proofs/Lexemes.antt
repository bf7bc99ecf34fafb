-- How the tokens and separators of some bytes follow one another.
use Rattle.std.proofs.Common.{◌≡◌, ◌<◌, ◌≤◌, ◌+◌, ℕ, zero, suc, true, false, [], ◌∷◌, Some, None, length, drop}
use Rattle.std.proofs.Common.{set, get_or, refl, sym, ap, ◌∙◌}
use Rattle.std.proofs.Common.{arith, add-one, add-zero, length-drop, drop-cons}
use Rattle.std.specs.Char.{to_ascii_uppercase, is_ascii_alphanumeric}
use Rattle.std.proofs.lemmas.List.{get_or-drop}
use Rattle.paw_base.specs.Bytes.{Letters, Bytes}
use Rattle.paw_base.specs.declared.limits.TheConstants.{WORD_LENGTH}
use Rattle.paw_phrase.specs.Phrase.{is_separator, five_letters, lexemes_from, lexemes}
use Rattle.paw_phrase.proofs.Letters.{letters_of, letters_of-suc, length-letters_of, letter_copied, letter_cut}

-- A byte of a token belongs to the token that has begun.
lexemes_from-more : (s : Bytes) (n : ℕ) → n < length s → is_ascii_alphanumeric (get_or s n 0) ≡ true
    → lexemes_from (letters_of n s) (drop n s) ≡ lexemes_from (letters_of (n + 1) s) (drop (n + 1) s)
unfolding lexemes_from
lexemes_from-more s n h token =
    ap (lexemes_from (letters_of n s)) (drop-cons s n 0 h)
    ∙ rw (token, add-one) (ap (λ run. lexemes_from run (drop (suc n) s)) (sym (letters_of-suc n s h)))

-- A token ends before bytes that don't go on with it.
lexemes_from-end : (run rest : Bytes) → 0 < length run → (0 < length rest → is_ascii_alphanumeric (get_or rest 0 0) ≡ false)
    → lexemes_from run rest ≡ record { token = Some (five_letters run); after = rest } ∷ lexemes rest
unfolding lexemes_from
lexemes_from-end [] rest begun ends = absurd (omega arith)
lexemes_from-end (b ∷ bs) [] begun ends = refl
lexemes_from-end (b ∷ bs) (c ∷ cs) begun ends = let other : is_ascii_alphanumeric c ≡ false = ends (omega arith) in rw other refl

-- The first n bytes are a token's, and these are its letters.
abbrev pub IsToken : Bytes → ℕ → Letters → Type 0
IsToken s n letters = (lexemes s ≡ lexemes_from (letters_of n s) (drop n s)) × (letters ≡ five_letters (letters_of n s))

pub letter_taken : (s : Bytes) (n : ℕ) (letters : Letters) → IsToken s n letters → n < length s → is_ascii_alphanumeric (get_or s n 0) ≡ true → n < WORD_LENGTH
    → IsToken s (n + 1) (set letters n (to_ascii_uppercase (get_or s n 0)))
letter_taken s n letters so_far h token five = (
  so_far.0 ∙ lexemes_from-more s n h token,
  ap (λ l. set l n (to_ascii_uppercase (get_or s n 0))) so_far.1 ∙ letter_copied s n h five,
)

pub cut : (s : Bytes) (n : ℕ) (letters : Letters) → IsToken s n letters → n < length s → is_ascii_alphanumeric (get_or s n 0) ≡ true → WORD_LENGTH ≤ n
    → IsToken s (n + 1) letters
cut s n letters so_far h token five = (so_far.0 ∙ lexemes_from-more s n h token, so_far.1 ∙ letter_cut s n h five)

begun : (s : Bytes) (n : ℕ) → 0 < length s → is_ascii_alphanumeric (get_or s 0 0) ≡ true
    → (n < length s → is_ascii_alphanumeric (get_or s n 0) ≡ false) → 0 < n
begun s zero some token ends = let never = ends some in cc
begun s (suc n) some token ends = omega arith

-- The token is the first lexeme.
pub lexemes-token : (s : Bytes) (n : ℕ) (letters : Letters) → 0 < length s → is_ascii_alphanumeric (get_or s 0 0) ≡ true → n ≤ length s
    → (n < length s → is_ascii_alphanumeric (get_or s n 0) ≡ false) → IsToken s n letters
    → lexemes s ≡ record { token = Some letters; after = drop n s } ∷ lexemes (drop n s)
lexemes-token s n letters some token within ends so_far =
    let first : 0 < n = begun s n some token ends in
    so_far.0
    ∙ lexemes_from-end (letters_of n s) (drop n s) (omega (arith, length-letters_of n s within))
    (λ more. ap is_ascii_alphanumeric (get_or-drop n s 0 0 ∙ ap (λ k. get_or s k 0) (add-zero n)) ∙ ends (omega (arith, length-drop n s)))
    ∙ ap (λ (l : Letters). record { token = Some l; after = drop n s } ∷ lexemes (drop n s)) (sym so_far.1)

-- A blank leaves no lexeme.
pub lexemes-blank : (s : Bytes) (n : ℕ) → n < length s → is_ascii_alphanumeric (get_or s n 0) ≡ false → is_separator (get_or s n 0) ≡ false
    → lexemes (drop n s) ≡ lexemes (drop (n + 1) s)
unfolding lexemes_from
lexemes-blank s n h other blank = ap lexemes (drop-cons s n 0 h) ∙ rw (other, blank, add-one) refl

pub lexemes-separator : (s : Bytes) (n : ℕ) → n < length s → is_ascii_alphanumeric (get_or s n 0) ≡ false
    → is_separator (get_or s n 0) ≡ true → lexemes (drop n s) ≡ record { token = None; after = drop (n + 1) s } ∷ lexemes (drop (n + 1) s)
unfolding lexemes_from
lexemes-separator s n h other separator = ap lexemes (drop-cons s n 0 h) ∙ rw (other, separator, add-one) refl

pub lexemes-empty : lexemes [] ≡ []
unfolding lexemes_from
lexemes-empty = refl
