-- The code's table of letters is what tokens are made of.
use Rattle.std.proofs.Common.{◌≡◌, ◌<◌, ℕ, Bool, true, false, not, cond, eqb, List, map, get_or, refl, sym, ap, ◌∙◌, arith}
use Rattle.std.specs.Char.{to_ascii_uppercase, is_ascii_alphanumeric}
use Rattle.std.specs.List.{range_with_len}
use Rattle.std.proofs.Math.ListN.{get_or-map}
use Rattle.std.proofs.lemmas.List.FromFn.{get_or-map-range_with_len}
use Rattle.paw_phrase.specs.declared.tokens.TheConstants.{LETTER_OF_BYTE}

-- A byte of a token as it stands there; 0 for any other.
abbrev letter_or_none : ℕ → ℕ
letter_or_none b = cond (is_ascii_alphanumeric b) (to_ascii_uppercase b) 0

LETTER_OF_BYTE_are : LETTER_OF_BYTE ≡ map letter_or_none (range_with_len 0 256)
LETTER_OF_BYTE_are = refl

abbrev is_letter : ℕ → Bool
is_letter n = not (eqb n 0)

letters_of_tokens : map is_letter LETTER_OF_BYTE ≡ map is_ascii_alphanumeric (range_with_len 0 256)
letters_of_tokens = refl

-- The table has letters for the bytes of tokens.
pub in_token : (b : ℕ) → b < 256 → not (eqb (get_or LETTER_OF_BYTE b 0) 0) ≡ is_ascii_alphanumeric b
in_token b h =
    sym (get_or-map is_letter LETTER_OF_BYTE b 0)
    ∙ ap (λ (xs : List Bool). get_or xs b false) letters_of_tokens
    ∙ get_or-map-range_with_len is_ascii_alphanumeric 0 256 b b false h (omega arith)

-- And they are those that stand in tokens.
pub letter_is : (b : ℕ) → b < 256 → is_ascii_alphanumeric b ≡ true → get_or LETTER_OF_BYTE b 0 ≡ to_ascii_uppercase b
letter_is b h token =
    ap (λ (xs : List ℕ). get_or xs b 0) LETTER_OF_BYTE_are
    ∙ get_or-map-range_with_len letter_or_none 0 256 b b 0 h (omega arith)
    ∙ ap (λ t. cond t (to_ascii_uppercase b) 0) token
