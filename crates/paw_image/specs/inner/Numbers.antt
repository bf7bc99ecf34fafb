-- The letters of words as numbers.
use Rattle.std.specs.Prelude.{◌≡◌, ℕ, ◌+◌, ◌*◌, List, [], ◌∷◌, length, map}
use Rattle.std.specs.List.{All}
use Rattle.paw_base.specs.Bytes.{Bytes, Letters}
use Rattle.paw_base.specs.declared.limits.TheConstants.{WORD_LENGTH}
use Rattle.paw_game.specs.declared.parts.Word.{Word}
use Rattle.paw_image.specs.inner.Images.{EachIsByte}

-- A number with further bytes written after it.
abbrev pub number_followed_by : ℕ → Bytes → ℕ
number_followed_by n [] = n
number_followed_by n (b ∷ bs) = number_followed_by (n * 256 + b) bs

-- Letters as a number, the first one highest.
abbrev pub letters_as_number : Letters → ℕ
letters_as_number letters = number_followed_by 0 letters

-- Letters are five bytes.
pub record AreFiveBytes (letters : Letters) : Type 0 where
  pub five : length letters ≡ WORD_LENGTH
  pub bytes : EachIsByte letters

-- These are the numbers of words, whose letters are five bytes each.
pub record AreNumbers (words : List Word) (numbers : List ℕ) : Type 0 where
  pub numbered : numbers ≡ map (λ w. letters_as_number w.letters) words
  pub bytes : All (λ w. AreFiveBytes w.letters) words
