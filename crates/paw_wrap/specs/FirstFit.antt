-- A text in columns: where first fit breaks its lines, and what holds of such a choice of breaks.
use Rattle.std.specs.Prelude.{◌≡◌, ◌⊎◌, ◌≤◌, ◌+◌, ◌==◌, ◌&&◌, ◌||◌, ℕ, suc, Bool, false, nat_lt, if◌then◌else◌}
use Rattle.std.specs.Prelude.{List, [], ◌∷◌, length, slice_get, slice_set, Some}
use Rattle.std.specs.List.{AllByRecursion, list_any, position_or_len, slice_split}
use Rattle.paw_base.specs.Bytes.{Bytes, Line, Text}

-- A wrapped text: its bytes, and the offsets of its breaks.
pub record WrappedText : Type 0 where
  pub bytes : Bytes
  pub breaks : List ℕ

-- The byte of a space.
abbrev pub space : ℕ
space = 0x20

-- The byte that ends a line.
abbrev pub line_feed : ℕ
line_feed = 0x0A

-- Whether a byte is a space or an LF.
abbrev pub ends_word : ℕ → Bool
ends_word b = b == space || b == line_feed

-- How many bytes stand before the first space or LF, or before the end where there is none.
abbrev pub word_length : Text → ℕ
word_length text = position_or_len ends_word text

-- Where first fit breaks the rest of a text, in rising order: the rest begins at offset `at`, with `before` bytes
-- before it in its line. A space is a break exactly where the line up to it, the space and the next word are together
-- longer than the width. A line begins after each LF and each break.
unfoldable pub breaks_from : ℕ → ℕ → ℕ → Text → List ℕ
breaks_from width at before [] = []
breaks_from width at before (b ∷ bs) =
    if b == line_feed then breaks_from width (suc at) 0 bs
    else if b == space && nat_lt width (before + 1 + word_length bs) then at ∷ breaks_from width (suc at) 0 bs
    else breaks_from width (suc at) (suc before) bs

-- The bytes, with this byte put at each of the offsets.
abbrev pub with_byte : ℕ → List ℕ → Text → Text
with_byte b [] bytes = bytes
with_byte b (at ∷ places) bytes = with_byte b places (slice_set bytes at b)

-- A text wrapped by first fit: an LF stands in place of each break.
abbrev pub first_fit : ℕ → Text → WrappedText
first_fit width text =
    let breaks = breaks_from width 0 0 text in
    record { bytes = with_byte line_feed breaks text; breaks = breaks }

-- A line has at most this many bytes, or no space.
abbrev pub FitsLine : ℕ → Line → Type 0
FitsLine width line = (length line ≤ width) ⊎ (list_any (λ b. b == space) line ≡ false)

-- Each line of the bytes fits.
abbrev pub FitsLines : ℕ → Text → Type 0
FitsLines width bytes = AllByRecursion (FitsLine width) (slice_split (λ b. b == line_feed) bytes)

-- The text has a space at each of the offsets.
abbrev pub AreSpaces : Text → List ℕ → Type 0
AreSpaces text places = AllByRecursion (λ at. slice_get text at ≡ Some space) places

-- No choice has fewer breaks: any choice of spaces in the text that makes each line fit has at least as many.
abbrev pub AreFewest : ℕ → Text → List ℕ → Type 0
AreFewest width text breaks = (choice : List ℕ) → AreSpaces text choice
    → FitsLines width (with_byte line_feed choice text) → length breaks ≤ length choice
