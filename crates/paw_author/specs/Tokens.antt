-- The tokens of a line that is in its parts.
use Rattle.std.specs.Prelude.{ℕ, ◌==◌, ◌||◌, ◌%◌, Bool, true, false, not, [], ◌∷◌, count_by, drop, filter, length, slice_get}
use Rattle.std.specs.Prelude.{if◌then◌else◌, Option, Some, None, Result, Ok, Err}
use Rattle.std.specs.Str.{str_eq_ignore_ascii_case}
use Rattle.paw_base.specs.Bytes.{Bytes, Name, Token}
use Rattle.paw_base.specs.declared.fault.SourceKind.TheVariants.{Text}
use Rattle.paw_read_error.specs.Bind.{◌>>=◌}
use Rattle.paw_author.specs.declared.fragment.Origin.{Origin}
use Rattle.paw_author.specs.declared.mistake.Mistake.{Mistake}
use Rattle.paw_author.specs.Fragments.{WithOrigin, Fragments}
use Rattle.paw_author.specs.Mistakes.{wrong_line}
use Rattle.paw_author.specs.Parts.{is_gap}

-- ---- tokens ----

-- Whether bytes begin with this one.
abbrev pub starts_with_byte : ℕ → Bytes → Bool
starts_with_byte byte [] = false
starts_with_byte byte (b ∷ bs) = b == byte

-- Whether a part is a token: it is neither blanks nor a comment.
abbrev pub is_token : Bytes → Bool
is_token [] = false
is_token (b ∷ bs) = not (is_gap b || b == 59)

-- The tokens of a line.
abbrev pub line_tokens : Fragments → Fragments
line_tokens line = filter (λ part. is_token part.bytes) line

-- The bytes of a part, if there is one.
abbrev pub bytes_if_any : Option WithOrigin → Bytes
bytes_if_any None = []
bytes_if_any (Some part) = part.bytes

-- The token of a line with this index; no byte where there is none.
abbrev pub token_at : ℕ → Fragments → Token
token_at index line = bytes_if_any (slice_get (line_tokens line) index)

-- How many tokens a line has.
abbrev pub token_count : Fragments → ℕ
token_count line = length (line_tokens line)

-- Whether a word is this name, in any case of letters.
abbrev pub is_same : Token → Name → Bool
is_same word name = str_eq_ignore_ascii_case word name

-- ---- how a line begins ----

-- The bytes of the first part of a line.
abbrev pub first_bytes : Fragments → Bytes
first_bytes line = bytes_if_any (slice_get line 0)

-- Where a part begins. What isn't there begins nowhere.
abbrev pub origin_of : Option WithOrigin → Origin
origin_of None = record { file = 0; line = 0; column = 0 }
origin_of (Some part) = part.origin

-- Where a line begins.
abbrev pub line_origin : Fragments → Origin
line_origin line = origin_of (slice_get line 0)

-- Where the token of a line with this index stands.
abbrev pub token_origin : ℕ → Fragments → Origin
token_origin index line = origin_of (slice_get (line_tokens line) index)

-- The token that a line begins with; no byte where a blank stands first.
abbrev pub leading_word : Fragments → Token
leading_word line = if is_token (first_bytes line) then first_bytes line else []

-- Whether a line is a comment: it begins with `;`.
abbrev pub is_comment_line : Fragments → Bool
is_comment_line line = starts_with_byte 59 (first_bytes line)

-- Whether a line begins with `/`.
abbrev pub starts_with_slash : Fragments → Bool
starts_with_slash line = starts_with_byte 47 (first_bytes line)

-- ---- texts in quotes ----

-- Whether a part is a text in quotes.
abbrev pub is_quoted : Bytes → Bool
is_quoted part = starts_with_byte 34 part

-- What a text says after a quote, by whether its last quote is still to come: a quote stands for itself where it is
-- written twice.
unfoldable pub unquoted_from : Bool → Bytes → Bytes
unquoted_from inside [] = []
unquoted_from inside (b ∷ bs) =
    if not (b == 34) then (if inside then b ∷ unquoted_from inside bs else [])
    else if inside then unquoted_from false bs
    else b ∷ unquoted_from true bs

-- What a text in quotes says.
abbrev pub without_quotes : Bytes → Bytes
without_quotes text = unquoted_from true (drop 1 text)

-- Whether a text has its last quote: the number of its quotes is even.
abbrev pub is_closed : Bytes → Bool
is_closed text = count_by (λ b. b == 34) text % 2 == 0

-- After a text stands no token.
abbrev pub nothing_behind : Fragments → Result (Unit {0}) Mistake
nothing_behind [] = Ok tt
nothing_behind (part ∷ parts) = if is_token part.bytes then Err (wrong_line part.origin Text) else Ok tt

-- A text has its last quote, and no token right after it.
abbrev pub text_ends : WithOrigin → Fragments → Result (Unit {0}) Mistake
text_ends part parts =
    if not (is_quoted part.bytes) then Ok tt
    else if is_closed part.bytes then nothing_behind parts
    else Err (wrong_line part.origin Text)

-- Each text of a line ends.
unfoldable pub texts_end : Fragments → Result (Unit {0}) Mistake
texts_end [] = Ok tt
texts_end (part ∷ parts) = text_ends part parts >>= λ _. texts_end parts
