-- Sources that are plain already: no line has anything of what authors may write beyond it.
use Rattle.std.specs.Prelude.{ℕ, ◌==◌, ◌&&◌, ◌||◌, Bool, true, false, not, [], ◌∷◌, drop, if◌then◌else◌, Option, Some, None}
use Rattle.std.specs.Prelude.{is_some, codes}
use Rattle.std.specs.List.{list_all, list_any}
use Rattle.paw_base.specs.Bytes.{Bytes, Names}
use Rattle.paw_author.specs.declared.sections.TheConstants.{WORDS, EXITS}
use Rattle.paw_author.specs.Fragments.{Fragments, LinesInParts}
use Rattle.paw_author.specs.Sections.{is_number, is_table_header, header_section, has_texts}
use Rattle.paw_author.specs.Tokens.{is_token, leading_word, token_at, token_count, is_same, starts_with_byte, starts_with_slash}

-- The words that only an author's source has at the head of a line.
abbrev pub own_words : Names
own_words =
    codes "/NAMES" ∷ codes "/KINDS" ∷ codes "/THINGS" ∷ codes "/INCLUDE" ∷ codes "/HOOK" ∷ codes "/IF" ∷ codes "/ELSE"
    ∷ codes "/ENDIF" ∷ []

-- Whether a line begins with such a word.
abbrev pub has_own_word : Fragments → Bool
has_own_word line = list_any (λ word. is_same (leading_word line) word) own_words

-- Whether the header of a table has no name.
abbrev pub is_plain_table : Fragments → Bool
is_plain_table line = token_count line == 1 || (token_count line == 2 && is_number (token_at 1 line))

-- Whether an item has a number and no name. Where no items are, what begins with `/` is a header that no section has.
abbrev pub is_plain_item : ℕ → Fragments → Bool
is_plain_item section line =
    if section == EXITS then is_number (drop 1 (leading_word line))
    else not (has_texts section) || (is_number (drop 1 (leading_word line)) && token_count line == 1)

-- Whether a token may stand in a plain row: it isn't `+`, and begins with neither a quote nor `<`.
abbrev pub is_plain_token : Bytes → Bool
is_plain_token token =
    not (starts_with_byte 34 token || starts_with_byte 39 token || starts_with_byte 43 token || starts_with_byte 60 token)

-- Whether a row has only such tokens; one of words has three of them.
abbrev pub is_plain_data : ℕ → Fragments → Bool
is_plain_data section line =
    list_all (λ part. not (is_token part.bytes) || is_plain_token part.bytes) line
    && (not (section == WORDS) || token_count line == 0 || token_count line == 3)

-- Whether a line that begins with `/` is plain.
abbrev pub is_plain_mark : ℕ → Fragments → Bool
is_plain_mark section line =
    if has_own_word line then false
    else if is_table_header line then is_plain_table line
    else is_some (header_section line) || is_plain_item section line

-- Whether a line is plain in this section; `text` says whether it stands below an item with a text.
abbrev pub is_plain_line : ℕ → Bool → Fragments → Bool
is_plain_line section text line =
    if starts_with_slash line then is_plain_mark section line else text || is_plain_data section line

-- The section that a line begins, or that of the line above.
abbrev pub section_or : ℕ → Option ℕ → ℕ
section_or section None = section
section_or section (Some begun) = begun

-- The section after a line.
abbrev pub section_behind : ℕ → Fragments → ℕ
section_behind section line = if starts_with_slash line then section_or section (header_section line) else section

-- Whether what stands below a line is a text, where no other line begins with `/`.
abbrev pub text_behind : ℕ → Bool → Fragments → Bool
text_behind section text line =
    if starts_with_slash line then not (is_some (header_section line)) && has_texts section else text

-- Whether these lines are plain in a section.
unfoldable pub are_plain : ℕ → Bool → LinesInParts → Bool
are_plain section text [] = true
are_plain section text (line ∷ lines) =
    is_plain_line section text line
    && are_plain (section_behind section line) (text_behind section text line) lines

-- Whether a file is a plain source.
abbrev pub is_plain_source : LinesInParts → Bool
is_plain_source lines = are_plain 0 false lines
