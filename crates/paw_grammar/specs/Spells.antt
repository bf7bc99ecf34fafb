-- Which game a source spells, and which fault it has.
use Rattle.std.specs.Prelude.{◌≡◌, ℕ, suc, ◌==◌, ◌&&◌, Bool, true, false, not, [], ◌∷◌}
use Rattle.std.specs.Prelude.{length, drop, nat_lt, if◌then◌else◌, Result, Ok, Err, codes}
use Rattle.std.specs.List.{count_by, slice_index_or}
use Rattle.paw_base.specs.Bytes.{Bytes, Line, Lines, Tokens}
use Rattle.paw_base.specs.declared.limits.TheConstants.{SOURCE_LIMIT, IMAGE_LIMIT, TABLE_LEAST}
use Rattle.paw_base.specs.declared.fault.SourceKind.{SourceKind}
use Rattle.paw_base.specs.declared.fault.SourceKind.TheVariants as kind
use Rattle.paw_base.specs.declared.fault.SourceFault.{SourceFault}
use Rattle.paw_game.specs.Game.{GameLists}
use Rattle.paw_game.specs.Image.{image}
use Rattle.paw_lex.specs.Bytes.{is_comment, has_forbidden_byte}
use Rattle.paw_lex.specs.Lines.{lines_of}
use Rattle.paw_lex.specs.Tokens.{is_blank, tokens_of}
use Rattle.paw_read_error.specs.Bind.{◌>>=◌}
use Rattle.paw_grammar.specs.Tokens.{is_named}
use Rattle.paw_grammar.specs.Numbers.{number}
use Rattle.paw_grammar.specs.GrammarState.{Spelt, nothing_yet, game_of}
use Rattle.paw_grammar.specs.GrammarTexts.{is_in_text, texts_of, with_texts, text_line}
use Rattle.paw_grammar.specs.GrammarHeads.{slash_line}
use Rattle.paw_grammar.specs.GrammarRows.{row_in}

-- ---- one line ----

-- Whether a line begins with `/`.
abbrev pub begins_with_slash : Line → Bool
begins_with_slash [] = false
begins_with_slash (b ∷ bs) = b == 47

-- Whether a line begins with a space or a tab.
abbrev pub begins_with_blank : Line → Bool
begins_with_blank [] = false
begins_with_blank (b ∷ bs) = is_blank b

-- Whether a line belongs to a text; one that begins with `/` never does.
abbrev pub is_text_line : Spelt → Line → Bool
is_text_line d l = is_in_text d && not (begins_with_slash l)

-- What is spelled once a line is added to a text.
abbrev pub text_added : Spelt → Line → Result Spelt SourceKind
text_added d l = text_line d.begun l (texts_of d.section d) >>= λ ts. Ok (with_texts d.section true ts d)

-- What is spelled after the tokens of a line; a line without tokens is skipped.
abbrev pub tokens_added : ℕ → Spelt → Bool → Bool → Tokens → Result Spelt SourceKind
tokens_added p d slash blank [] = Ok d
tokens_added p d slash blank (t ∷ ts) =
    if slash then slash_line d t (number (drop 1 t)) ts else row_in d.section p d blank (t ∷ ts)

-- What is spelled after one line more, or the line's first fault. A forbidden byte is found before all other faults. A
-- comment spells nothing.
unfoldable pub after_line : ℕ → Spelt → Line → Result Spelt SourceKind
after_line p d l =
    if is_comment l then Ok d
    else if has_forbidden_byte (is_text_line d l) l then Err kind.Text
    else if is_text_line d l then text_added d l
    else tokens_added p d (begins_with_slash l) (begins_with_blank l) (tokens_of l)

-- ---- all lines ----

-- Whether a line begins with `/` and its first token is `/PRO`.
abbrev pub begins_table : Line → Bool
begins_table l = begins_with_slash l && is_named (slice_index_or (tokens_of l) 0 []) (codes "/PRO")

-- A fault with this line and this kind.
abbrev pub fault : ℕ → SourceKind → SourceFault
fault line kind = record { line = line; kind = kind }

-- Goes on from what is spelled up to a line, or ends with that line's fault.
abbrev pub at_line : ℕ → Result Spelt SourceKind → (Spelt → Result GameLists SourceFault) → Result GameLists SourceFault
at_line n (Err k) go = Err (fault n k)
at_line n (Ok d) go = go d

-- The game that n lines without a fault spell; it needs enough tables, and an image that isn't too long.
abbrev pub whole : ℕ → Spelt → Result GameLists SourceFault
whole n d =
    if nat_lt (length d.tables) TABLE_LEAST then Err (fault (suc n) kind.Missing)
    else if nat_lt IMAGE_LIMIT (length (image (game_of d))) then Err (fault (suc n) kind.TooBig)
    else Ok (game_of d)

-- The game that a source spells, by what its first n lines spell and the lines after them.
unfoldable pub spelled_after : ℕ → ℕ → Spelt → Lines → Result GameLists SourceFault
spelled_after p n d [] = whole n d
spelled_after p n d (l ∷ ls) = at_line (suc n) (after_line p d l) (λ e. spelled_after p (suc n) e ls)

-- The game that a source spells, or the line and the kind of its first fault. A parameter may name each table that has
-- a header, even in a later line.
unfoldable pub game_spelled : Bytes → Result GameLists SourceFault
game_spelled source =
    if nat_lt SOURCE_LIMIT (length source) then Err (fault 0 kind.TooBig)
    else spelled_after (count_by begins_table (lines_of source)) 0 nothing_yet (lines_of source)

-- A source spells this game.
abbrev pub Spells : Bytes → GameLists → Type 0
Spells source g = game_spelled source ≡ Ok g
