-- The tokens of a line: definitions for contracts and proofs, besides those of specs/Tokens.antt.
use Rattle.std.specs.Prelude.{ℕ, Bool, ◌||◌, ◌==◌, slice_range, IsTrue}
use Rattle.std.specs.List.{list_all}
use Rattle.paw_base.specs.Bytes.{Bytes, Tokens}
use Rattle.paw_lex.specs.declared.lines.Line.{Line}
use Rattle.paw_lex.specs.Tokens.{is_blank, tokens_of}

-- These bytes are nothing but blanks.
abbrev pub AreBlanks : Bytes → Type 0
AreBlanks bytes = IsTrue (list_all is_blank bytes)

-- Whether a byte ends a token: it is a blank or `;`.
abbrev pub ends_token : ℕ → Bool
ends_token b = is_blank b || b == 59

-- The tokens of a line of the source from an offset on.
abbrev pub tokens_from : Bytes → Line → ℕ → Tokens
tokens_from source line from = tokens_of (slice_range source from line.to)
