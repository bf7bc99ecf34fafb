-- The tokens of a line.
use Rattle.std.specs.Prelude.{ℕ, Bool, ◌||◌, ◌==◌, nat_lt, filter, length}
use Rattle.std.specs.List.{before_first, slice_split}
use Rattle.paw_base.specs.Bytes.{Line, Tokens}

-- Whether a byte is a space or a tab.
abbrev pub is_blank : ℕ → Bool
is_blank b = b == 0x20 || b == 9

-- The tokens of a line: what stands before its first `;` is split at blanks, and pieces without a byte are left out.
unfoldable pub tokens_of : Line → Tokens
tokens_of line = filter (λ piece. nat_lt 0 (length piece)) (slice_split is_blank (before_first (λ b. b == 59) line))
