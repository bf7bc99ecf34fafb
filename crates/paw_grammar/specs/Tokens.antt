-- The tokens of a line, taken from left to right. What is read of them is a value, or the kind of the first fault.
use Rattle.std.specs.Prelude.{ℕ, ◌==◌, Bool, false, List, [], ◌∷◌, length, nat_lt}
use Rattle.std.specs.Prelude.{if◌then◌else◌, Option, Result, Ok, Err}
use Rattle.std.specs.Option.{ok_or}
use Rattle.std.specs.Str.{str_eq_ignore_ascii_case}
use Rattle.paw_base.specs.Bytes.{Name, Token, Tokens}
use Rattle.paw_base.specs.declared.fault.SourceKind.{SourceKind}
use Rattle.paw_base.specs.declared.fault.SourceKind.TheVariants as kind
use Rattle.paw_read_error.specs.Bind.{◌>>=◌}

-- What reads a value from the next tokens: the value and the tokens after it, or the kind of the first fault.
abbrev pub Reads : Type 0 → Type 0
Reads A = Tokens → Result (A × Tokens) SourceKind

-- The next token, and those after it; the fault Missing where the line ends.
abbrev pub token : Reads Token
token [] = Err kind.Missing
token (t ∷ ts) = Ok (t, ts)

-- The end of the line; the fault Extra where one more token stands there.
abbrev pub end_of_line : Tokens → Result (Unit {0}) SourceKind
end_of_line [] = Ok tt
end_of_line (t ∷ ts) = Err kind.Extra

-- What the next token means, and the tokens after it; this fault where it has no meaning.
abbrev pub read_by : {A : Type 0} → SourceKind → (Token → Option A) → Reads A
read_by k meaning ts = token ts >>= λ t. ok_or (meaning t.0) k >>= λ x. Ok (x, t.1)

-- A list of at most this length; the fault TooBig where it is longer.
abbrev pub at_most : {A : Type 0} → ℕ → List A → Result (List A) SourceKind
at_most limit xs = if nat_lt limit (length xs) then Err kind.TooBig else Ok xs

-- Whether a token begins with `@`.
abbrev pub begins_with_at : Token → Bool
begins_with_at [] = false
begins_with_at (b ∷ bs) = b == 64

-- Whether the next token begins with `@`.
abbrev pub at_is_next : Tokens → Bool
at_is_next [] = false
at_is_next (t ∷ ts) = begins_with_at t

-- Whether a token is this name, in any case of letters.
abbrev pub is_named : Token → Name → Bool
is_named t name = str_eq_ignore_ascii_case t name
