-- The bytes that a line may hold.
use Rattle.std.specs.Prelude.{ℕ, Bool, false, ◌&&◌, ◌||◌, not, ◌==◌, nat_le, [], ◌∷◌}
use Rattle.std.specs.List.{list_any}
use Rattle.paw_base.specs.Bytes.{Line}

-- Whether a line is a comment: it begins with `;`, and may hold any byte.
abbrev pub is_comment : Line → Bool
is_comment [] = false
is_comment (b ∷ bs) = b == 59

-- Whether a byte is from the space to `~`.
abbrev pub is_printed_byte : ℕ → Bool
is_printed_byte b = nat_le 0x20 b && nat_le b 0x7E

-- Whether a line may hold a byte: a text line may hold printed bytes, any other line tabs too.
abbrev pub is_allowed : Bool → ℕ → Bool
is_allowed text b = is_printed_byte b || (not text && b == 9)

-- Whether a line is no comment and holds a byte that isn't allowed in it.
abbrev pub has_forbidden_byte : Bool → Line → Bool
has_forbidden_byte text line = not (is_comment line) && list_any (λ b. not (is_allowed text b)) line
