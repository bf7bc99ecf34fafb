-- How a line is cut into parts: its tokens, and what stands before, between and after them.
use Rattle.std.specs.Prelude.{ℕ, zero, suc, ◌+◌, ◌==◌, ◌||◌, Bool, true, not, [], ◌∷◌, length, take, drop, if◌then◌else◌}
use Rattle.std.specs.List.{position_or_len, prefix_len}
use Rattle.paw_base.specs.Bytes.{Bytes}
use Rattle.paw_author.specs.declared.fragment.Origin.{Origin}
use Rattle.paw_author.specs.Fragments.{WithOrigin, Fragments}

-- Whether a byte stands between tokens: it is a blank, a tab, or a byte of a line end.
abbrev pub is_gap : ℕ → Bool
is_gap b = b == 0x20 || b == 9 || b == 10 || b == 13

-- Whether a byte ends a token: it stands between tokens, or is `;` or `+`.
abbrev pub stops_token : ℕ → Bool
stops_token b = is_gap b || b == 59 || b == 43

-- How many bytes a text goes on for, by whether its last quote is still to come. A quote that another one follows
-- doesn't end it.
unfoldable pub quoted_len : Bool → Bytes → ℕ
quoted_len inside [] = 0
quoted_len inside (b ∷ bs) =
    if b == 34 then suc (quoted_len (not inside) bs) else if inside then suc (quoted_len inside bs) else 0

-- How many bytes the first part of a line has: blanks, a comment, `+`, a text in quotes, or another token.
abbrev pub part_len : Bytes → ℕ
part_len [] = 0
part_len (b ∷ bs) =
    if is_gap b then 1 + prefix_len is_gap bs
    else if b == 59 then 1 + length bs
    else if b == 43 then 1
    else if b == 34 then 1 + quoted_len true bs
    else 1 + position_or_len stops_token bs

-- The first bytes of a line as a part.
abbrev pub first_part : Origin → ℕ → Bytes → WithOrigin
first_part origin n line = record { origin = origin; bytes = take n line }

-- A place in the same line, n columns further.
abbrev pub further : ℕ → Origin → Origin
further n origin = record origin { column = origin.column + n }

-- The parts of the bytes from this place on; there are at most n of them.
unfoldable pub parts_from : ℕ → Origin → Bytes → Fragments
parts_from zero origin bytes = []
parts_from (suc n) origin [] = []
parts_from (suc n) origin (b ∷ bs) =
    first_part origin (part_len (b ∷ bs)) (b ∷ bs)
    ∷ parts_from n (further (part_len (b ∷ bs)) origin) (drop (part_len (b ∷ bs)) (b ∷ bs))

-- The parts of a line of a file. No part is empty, so there are no more parts than bytes.
abbrev pub line_parts : ℕ → ℕ → Bytes → Fragments
line_parts file line bytes = parts_from (length bytes) (record { file = file; line = line; column = 1 }) bytes
