-- How long the texts of a game are at most, as they are printed.
use Rattle.std.specs.Prelude.{ℕ, ◌+◌, ◌==◌, max, List, [], ◌∷◌, length, map, sum_by, slice_get, if◌then◌else◌}
use Rattle.std.specs.Option.{unwrap_or}
use Rattle.paw_base.specs.Bytes.{Text, Texts}
use Rattle.paw_game.specs.Game.{GameLists}

-- The greatest of some numbers; 0 where there is none.
unfoldable pub greatest : List ℕ → ℕ
greatest [] = 0
greatest (n ∷ ns) = max n (greatest ns)

-- The length of the longest text of an object.
abbrev pub longest_name : GameLists → ℕ
longest_name g = greatest (map (λ o. length o.text) g.objects)

-- The most bytes that a byte of a text prints: one, or for an underscore (95) as many as the longest object's text has.
abbrev pub most_of_byte : GameLists → ℕ → ℕ
most_of_byte g b = if b == 95 then longest_name g else 1

-- The measure of a text: the most bytes that it prints.
abbrev pub most_bytes : GameLists → Text → ℕ
most_bytes g text = sum_by (most_of_byte g) text

-- The measure of the text with this number; 0 where there is none.
abbrev pub most_at : GameLists → Texts → ℕ → ℕ
most_at g texts n = most_bytes g (unwrap_or (slice_get texts n) [])

-- The greatest measure of these texts; 0 where there is none.
abbrev pub most_of : GameLists → Texts → ℕ
most_of g texts = greatest (map (most_bytes g) texts)

-- The most bytes of a system message that is put.
abbrev pub most_put : GameLists → ℕ → ℕ
most_put g s = most_at g g.system s

-- The most bytes of a system message that is said: a newline follows it.
abbrev pub most_said : GameLists → ℕ → ℕ
most_said g s = most_put g s + 1
