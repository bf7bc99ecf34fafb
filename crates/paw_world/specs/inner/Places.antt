-- Objects by their place.
use Rattle.std.specs.Prelude.{ℕ, zero, suc, ◌-◌, ◌==◌, length, Option, Some, None, slice_index, if◌then◌else◌}
use Rattle.paw_base.specs.Bytes.{ObjectPlaces}

-- The least of the last n objects that stands at this place; nothing where none does.
unfoldable pub least_at : ObjectPlaces → ℕ → ℕ → Option ℕ
least_at places p zero = None
least_at places p (suc n) =
    if slice_index places (length places - suc n) == p then Some (length places - suc n) else least_at places p n

-- How many objects are above this one, or how many there are where none is given.
abbrev pub left_above : ObjectPlaces → Option ℕ → ℕ
left_above places None = length places
left_above places (Some o) = length places - suc o
