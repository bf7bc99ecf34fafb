use Rattle.std.proofs.Common.{◌≡◌, ◌+◌, length, drop}
use Rattle.std.specs.List.{flat_map}
use Rattle.paw_image.proofs.rows.length_of_rows.Given as goal

abbrev pub invariant-loop-row : goal.invariant-loop-row
invariant-loop-row g l = l.total + length (flat_map g.R.Row.spelling (drop l.row-index l.rows)) ≡ length (flat_map g.R.Row.spelling l.rows)
