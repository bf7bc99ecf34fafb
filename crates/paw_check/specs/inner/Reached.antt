-- How many levels of calls have a table.
use Rattle.std.specs.Prelude.{ℕ, List, length, count_by, nat_lt}
use Rattle.std.specs.List.{range_with_len}
use Rattle.paw_game.specs.Game.{GameLists}
use Rattle.paw_check.specs.Calls.{called_below}

-- How many of the first n levels of calls below these tables have a table.
abbrev pub levels_from : GameLists → List ℕ → ℕ → ℕ
levels_from g ts n = count_by (λ k. nat_lt 0 (length (called_below g ts k))) (range_with_len 1 n)
