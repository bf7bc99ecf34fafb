-- Chance.
use Rattle.std.specs.Prelude.{ℕ, ◌+◌, ◌%◌}
use Rattle.paw_world.specs.Draws.{random_word}
use Rattle.paw_world.specs.World.{World}

-- A number from 1 to 100, by the next random word.
abbrev pub percent_drawn : World → ℕ
percent_drawn w = 1 + random_word w.seed w.draws % 100
