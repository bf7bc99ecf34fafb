-- The weight of objects: definitions for contracts and proofs, besides those of specs/Weight.antt.
use Rattle.std.specs.Prelude.{ℕ, ◌+◌, sum_by, min}
use Rattle.paw_world.specs.World.{World}
use Rattle.paw_world.specs.Weight.{objects_at, weight_down}

-- A weight together with that of all objects at a place, at most 255.
abbrev pub weight_with : World → ℕ → ℕ → ℕ → ℕ
weight_with w n own p = min 255 (own + sum_by (weight_down w n) (objects_at w p))
