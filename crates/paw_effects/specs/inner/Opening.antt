-- The start of a game.
use Rattle.std.specs.Prelude.{length, map}
use Rattle.paw_base.specs.Bytes.{Seed}
use Rattle.paw_game.specs.Game.{GameLists}
use Rattle.paw_world.specs.World.{World, starting_world}

-- The world at the start of a game.
abbrev pub opening_world : GameLists → Seed → World
opening_world g seed = starting_world (map (λ o. o.facts) g.objects) (length g.locations) seed
