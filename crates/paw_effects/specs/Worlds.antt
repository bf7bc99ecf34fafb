-- The worlds of a game.
use Rattle.std.specs.Prelude.{◌≡◌, length, map}
use Rattle.paw_base.specs.declared.limits.TheConstants.{FLAG_COUNT}
use Rattle.paw_game.specs.Game.{GameLists}
use Rattle.paw_world.specs.World.{World}

-- A world of this game: the facts of its objects and its number of locations are the game's; it has 256 flags, and a
-- place for each object.
pub record IsOf (g : GameLists) (w : World) : Type 0 where
  pub facts : w.facts ≡ map (λ o. o.facts) g.objects
  pub locations : w.locations ≡ length g.locations
  pub flags : length w.flags ≡ FLAG_COUNT
  pub places : length w.places ≡ length g.objects
