-- Worlds as a game may be in: definitions for contracts and proofs, besides those of specs/Standing.antt.
use Rattle.std.specs.Prelude.{◌≡◌, Option, length, IfSome, All}
use Rattle.paw_base.specs.declared.limits.TheConstants.{FLAG_COUNT, POSITION_COUNT}
use Rattle.paw_game.specs.Game.{GameLists}
use Rattle.paw_world.specs.World.{World, Position}
use Rattle.paw_effects.specs.Worlds.{IsOf}
use Rattle.paw_effects.specs.inner.Worlds.{ArePlacesOf}
use Rattle.paw_effects.specs.Standing.{AreBytes}

-- A position of the game: 256 flags that are bytes, and each object at a place.
pub record IsPositionOf (g : GameLists) (q : Position) : Type 0 where
  pub flags : length q.flags ≡ FLAG_COUNT
  pub bytes : AreBytes q.flags
  pub each : length q.places ≡ length g.objects
  pub places : ArePlacesOf g q.places

-- A position of the game, where there is one.
abbrev pub MayBePosition : GameLists → Option Position → Type 0
MayBePosition g q = IfSome q (IsPositionOf g)

-- A world as the game may be in: its flags are bytes, each object stands at a place, and the same holds of the saved
-- position and of each of the four kept ones.
pub record IsWorldOf (g : GameLists) (w : World) : Type 0 where
  pub of : IsOf g w
  pub flags : AreBytes w.flags
  pub places : ArePlacesOf g w.places
  pub saved : MayBePosition g w.saved
  pub four : length w.kept ≡ POSITION_COUNT
  pub kept : All (MayBePosition g) w.kept
