-- The places of a game: definitions for contracts and proofs, besides those of specs/Worlds.antt.
use Rattle.std.specs.Prelude.{length, Option, IfSome, IsTrue, All}
use Rattle.paw_base.specs.Bytes.{ObjectPlaces}
use Rattle.paw_game.specs.Game.{GameLists}
use Rattle.paw_game.specs.Valid.{is_place}
use Rattle.paw_world.specs.World.{Position}

-- Each of these is a place of the game.
abbrev pub ArePlacesOf : GameLists → ObjectPlaces → Type 0
ArePlacesOf g places = All (λ p. IsTrue (is_place (length g.locations) p)) places

-- Each object of a position, where there is one, stands at a place of the game.
abbrev pub StandsIn : GameLists → Option Position → Type 0
StandsIn g saved = IfSome saved (λ q. ArePlacesOf g q.places)
