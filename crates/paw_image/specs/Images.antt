-- Which bytes are an image.
use Rattle.std.specs.Prelude.{◌≡◌, ◌≤◌, length}
use Rattle.paw_base.specs.Bytes.{Bytes}
use Rattle.paw_game.specs.Game.{GameLists}
use Rattle.paw_game.specs.Valid.{Valid}
use Rattle.paw_game.specs.Image.{image}

-- These bytes are the image of this valid game, and at most 4,194,304.
pub record IsImage (bytes : Bytes) (g : GameLists) : Type 0 where
  pub spelled : bytes ≡ image g
  pub valid : Valid g
  pub short : length bytes ≤ 4194304
