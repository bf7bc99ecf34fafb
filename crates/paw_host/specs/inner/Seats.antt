-- The player of a hosted game, inside a call.
use Rattle.std.specs.Prelude.{◌≡◌, ℕ}
use Rattle.std.specs.Fn.{Shared}
use Rattle.paw_base.specs.Bytes.{Bytes}
use Rattle.paw_game.specs.Game.{GameLists}
use Rattle.paw_turn.specs.inner.Player.{PlayerView}
use Rattle.paw_play.specs.inner.Open.{IsPrepared}

-- A player of the hosted game: its game is that of these tables, and these are the digests of what it plays with.
pub record IsHosted {F : Type 0} (calls : Shared F (ℕ × (ℕ × Unit {0})) ℕ) (tables : GameLists) (game rules : Bytes)
    (seat : PlayerView F) : Type 0 where
  pub prepared : IsPrepared calls game rules seat
  pub same : seat.game ≡ tables
