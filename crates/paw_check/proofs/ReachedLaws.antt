-- Levels of calls, one after the other.
use Rattle.std.proofs.Common.{◌≡◌, ℕ, suc, ◌<◌, Bool, false, List, length, refl}
use Rattle.std.specs.Prelude.{flat_map}
use Rattle.std.specs.List.{range_with_len, slice_index_or}
use Rattle.paw_game.specs.Game.{GameLists}
use Rattle.paw_check.specs.Calls.{called_below, called_from}
use Rattle.paw_check.specs.Verbs.{is_among}

-- The flags mark the tables of the first n levels.
pub record Marked (g : GameLists) (ts : List ℕ) (n : ℕ) (marks : List Bool) : Type 0 where
  pub long : length marks ≡ 256
  pub each : (u : ℕ) → u < 256 → slice_index_or marks u false ≡ is_among (flat_map (called_below g ts) (range_with_len 0 n)) u

pub below_none : (g : GameLists) (ts : List ℕ) → called_below g ts 0 ≡ ts
unfolding called_below
below_none g ts = refl

pub below_more : (g : GameLists) (ts : List ℕ) (n : ℕ) → called_below g ts (suc n) ≡ called_from g (called_below g ts n)
unfolding called_below
below_more g ts n = refl
