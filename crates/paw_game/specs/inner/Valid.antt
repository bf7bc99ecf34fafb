-- The rules that a game's lists follow: definitions for contracts and proofs, besides those of specs/Valid.antt.
use Rattle.std.specs.Prelude.{Bool}
use Rattle.paw_base.specs.declared.parts.Condact.{Condact}
use Rattle.paw_game.specs.Game.{GameLists}
use Rattle.paw_game.specs.Valid.{fits_kinds, is_argument}

-- Whether a condact can be carried out: a word in it may be any byte.
abbrev pub is_right : GameLists → Condact → Bool
is_right g c = fits_kinds (is_argument g) c
