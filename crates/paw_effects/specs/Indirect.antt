-- Indirect condacts: they take their first parameter from a flag.
use Rattle.std.specs.Prelude.{ℕ, Option, Some, None, if◌then◌else◌}
use Rattle.paw_base.specs.declared.parts.Condact.{Condact}
use Rattle.paw_base.specs.Condacts.{first_kind, is_indirect, plain_code}
use Rattle.paw_game.specs.Game.{GameLists}
use Rattle.paw_game.specs.Valid.{is_argument}
use Rattle.paw_world.specs.World.{World, flag}

-- The plain condact that an indirect one stands for, with this value as its first parameter; nothing where the value
-- breaks the rule of what that parameter names.
abbrev pub plain_with : GameLists → Condact → ℕ → Option Condact
plain_with g c value =
    if is_argument g (first_kind (plain_code c.code)) value
    then Some (record { code = plain_code c.code; a = value; b = c.b }) else None

-- The plain condact that is carried out, if there is one: an indirect condact takes the value that its flag has now,
-- and a plain one is itself.
unfoldable pub as_plain : GameLists → World → Condact → Option Condact
as_plain g w c = if is_indirect c.code then plain_with g c (flag w c.a) else Some c
