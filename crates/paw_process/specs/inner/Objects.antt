-- The objects that a loop takes.
use Rattle.std.specs.Prelude.{ℕ, zero, suc, ◌-◌, ◌==◌, ◌&&◌, Bool, Option, Some, None, length, if◌then◌else◌}
use Rattle.paw_base.specs.declared.flags.TheConstants.{LOOP_FLAG}
use Rattle.paw_game.specs.Game.{GameLists}
use Rattle.paw_game.specs.Tables.{facts_at}
use Rattle.paw_world.specs.World.{World, place, with_flag}
use Rattle.paw_effects.specs.Effects.{object_referred}
use Rattle.paw_reading.specs.Reading.{may_be_taken, object_named}

-- Whether an object is at a place, and a loop may take it.
abbrev pub is_next : GameLists → World → ℕ → ℕ → Bool
is_next g w p o = (place w o == p) && may_be_taken w (facts_at g o)

-- The least of the last n objects that a loop over a place takes in the world as it is; none where it takes none.
unfoldable pub least_taken : GameLists → World → ℕ → ℕ → Option ℕ
least_taken g w p zero = None
least_taken g w p (suc n) =
    if is_next g w p (length g.objects - suc n) then Some (length g.objects - suc n) else least_taken g w p n

-- The world once a loop has taken an object.
abbrev pub with_taken : GameLists → World → ℕ → World
with_taken g w o = object_referred (with_flag (object_named w (facts_at g o)) LOOP_FLAG o) o
