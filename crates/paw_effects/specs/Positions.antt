-- The kept positions, and taking one back.
use Rattle.std.specs.Prelude.{ℕ, ◌%◌, Option, None, Some}
use Rattle.paw_base.specs.declared.flags.TheConstants.{POSITION_FLAG}
use Rattle.paw_base.specs.declared.messages.TheConstants.{IMPOSSIBLE_MESSAGE}
use Rattle.paw_base.specs.declared.limits.TheConstants.{POSITION_COUNT}
use Rattle.paw_game.specs.Game.{GameLists}
use Rattle.paw_world.specs.World.{World, Position, flag}
use Rattle.paw_effects.specs.declared.act.Effect.TheVariants as effect
use Rattle.paw_effects.specs.Done.{Done, prints_then, leads}
use Rattle.paw_effects.specs.Texts.{say_text}

-- The number of the kept position that is meant.
abbrev pub position_number : World → ℕ
position_number w = flag w POSITION_FLAG % POSITION_COUNT

-- All flags, the count of carried objects too, and all places become those of a position; where none was kept, a
-- message says that this can't be done. Either way the location is described again.
abbrev pub position_loaded : GameLists → World → Option Position → Done
position_loaded g w None = prints_then w (say_text g w IMPOSSIBLE_MESSAGE) effect.Redescribe
position_loaded g w (Some q) = leads (record w { flags = q.flags; places = q.places }) effect.Redescribe
