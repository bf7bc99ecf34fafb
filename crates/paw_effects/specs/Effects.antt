-- What an action prints, the world after it, and how reading goes on.
use Rattle.std.specs.Option.{option_map_or}
use Rattle.paw_base.specs.declared.parts.Condact.{Condact}
use Rattle.paw_world.specs.World.{World}
pub use Rattle.paw_effects.specs.Done.{Done, dropping_act, leads, prints, makes}
pub use Rattle.paw_effects.specs.inner.Done.{DoesAs, Does}
use Rattle.paw_effects.specs.Story.{Story}
pub use Rattle.paw_effects.specs.Referring.{object_referred}
use Rattle.paw_effects.specs.Indirect.{as_plain}
use Rattle.paw_effects.specs.Meanings.{Meaning, Tests, Acts, meaning_of}

-- What a condact does, by its meaning; a condition does nothing.
abbrev pub done_by : Meaning → Story → World → Condact → Done
done_by (Tests holds) s w c = makes w
done_by (Acts done) s w c = done s w c

-- What a plain action does, by its meaning.
unfoldable pub plain_effect : Story → World → Condact → Done
plain_effect s w c = done_by (meaning_of c.code) s w c

-- What an action does: the same as the plain action that is carried out for it, or nothing where there is none.
unfoldable pub effect_of : Story → World → Condact → Done
effect_of s w c = option_map_or (plain_effect s w) (as_plain s.game w c) (makes w)
