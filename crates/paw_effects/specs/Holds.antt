-- What a condition answers in a world of a game.
use Rattle.std.specs.Prelude.{Bool, false}
use Rattle.std.specs.Option.{option_map_or}
use Rattle.paw_base.specs.declared.parts.Condact.{Condact}
use Rattle.paw_base.specs.Condacts.{plain_code}
use Rattle.paw_game.specs.Game.{GameLists}
use Rattle.paw_world.specs.World.{World}
pub use Rattle.paw_effects.specs.Tested.{Tested, truth_of, answers, moves}
use Rattle.paw_effects.specs.Indirect.{as_plain}
use Rattle.paw_effects.specs.Meanings.{Meaning, Tests, Acts, meaning_of, is_test}

-- Whether a condact is a condition: its meaning is a test. An indirect condact is a condition where the plain one is.
abbrev pub is_condition : Condact → Bool
is_condition c = is_test (meaning_of (plain_code c.code))

-- What a condact answers, by its meaning; an action answers no.
abbrev pub tested_by : Meaning → GameLists → World → Condact → Tested
tested_by (Tests holds) g w c = holds g w c
tested_by (Acts done) g w c = answers w false

-- What a plain condition answers, by its meaning.
unfoldable pub plain_holds : GameLists → World → Condact → Tested
plain_holds g w c = tested_by (meaning_of c.code) g w c

-- What a condition answers: the same as the plain condition that is carried out for it; where there is none it fails.
unfoldable pub holds : GameLists → World → Condact → Tested
holds g w c = option_map_or (plain_holds g w) (as_plain g w c) (answers w false)
