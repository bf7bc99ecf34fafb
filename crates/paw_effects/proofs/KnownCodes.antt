-- What a condact of a known code means, and what its parameters are, as a search sees them.
use Rattle.std.specs.Prelude.{⊤}
use Rattle.paw_base.specs.Condacts.{line_of, plain_line, is_indirect, condact_lines}
use Rattle.paw_effects.specs.Meanings.{meaning_of, meanings}
use Rattle.paw_effects.specs.Holds.{plain_holds}
use Rattle.paw_effects.specs.Effects.{plain_effect}

-- The definitions that a search opens to read the row of a code that it knows.
unfoldable pub known_code : ⊤
unfolding meaning_of meanings line_of plain_line is_indirect condact_lines
known_code = tt

-- What it opens to see what a condition of a known code answers.
unfoldable pub known_condition : ⊤
unfolding known_code plain_holds
known_condition = tt

-- What it opens to see what an action of a known code does.
unfoldable pub known_action : ⊤
unfolding known_code plain_effect
known_action = tt
