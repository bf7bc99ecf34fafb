-- What the table of condacts says of a code, compared with what it means.
use Rattle.std.specs.Prelude.{ℕ, ◌≡◌, not, length}
use Rattle.paw_base.specs.inner.Condacts.{IsCode, is_act}
use Rattle.paw_base.specs.Condacts.{condact_lines, plain_code}
use Rattle.paw_effects.specs.Meanings.{meanings, meaning_of, is_test}

-- A code's row says that it acts exactly where it means an action; an indirect one means what the plain one does.
abbrev pub EachActsAsItsRowSays : Type 0
EachActsAsItsRowSays = (code : ℕ) → IsCode code → is_act code ≡ not (is_test (meaning_of (plain_code code)))

-- There are as many meanings as plain codes.
abbrev pub EachCodeHasAMeaning : Type 0
EachCodeHasAMeaning = length meanings ≡ length condact_lines
