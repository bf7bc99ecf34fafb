-- What the code keeps of a game's texts, and what each condact takes by it.
use Rattle.std.specs.Prelude.{ℕ, ◌+◌, ◌==◌, List, [], sum_by, slice_get, if◌then◌else◌}
use Rattle.std.specs.List.{slice_index_or}
use Rattle.std.specs.Option.{unwrap_or}
use Rattle.paw_base.specs.Bytes.{Text, Texts}
use Rattle.paw_base.specs.declared.parts.Condact.{Condact}
use Rattle.paw_base.specs.Condacts.{is_indirect, plain_code}
use Rattle.paw_check.specs.declared.own.Own.{Own}
use Rattle.paw_check.specs.declared.own.Own.TheVariants as own
use Rattle.paw_check.specs.declared.prints.Printed.{Printed}
use Rattle.paw_check.specs.declared.prints.Printed.TheVariants as printed
use Rattle.paw_check.specs.declared.prints.Prints.{Prints}
use Rattle.paw_check.specs.declared.prints.TheConstants.{PRINTED}
use Rattle.paw_check.specs.inner.Capped.{in_32_bits}

-- ---- texts ----

-- The most bytes that a byte prints, where the longest name has this many.
abbrev pub byte_in : ℕ → ℕ → ℕ
byte_in name b = if b == 95 then name else 1

-- The most bytes that a text prints, where the longest name has this many.
abbrev pub measure_in : ℕ → Text → ℕ
measure_in name text = sum_by (byte_in name) text

-- The same for the text with this number.
abbrev pub measure_at : ℕ → Texts → ℕ → ℕ
measure_at name texts n = measure_in name (unwrap_or (slice_get texts n) [])

-- ---- condacts ----

-- What a condact with this code prints.
abbrev pub kind_of : ℕ → Printed
kind_of code = slice_index_or PRINTED (plain_code code) printed.Nothing

-- The most bytes of the text that a condact's first parameter names: one of these or, where a flag names it, any.
abbrev pub named_in : List ℕ → ℕ → Condact → ℕ
named_in texts any c = if is_indirect c.code then any else slice_index_or texts c.a 0

-- The most bytes that a condact prints, by what it prints.
abbrev pub kind_in : Prints → Printed → Condact → ℕ
kind_in p printed.Nothing c = 0
kind_in p printed.Newline c = 1
kind_in p printed.Flag c = 3
kind_in p printed.Sign c = 20
kind_in p printed.Action c = p.action
kind_in p printed.Inventory c = p.inventory
kind_in p printed.Turns c = p.turns
kind_in p printed.Score c = p.score
kind_in p printed.Here c = p.here
kind_in p printed.There c = p.there
kind_in p (printed.Put s) c = slice_index_or p.system s 0
kind_in p (printed.Said s) c = in_32_bits (slice_index_or p.system s 0 + 1)
kind_in p printed.Message c = named_in p.messages p.any_message c
kind_in p printed.MessageLine c = in_32_bits (named_in p.messages p.any_message c + 1)
kind_in p printed.System c = named_in p.system p.any_system c

-- The most bytes that a condact prints.
abbrev pub text_in : Prints → Condact → ℕ
text_in p c = kind_in p (kind_of c.code) c

-- What a condact takes by itself.
abbrev pub own_in : Own → Condact → ℕ
own_in own.Condacts c = 1
own_in (own.Text p) c = text_in p c
