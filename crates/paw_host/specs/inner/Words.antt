-- What the code's calls ask for.
use Rattle.std.specs.Prelude.{◌≡◌, Option, Some, None}
use Rattle.paw_host.specs.Words.{HostCall}
use Rattle.paw_host.specs.declared.words.HostCall.{HostCall as Given}

-- What the code's call asks for.
abbrev pub means : Given → HostCall
means c = record { image = c.image.now; seed = c.seed }

-- The code's answer spells what is asked for.
abbrev pub SpellsCall : Option Given → Option HostCall → Type 0
SpellsCall None asked = asked ≡ None
SpellsCall (Some c) asked = asked ≡ Some (means c)
