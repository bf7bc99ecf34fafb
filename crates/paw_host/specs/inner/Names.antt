-- What the code's requests ask for.
use Rattle.std.specs.Prelude.{◌≡◌, Option, Some, None}
use Rattle.std.specs.Option.{option_map}
use Rattle.paw_host.specs.Names.{Request}
use Rattle.paw_host.specs.declared.names.Request.{Request as Given}

-- What the code's request asks for.
abbrev pub asks : Given → Request
asks r = record { name = r.name.now; text = option_map (λ t. t.now) r.text }

-- The code's answer spells what is asked for.
abbrev pub SpellsRequest : Option Given → Option Request → Type 0
SpellsRequest None asked = asked ≡ None
SpellsRequest (Some r) asked = asked ≡ Some (asks r)
