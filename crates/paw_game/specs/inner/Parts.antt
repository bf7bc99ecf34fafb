-- Parts of a game by their numbers.
use Rattle.std.specs.Prelude.{ℕ}
use Rattle.paw_base.specs.declared.parts.Condact.{Condact}

-- A condact: its code, and its two parameters.
abbrev pub condact_of : ℕ × ℕ × ℕ → Condact
condact_of c = record { code = c.0; a = c.1; b = c.2 }
