-- What a refusal says of a source.
use Rattle.std.specs.Prelude.{◌≡◌, ℕ, Result, Ok, Err}
use Rattle.paw_base.specs.declared.fault.SourceFault.{SourceFault}
use Rattle.paw_game.specs.Game.{GameLists}
use Rattle.paw_base.specs.declared.fault.SourceKind.{SourceKind}
use Rattle.paw_read_error.specs.declared.read_error.ReadError.{ReadError}
use Rattle.paw_read_error.specs.declared.read_error.ReadError.TheVariants as unread
use Rattle.paw_grammar.specs.Spells.{fault}
use Rattle.paw_source.specs.declared.refusal.SourceRefusal.{SourceRefusal}
use Rattle.paw_source.specs.declared.refusal.SourceRefusal.TheVariants as refusal

-- A fault is the one that the source has; lack of memory says nothing.
abbrev pub RefusesSource : SourceRefusal → Result GameLists SourceFault → Type 0
RefusesSource (refusal.Fault f) spelled = spelled ≡ Err f
RefusesSource refusal.Memory spelled = Unit {0}

-- The refusal of a source where a line is refused.
abbrev pub refused_at_line : ℕ → ReadError SourceKind → SourceRefusal
refused_at_line n unread.Memory = refusal.Memory
refused_at_line n (unread.Fault kind) = refusal.Fault (fault n kind)

-- What was answered about a source is the game that it spells, or its fault.
abbrev pub ReadsSource : Result GameLists SourceRefusal → Result GameLists SourceFault → Type 0
ReadsSource (Ok game) spelled = spelled ≡ Ok game
ReadsSource (Err refused) spelled = RefusesSource refused spelled
