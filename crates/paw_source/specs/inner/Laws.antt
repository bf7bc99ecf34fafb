-- Laws of the grammar.
use Rattle.std.specs.Prelude.{◌≡◌, ◌≤◌, ◌⊎◌, ℕ, suc, ◌+◌, [], ◌∷◌, ◌++◌, length, Result, Ok, Err}
use Rattle.std.specs.List.{count_by}
use Rattle.paw_base.specs.Bytes.{Bytes, Line, Lines}
use Rattle.paw_base.specs.declared.fault.SourceKind.{SourceKind}
use Rattle.paw_base.specs.declared.limits.TheConstants.{SOURCE_LIMIT, TABLE_LEAST}
use Rattle.paw_game.specs.Game.{GameLists}
use Rattle.paw_game.specs.Valid.{Valid}
use Rattle.paw_read_error.specs.Bind.{◌>>=◌}
use Rattle.paw_lex.specs.Lines.{lines_of}
use Rattle.paw_grammar.specs.GrammarState.{Spelt, nothing_yet, game_of}
use Rattle.paw_base.specs.declared.fault.SourceFault.{SourceFault}
use Rattle.paw_grammar.specs.Spells.{after_line, begins_table, fault, game_spelled, Spells}

-- What the lines spell after what is spelled already, where none of them has a fault.
unfoldable pub after_lines : ℕ → Spelt → Lines → Result Spelt SourceKind
after_lines p d [] = Ok d
after_lines p d (l ∷ ls) = after_line p d l >>= λ e. after_lines p e ls

-- A line with a fault of this kind comes after n lines with none.
pub record HasFault (p : ℕ) (d : Spelt) (ls : Lines) (n : ℕ) (k : SourceKind) : Type 0 where
  pub before : Lines
  pub line : Line
  pub after : Lines
  pub draft : Spelt
  pub parts : ls ≡ before ++ line ∷ after
  pub number : length before ≡ n
  pub no_fault : after_lines p d before ≡ Ok draft
  pub fault : after_line p draft line ≡ Err k

-- No line has a fault.
pub record HasNone (p : ℕ) (d : Spelt) (ls : Lines) : Type 0 where
  pub draft : Spelt
  pub no_fault : after_lines p d ls ≡ Ok draft

-- The first fault of a source, whose lines are read from the first on.
abbrev pub FirstFault : Bytes → ℕ → SourceKind → Type 0
FirstFault source n k = HasFault (count_by begins_table (lines_of source)) nothing_yet (lines_of source) n k

-- No line of a source has a fault.
abbrev pub HasNoFault : Bytes → Type 0
HasNoFault source = HasNone (count_by begins_table (lines_of source)) nothing_yet (lines_of source)

-- The first line with a fault is named, by its number, where the source isn't too long.
abbrev pub NamesTheFirst : Type 0
NamesTheFirst = (source : Bytes) (n : ℕ) (k : SourceKind) → length source ≤ SOURCE_LIMIT → FirstFault source n k
    → game_spelled source ≡ Err (fault (suc n) k)

-- The line that is named is the first with a fault, or, where no line has one, the line after the last.
abbrev pub IsNamedRightly : Type 0
IsNamedRightly = (source : Bytes) (f : SourceFault) → length source ≤ SOURCE_LIMIT → game_spelled source ≡ Err f
    → ((n : ℕ) × (f.line ≡ suc n) × FirstFault source n f.kind)
    ⊎ ((f.line ≡ suc (length (lines_of source))) × HasNoFault source)

-- Lines without a fault begin as many tables as were counted.
abbrev pub CountsTables : Type 0
CountsTables = (p : ℕ) (d e : Spelt) (ls : Lines) → after_lines p d ls ≡ Ok e
    → length e.tables ≡ length d.tables + count_by begins_table ls

-- Lines of a source without a fault spell a valid game where they reach table 2, however long its image is.
abbrev pub DraftsAreValid : Type 0
DraftsAreValid = (source : Bytes) (d : Spelt)
    → after_lines (count_by begins_table (lines_of source)) nothing_yet (lines_of source) ≡ Ok d
    → TABLE_LEAST ≤ length d.tables → Valid (game_of d)

-- What a source spells is a valid game.
abbrev pub SpellsValidGames : Type 0
SpellsValidGames = (source : Bytes) (g : GameLists) → Spells source g → Valid g
