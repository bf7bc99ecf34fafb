-- A game as seven lists.
use Rattle.std.specs.Prelude.{ℕ, List, length}
use Rattle.paw_base.specs.Bytes.{Texts}
use Rattle.paw_base.specs.declared.parts.Counts.{Counts}
use Rattle.paw_game.specs.declared.parts.Word.{Word}
use Rattle.paw_game.specs.declared.parts.ObjectRow.{ObjectRow}
use Rattle.paw_game.specs.declared.parts.Exit.{Exit}
use Rattle.paw_game.specs.declared.parts.Entry.{Entry}

-- A game: its words, system messages, messages, objects, locations, the exits of each location, and tables of entries.
pub record GameLists : Type 0 where
  pub words : List Word
  pub system : Texts
  pub messages : Texts
  pub objects : List ObjectRow
  pub locations : Texts
  pub exits : List (List Exit)
  pub tables : List (List Entry)

-- These numbers of words, system messages, messages, objects, locations and tables, as counts.
abbrev pub counts_with : ℕ → ℕ → ℕ → ℕ → ℕ → ℕ → Counts
counts_with w s m o l t = record { words = w; system = s; messages = m; objects = o; locations = l; tables = t }

-- How many rows each part of a game has; exits aren't counted.
abbrev pub counts_of : GameLists → Counts
counts_of g =
    counts_with (length g.words) (length g.system) (length g.messages) (length g.objects) (length g.locations)
    (length g.tables)
