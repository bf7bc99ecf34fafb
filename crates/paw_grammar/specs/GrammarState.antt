-- What the lines of a source spell, as far as they are read.
use Rattle.std.specs.Prelude.{ℕ, ◌-◌, Bool, false, List, [], ◌++◌, length, replicate}
use Rattle.std.specs.Prelude.{map, slice_set}
use Rattle.std.specs.List.{slice_index_or, zip}
use Rattle.paw_base.specs.Bytes.{Text, Texts}
use Rattle.paw_base.specs.declared.parts.ObjectFacts.{ObjectFacts}
use Rattle.paw_game.specs.declared.parts.Word.{Word}
use Rattle.paw_game.specs.declared.parts.ObjectRow.{ObjectRow}
use Rattle.paw_game.specs.declared.parts.Exit.{Exit}
use Rattle.paw_game.specs.declared.parts.Entry.{Entry}
use Rattle.paw_game.specs.Game.{GameLists}
use Rattle.paw_grammar.specs.declared.section.Section.{Section}
use Rattle.paw_grammar.specs.declared.section.Section.TheVariants as section

-- The section that is open, and the rows that were read.
pub record Spelt : Type 0 where
  pub section : Section
  pub words : List Word  -- In the order of their letters.
  pub system : Texts
  pub messages : Texts
  pub names : Texts  -- The texts of the objects.
  pub locations : Texts
  pub begun : Bool  -- Whether the last text has a line.
  pub exits : List (List Exit)  -- Those of the locations up to the last item of /CON.
  pub facts : List ObjectFacts  -- Those of the objects up to the last row of /OBJ.
  pub tables : List (List Entry)

-- What is spelled before the first line.
abbrev pub nothing_yet : Spelt
nothing_yet = record {
  section = section.Before;
  words = [];
  system = [];
  messages = [];
  names = [];
  locations = [];
  begun = false;
  exits = [];
  facts = [];
  tables = [];
}

-- The last of a list; this other value where the list is empty.
abbrev pub last_or : {A : Type 0} → A → List A → A
last_or other xs = slice_index_or xs (length xs - 1) other

-- The list with this in place of its last.
abbrev pub with_last : {A : Type 0} → A → List A → List A
with_last x xs = slice_set xs (length xs - 1) x

-- Each text with the facts of its row.
unfoldable pub objects_of : Texts → List ObjectFacts → List ObjectRow
objects_of texts facts = map (λ (o : Text × ObjectFacts). record { text = o.0; facts = o.1 }) (zip texts facts)

-- A list of exits for each location; those that have no item of /CON have no exits.
abbrev pub all_exits : ℕ → List (List Exit) → List (List Exit)
all_exits locations es = es ++ replicate (locations - length es) []

-- The game that the lines spell.
abbrev pub game_of : Spelt → GameLists
game_of d = record {
  words = d.words;
  system = d.system;
  messages = d.messages;
  objects = objects_of d.names d.facts;
  locations = d.locations;
  exits = all_exits (length d.locations) d.exits;
  tables = d.tables;
}
