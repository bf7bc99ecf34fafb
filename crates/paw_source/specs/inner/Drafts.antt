-- What holds of a draft while a source is read.
use Rattle.std.specs.Prelude.{ℕ, ◌≤◌, ◌<◌, List, length}
use Rattle.paw_base.specs.Bytes.{Texts}
use Rattle.paw_base.specs.declared.limits.TheConstants.{SYSTEM_LIMIT, MESSAGE_LIMIT, OBJECT_LIMIT, LOCATION_LIMIT}
use Rattle.paw_base.specs.declared.limits.TheConstants.{TABLE_LIMIT}
use Rattle.paw_base.specs.declared.parts.ObjectFacts.{ObjectFacts}
use Rattle.paw_game.specs.declared.parts.Entry.{Entry}
use Rattle.paw_grammar.specs.declared.section.Section.{Section}
use Rattle.paw_grammar.specs.declared.section.Section.TheVariants as section
use Rattle.paw_grammar.specs.GrammarState.{Spelt}

-- A section of tables has a table.
abbrev pub HasTable : Section → ℕ → Type 0
HasTable section.Before tables = Unit {0}
HasTable section.Voc tables = Unit {0}
HasTable section.Stx tables = Unit {0}
HasTable section.Mtx tables = Unit {0}
HasTable section.Otx tables = Unit {0}
HasTable section.Ltx tables = Unit {0}
HasTable section.Con tables = Unit {0}
HasTable section.Obj tables = Unit {0}
HasTable section.Pro tables = 0 < tables

-- The most rows that each list has.
pub record AreShort (opened : Section) (ss ms ns ls : Texts) (fs : List ObjectFacts) (ts : List (List Entry))
    : Type 0 where
  pub system : length ss ≤ SYSTEM_LIMIT
  pub messages : length ms ≤ MESSAGE_LIMIT
  pub names : length ns ≤ OBJECT_LIMIT
  pub locations : length ls ≤ LOCATION_LIMIT
  pub facts : length fs ≤ OBJECT_LIMIT
  pub tables : length ts ≤ TABLE_LIMIT
  pub open_table : HasTable opened (length ts)

-- No list of a draft is longer than a game's may be.
abbrev pub IsShortDraft : Spelt → Type 0
IsShortDraft d = AreShort d.section d.system d.messages d.names d.locations d.facts d.tables
