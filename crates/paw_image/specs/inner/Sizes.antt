-- What an image has room for in a row: a number of one byte or two for each length, six bits for a weight, and no
-- parameter that a code doesn't have.
use Rattle.std.specs.Prelude.{◌≡◌, ℕ, ◌^◌, ◌<◌, List, length}
use Rattle.std.specs.List.{AllByRecursion}
use Rattle.paw_base.specs.Bytes.{Text}
use Rattle.paw_base.specs.declared.limits.TheConstants.{WORD_LENGTH}
use Rattle.paw_base.specs.declared.parts.Condact.{Condact}
use Rattle.paw_base.specs.declared.rows.ParamKind.{ParamKind}
use Rattle.paw_base.specs.declared.rows.ParamKind.TheVariants as kind
use Rattle.paw_base.specs.Condacts.{first_kind, second_kind}
use Rattle.paw_base.specs.inner.Condacts.{IsCode}
use Rattle.paw_game.specs.declared.parts.Word.{Word}
use Rattle.paw_game.specs.declared.parts.ObjectRow.{ObjectRow}
use Rattle.paw_game.specs.declared.parts.Exit.{Exit}
use Rattle.paw_game.specs.declared.parts.Entry.{Entry}
use Rattle.paw_game.specs.Game.{GameLists}

-- There are five letters.
abbrev pub FitsWord : Word → Type 0
FitsWord w = length w.letters ≡ WORD_LENGTH

-- The length fits into two bytes.
abbrev pub FitsText : Text → Type 0
FitsText text = length text < 2 ^ 16

-- The weight fits into six bits, which two more follow.
pub record FitsObject (o : ObjectRow) : Type 0 where
  pub text : FitsText o.text
  pub weight : o.facts.weight < 64

-- An exit has two bytes, whatever they are.
abbrev pub FitsExit : Exit → Type 0
FitsExit x = Unit {0}

-- The length fits into one byte.
abbrev pub FitsExits : List Exit → Type 0
FitsExits xs = length xs < 256

-- A parameter that isn't there is 0.
abbrev pub FitsParameter : ParamKind → ℕ → Type 0
FitsParameter kind.Absent x = x ≡ 0
FitsParameter _ x = Unit {0}

-- The code has a row, and there are no more than its parameters.
pub record FitsCondact (c : Condact) : Type 0 where
  pub code : IsCode c.code
  pub a : FitsParameter (first_kind c.code) c.a
  pub b : FitsParameter (second_kind c.code) c.b

-- The length fits into one byte, and the condacts fit.
pub record FitsEntry (e : Entry) : Type 0 where
  pub count : length e.condacts < 256
  pub condacts : AllByRecursion FitsCondact e.condacts

-- The length fits into two bytes, and the entries fit.
pub record FitsTable (es : List Entry) : Type 0 where
  pub count : length es < 2 ^ 16
  pub entries : AllByRecursion FitsEntry es

-- The counts fit into two bytes; that of the locations stands for their exits too.
pub record FitsCounts (g : GameLists) : Type 0 where
  pub words : length g.words < 2 ^ 16
  pub system : length g.system < 2 ^ 16
  pub messages : length g.messages < 2 ^ 16
  pub objects : length g.objects < 2 ^ 16
  pub locations : length g.locations < 2 ^ 16
  pub exits : length g.exits ≡ length g.locations
  pub tables : length g.tables < 2 ^ 16

-- Every row fits.
pub record FitsGame (g : GameLists) : Type 0 where
  pub counts : FitsCounts g
  pub words : AllByRecursion FitsWord g.words
  pub system : AllByRecursion FitsText g.system
  pub messages : AllByRecursion FitsText g.messages
  pub objects : AllByRecursion FitsObject g.objects
  pub locations : AllByRecursion FitsText g.locations
  pub exits : AllByRecursion FitsExits g.exits
  pub tables : AllByRecursion FitsTable g.tables
