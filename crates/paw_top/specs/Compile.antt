-- How compiling a source ends, and what it leaves.
use Rattle.std.specs.Prelude.{◌≡◌, ◌⊎◌, ℕ, ◌++◌, length, take, Result, Ok, Err, Option, Some, None, codes}
use Rattle.std.specs.Fmt.{decimal}
use Rattle.paw_base.specs.Bytes.{Bytes, Name, Text}
use Rattle.paw_base.specs.declared.fault.SourceFault.{SourceFault}
use Rattle.paw_game.specs.Game.{GameLists}
use Rattle.paw_game.specs.Image.{image}
use Rattle.paw_grammar.specs.Spells.{game_spelled}
use Rattle.paw_stage.specs.Stage.{Standing, Saves, with_shown}
use Rattle.paw_stage.specs.declared.StageCall.TheVariants as call
use Rattle.paw_top.specs.declared.outcome.Outcome.{Outcome}
use Rattle.paw_top.specs.declared.outcome.Outcome.TheVariants as outcome
use Rattle.paw_top.specs.declared.outcome.MemoryAt.{MemoryAt}

-- The file of this name holds a source that spells this game, or whose first fault is this one.
abbrev pub HoldsSource : Standing → Name → Result GameLists SourceFault → Type 0
HoldsSource s name read = (bytes : Bytes) × (s.files name ≡ Some bytes) × (game_spelled bytes ≡ read)

-- The line that shows how many bytes an image has.
abbrev pub image_line : ℕ → Text
image_line size = codes "IMAGE " ++ (decimal size ++ codes " BYTES\n")

-- The file of this name now holds these bytes, and then this text was shown; all else stays.
abbrev pub SavedAndShown : Standing → Standing → Name → Bytes → Text → Type 0
SavedAndShown old new name bytes text = (mid : Standing) × Saves old mid name (Some bytes) × (new ≡ with_shown text mid)

-- How compiling ends, and what it leaves.
pub data Compiles (source target : Name) (old new : Standing) : Outcome → Type 0 where
  -- The source spells a game, the target holds its image, and the line was shown.
  done : (g : GameLists) → HoldsSource old source (Ok g) →
      SavedAndShown old new target (image g) (image_line (length (image g))) →
      Compiles source target old new outcome.Done
  -- The source has a fault; nothing is changed.
  refused : (fault : SourceFault) → HoldsSource old source (Err fault) → new ≡ old →
      Compiles source target old new (outcome.SourceRefused fault)
  -- There is no source; nothing is changed.
  absent : old.files source ≡ None → new ≡ old → Compiles source target old new (outcome.Outside call.LoadAbsent)
  -- The source couldn't be loaded; nothing is changed.
  unloaded : new ≡ old → Compiles source target old new (outcome.Outside call.Load)
  -- The image of the game couldn't be saved: the target alone may hold any bytes, or be gone; nothing was shown.
  unsaved : (g : GameLists) → HoldsSource old source (Ok g) →
      (new ≡ old) ⊎ ((left : Option Bytes) × Saves old new target left) →
      Compiles source target old new (outcome.Outside call.Save)
  -- The line couldn't be shown: the target holds the image, and a first part of the line was shown.
  unshown : (g : GameLists) (n : ℕ) → HoldsSource old source (Ok g) →
      SavedAndShown old new target (image g) (take n (image_line (length (image g)))) →
      Compiles source target old new (outcome.Outside call.Show)
  -- Memory was lacking; nothing is changed.
  memory : (at : MemoryAt) → new ≡ old → Compiles source target old new (outcome.Memory at)
