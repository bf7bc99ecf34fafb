-- How showing a text of the game of an image ends, and decompiling it.
use Rattle.std.specs.Prelude.{◌≡◌}
use Rattle.paw_base.specs.Bytes.{Name, Text}
use Rattle.paw_game.specs.Game.{GameLists}
use Rattle.paw_print.specs.Canonical.{canonical_of}
use Rattle.paw_stage.specs.Stage.{Standing, with_shown, InShow}
use Rattle.paw_stage.specs.declared.StageCall.TheVariants as call
use Rattle.paw_play.specs.ImageFiles.{Holds}
use Rattle.paw_top.specs.Opens.{Unopened}
use Rattle.paw_top.specs.declared.outcome.Outcome.{Outcome}
use Rattle.paw_top.specs.declared.outcome.Outcome.TheVariants as outcome
use Rattle.paw_top.specs.declared.outcome.MemoryAt.{MemoryAt}
use Rattle.paw_top.specs.declared.outcome.MemoryAt.TheVariants as memory

-- How a command that shows a text of a game ends, and what it leaves. The text follows from the game, and memory may be
-- lacking for it.
pub data ShowsTextOf (text_of : GameLists → Text) (at : MemoryAt) (name : Name) (old new : Standing)
    : Outcome → Type 0 where
  -- The file is the image of a game, and its text was shown.
  done : (g : GameLists) → Holds old name g → new ≡ with_shown (text_of g) old →
      ShowsTextOf text_of at name old new outcome.Done
  -- The file gives no game; nothing is changed.
  unopened : (o : Outcome) → Unopened name old new o → ShowsTextOf text_of at name old new o
  -- The text couldn't be shown: a first part of it was.
  unshown : (g : GameLists) → Holds old name g → InShow old (text_of g) new →
      ShowsTextOf text_of at name old new (outcome.Outside call.Show)
  -- Memory was lacking for the text; nothing is changed.
  lacking_memory : new ≡ old → ShowsTextOf text_of at name old new (outcome.Memory at)

-- Decompiling shows the canonical source.
abbrev pub Decompiles : Name → Standing → Standing → Outcome → Type 0
Decompiles = ShowsTextOf canonical_of memory.Print
