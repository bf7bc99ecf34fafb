-- What the canonical source of a game spells.
use Rattle.std.specs.Prelude.{◌≡◌, ◌≤◌, ◌<◌, ◌++◌, length, Some, Err}
use Rattle.paw_base.specs.Bytes.{Bytes, Name, Text}
use Rattle.paw_base.specs.declared.fault.SourceKind.TheVariants as kind
use Rattle.paw_base.specs.declared.limits.TheConstants.{IMAGE_LIMIT, SOURCE_LIMIT}
use Rattle.paw_game.specs.Game.{GameLists}
use Rattle.paw_game.specs.Valid.{Valid}
use Rattle.paw_game.specs.Image.{image}
use Rattle.paw_grammar.specs.Spells.{Spells, game_spelled, fault}
use Rattle.paw_print.specs.Canonical.{canonical_of}
use Rattle.paw_stage.specs.Stage.{Standing}
use Rattle.paw_top.specs.Compile.{Compiles, SavedAndShown, image_line}
use Rattle.paw_top.specs.Decompile.{Decompiles}
use Rattle.paw_top.specs.declared.outcome.Outcome.TheVariants as outcome

-- The canonical source of a valid game spells that game, where the game's image has at most 4,194,304 bytes and the
-- source at most 8,388,608.
abbrev pub SpellsItself : Type 0
SpellsItself = (g : GameLists) → Valid g → length (image g) ≤ IMAGE_LIMIT →
    length (canonical_of g) ≤ SOURCE_LIMIT → Spells (canonical_of g) g

-- The way there and back: where a file was decompiled, and the text that was shown then stands in a file that is no
-- longer than a source may be, compiling that file saves the very bytes that were decompiled.
abbrev pub ComesBack : Type 0
ComesBack =
    (image_name source target : Name) (bytes : Bytes) (text : Text) (old shown before after : Standing) →
    old.files image_name ≡ Some bytes
    → Decompiles image_name old shown outcome.Done → shown.shown ≡ old.shown ++ text → before.files source ≡ Some text
    → length text ≤ SOURCE_LIMIT → Compiles source target before after outcome.Done
    → SavedAndShown before after target bytes (image_line (length bytes))

-- A canonical source that is longer than a source may be spells nothing: it is TooBig at line 0.
abbrev pub LongIsTooBig : Type 0
LongIsTooBig = (g : GameLists) → SOURCE_LIMIT < length (canonical_of g) →
    game_spelled (canonical_of g) ≡ Err (fault 0 kind.TooBig)
