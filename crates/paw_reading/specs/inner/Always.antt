-- What holds wherever readings wait or have ended: words that contracts between crates and proofs use.
use Rattle.std.specs.Prelude.{ℕ, ◌<◌, ◌==◌, ◌||◌, Bool, List, ◌++◌, map, codes, Option, IfSome}
use Rattle.std.specs.Prelude.{IsTrue, All}
use Rattle.std.specs.Char.{is_ascii_digit, is_ascii_uppercase}
use Rattle.std.specs.List.{list_any, list_all}
use Rattle.paw_base.specs.Bytes.{Text, Texts, Lines, Seed}
use Rattle.paw_game.specs.Game.{GameLists}
use Rattle.paw_world.specs.World.{Position}
use Rattle.paw_effects.specs.Standing.{AreBytes}
use Rattle.paw_effects.specs.Story.{Story}
use Rattle.paw_effects.specs.declared.act.Prompt.{Prompt}
use Rattle.paw_reading.specs.declared.frames.Frame.{Frame}
use Rattle.paw_reading.specs.Run.{Run}
use Rattle.paw_reading.specs.Bounds.{IsLine, ValidStory}
use Rattle.paw_reading.specs.Turn.{Ending, WaitsAt, Halted, Unended, reading, text_of, going_on_from}
use Rattle.paw_reading.specs.inner.Bounds.{IsBounded}
use Rattle.paw_reading.specs.inner.Waits.{StandsRightly}

-- It holds of the run that waits, or in which play has ended for good, however it ended.
abbrev pub EndsIn : (Run → Type 0) → Ending → Type 0
EndsIn P (WaitsAt p path r) = P r
EndsIn P (Halted halt r) = P r
EndsIn P Unended = Unit {0}

-- ---- bytes ----

-- The flags and the places of a position are bytes.
pub record IsOfBytes (q : Position) : Type 0 where
  pub flags : AreBytes q.flags
  pub places : AreBytes q.places

-- The same of a position, where there is one.
abbrev pub MayBeOfBytes : Option Position → Type 0
MayBeOfBytes q = IfSome q IsOfBytes

-- Each flag and each number of a state of play is a byte: the place of each object, the flags and places of the saved
-- and of each kept position, what is left of the line, and the verb before it.
pub record HasOnlyBytes (r : Run) : Type 0 where
  pub flags : AreBytes r.world.flags
  pub places : AreBytes r.world.places
  pub saved : MayBeOfBytes r.world.saved
  pub kept : All MayBeOfBytes r.world.kept
  pub line : AreBytes r.pending
  pub earlier : r.earlier < 256

-- ---- texts ----

-- The texts of a game: of its messages of both kinds, its objects and its locations.
abbrev pub game_texts : GameLists → Texts
game_texts g = g.system ++ (g.messages ++ (map (λ row. row.text) g.objects ++ g.locations))

-- Whether a byte stands in a text.
abbrev pub is_byte_of : ℕ → Text → Bool
is_byte_of b text = list_any (λ x. x == b) text

-- Whether a byte is of a mark: of what joins the texts of a list and ends it, or, with digits, of the sign of a condact.
abbrev pub is_of_mark : ℕ → Bool
is_of_mark b = is_ascii_uppercase b || is_byte_of b (codes "\n ,.[]and")

-- Whether a text of the game, a number or a mark has this byte.
abbrev pub may_be_shown : GameLists → ℕ → Bool
may_be_shown g b = (is_ascii_digit b || is_of_mark b) || list_any (is_byte_of b) (game_texts g)

-- ---- the laws ----

-- Wherever a reading of a valid story waits or has ended each flag and each number is a byte.
abbrev pub ReadingsHoldBytes : Type 0
ReadingsHoldBytes =
    (g : Story) (seed : Seed) (es : Lines) → ValidStory g → All IsLine es → EndsIn HasOnlyBytes (reading g seed es)

-- So it is wherever going on from where a run stands as it may, within the bounds, waits or has ended.
abbrev pub GoingOnHoldsBytes : Type 0
GoingOnHoldsBytes =
    (g : Story) (seed : Seed) (n : ℕ) (p : Prompt) (path : List Frame) (r : Run) → ValidStory g → All IsLine r.events →
    StandsRightly g.game p path r → IsBounded seed n r → EndsIn HasOnlyBytes (going_on_from g p path r)

-- The text of a reading of a valid story has no byte but those that may be shown.
abbrev pub ReadingsShowOwnBytes : Type 0
ReadingsShowOwnBytes =
    (g : Story) (seed : Seed) (es : Lines) → ValidStory g → All IsLine es →
    IsTrue (list_all (may_be_shown g.game) (text_of (reading g seed es)))
