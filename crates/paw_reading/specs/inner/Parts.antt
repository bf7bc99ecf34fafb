-- Names for parts of reading and of the turn that specs/Reading.antt and specs/Turn.antt write out: contracts between
-- crates and proofs use them.
use Rattle.std.specs.Prelude.{ℕ, false, List}
use Rattle.paw_base.specs.Bytes.{Line, Text}
use Rattle.paw_base.specs.declared.messages.TheConstants.{QUIT_MESSAGE, GOODBYE_MESSAGE, UNKNOWN_MESSAGE}
use Rattle.paw_base.specs.declared.words.TheConstants.{NO_WORD}
use Rattle.paw_base.specs.declared.parts.Condact.{Condact}
use Rattle.paw_game.specs.Game.{GameLists}
use Rattle.paw_world.specs.World.{World}
use Rattle.paw_effects.specs.Story.{Story}
use Rattle.paw_effects.specs.declared.act.Prompt.{Prompt}
use Rattle.paw_effects.specs.Texts.{put_text, say_text}
use Rattle.paw_effects.specs.Holds.{Tested}
use Rattle.paw_reading.specs.declared.frames.Frame.{Frame}
use Rattle.paw_reading.specs.Run.{Run, with_world, with_timeout}
use Rattle.paw_reading.specs.Reading.{Out, Onward, after_test, after_parse, coming_phrase}
use Rattle.paw_reading.specs.GoingOn.{on_path}
use Rattle.paw_reading.specs.Turn.{Ending, first_table, table_done, turn}

-- ---- tables ----

-- What a game says last.
abbrev pub goodbye : Story → Run → Text
goodbye g r = say_text g.game r.world GOODBYE_MESSAGE

-- The question of QUIT.
abbrev pub quit_question : Story → Run → Text
quit_question g r = put_text g.game r.world QUIT_MESSAGE

-- Tests a condition, and goes on in the world that its test leaves.
abbrev pub tests_condition : Story → Frame → Onward → Onward → Condact → Run → Tested → Out
tests_condition g f next go c r tested = after_test g f next go c (with_world tested.world r) tested.answer

-- Lets PARSE take the next phrase: a sentence leads to the next entry.
abbrev pub parses : Story → Frame → Onward → Onward → Run → Out
parses g f next go r = after_parse f next go r (coming_phrase g r)

-- ---- the turn ----

-- The run with this line as its pending bytes, and no verb before.
abbrev pub line_set : Line → Run → Run
line_set line r = record r { world = with_timeout false r.world; pending = line; earlier = NO_WORD }

-- What is said of a phrase with no known word.
abbrev pub unknown_text : GameLists → World → Text
unknown_text g w = say_text g w UNKNOWN_MESSAGE

-- Goes on from a prompt inside tables, in at most n more phases.
abbrev pub in_table : Story → ℕ → Prompt → List Frame → Run → Ending
in_table g n p path r = table_done g (turn g n) (first_table path) (on_path g p 0 path r)
