-- The counts that a game shows: its turns and its score.
use Rattle.std.specs.Prelude.{ℕ, ◌+◌, ◌*◌, ◌==◌, [], ◌++◌, decimal, if◌then◌else◌}
use Rattle.paw_base.specs.Bytes.{Text}
use Rattle.paw_base.specs.declared.flags.TheConstants.{SCORE_FLAG, LOW_TURNS_FLAG, HIGH_TURNS_FLAG}
use Rattle.paw_base.specs.declared.messages.TheConstants.{TURNS_MESSAGE, TURN_MESSAGE, PLURAL_MESSAGE}
use Rattle.paw_base.specs.declared.messages.TheConstants.{TURNS_END_MESSAGE, SCORE_MESSAGE, SCORE_END_MESSAGE}
use Rattle.paw_game.specs.Game.{GameLists}
use Rattle.paw_world.specs.World.{World, flag}
use Rattle.paw_effects.specs.Texts.{put_text, say_text}

-- The number of turns: one flag is its low byte, another its high byte.
abbrev pub turns_taken : World → ℕ
turns_taken w = flag w LOW_TURNS_FLAG + 256 * flag w HIGH_TURNS_FLAG

-- The number of turns between its messages, with a plural ending unless it is 1, and a newline.
abbrev pub turns_text : GameLists → World → Text
turns_text g w =
    put_text g w TURNS_MESSAGE ++ (decimal (turns_taken w) ++ (put_text g w TURN_MESSAGE
    ++ ((if turns_taken w == 1 then [] else put_text g w PLURAL_MESSAGE) ++ say_text g w TURNS_END_MESSAGE)))

-- The score between its messages, and a newline.
abbrev pub score_text : GameLists → World → Text
score_text g w = put_text g w SCORE_MESSAGE ++ (decimal (flag w SCORE_FLAG) ++ say_text g w SCORE_END_MESSAGE)
