-- The messages of an action on an object.
use Rattle.std.specs.Prelude.{◌==◌, ◌||◌, Bool, false, ◌++◌}
use Rattle.paw_base.specs.Bytes.{Text}
use Rattle.paw_base.specs.declared.messages.TheConstants.{TOO_MANY_MESSAGE, HANDS_FULL_MESSAGE, NAME_END_MESSAGE}
use Rattle.paw_game.specs.Game.{GameLists}
use Rattle.paw_world.specs.World.{World}
use Rattle.paw_effects.specs.declared.object_words.ObjectReply.{ObjectReply}
use Rattle.paw_effects.specs.declared.object_words.ObjectReply.TheVariants as words
use Rattle.paw_effects.specs.Texts.{object_text, put_text, say_text}

-- A system message with its newline; or one followed by the name of a container and the message that ends such a line.
abbrev pub spoken_words : GameLists → World → ObjectReply → Text
spoken_words g w (words.Says m) = say_text g w m
spoken_words g w (words.Names m l) = put_text g w m ++ object_text g l ++ say_text g w NAME_END_MESSAGE

-- Whether a message says that no more can be held, which ends the loop over objects.
abbrev pub ends_loop : ObjectReply → Bool
ends_loop (words.Says m) = (m == TOO_MANY_MESSAGE) || (m == HANDS_FULL_MESSAGE)
ends_loop (words.Names m l) = false
