-- Lists of objects, as a game prints them.
use Rattle.std.specs.Prelude.{ℕ, ◌==◌, Bool, not, List, [], ◌∷◌, ◌++◌, map, codes, bit_and, if◌then◌else◌}
use Rattle.std.specs.List.{flat_map}
use Rattle.paw_base.specs.Bytes.{Text, Texts}
use Rattle.paw_base.specs.declared.flags.TheConstants.{LOCATION_FLAG, LISTING_FLAG, LISTING_BIT}
use Rattle.paw_base.specs.declared.messages.TheConstants.{SEEN_MESSAGE, INVENTORY_MESSAGE, IS_WORN_MESSAGE}
use Rattle.paw_base.specs.declared.messages.TheConstants.{EMPTY_HANDED_MESSAGE}
use Rattle.paw_base.specs.declared.places.TheConstants.{WORN_PLACE}
use Rattle.paw_game.specs.Game.{GameLists}
use Rattle.paw_world.specs.World.{World, flag, place, is_somewhere}
use Rattle.paw_world.specs.Weight.{objects_at}
use Rattle.paw_effects.specs.Presence.{held_objects}
use Rattle.paw_effects.specs.Texts.{object_text, put_text, say_text}

-- Each text in a line of its own.
abbrev pub as_lines : Texts → Text
as_lines texts = flat_map (λ text. text ++ 10 ∷ []) texts

-- What joins a text to the one before it, given the texts after it: ` and ` where there are none, and otherwise `, `.
abbrev pub joint : {A : Type 0} → List A → Text
joint [] = codes " and "
joint (_ ∷ _) = codes ", "

-- The texts after the first one, each with what joins it, and the end of the sentence.
abbrev pub others_joined : Texts → Text
others_joined [] = codes ".\n"
others_joined (text ∷ texts) = joint texts ++ (text ++ others_joined texts)

-- The texts in one sentence: joined by `, `, the last one by ` and `, with `.` and a newline at the end.
abbrev pub as_sentence : Texts → Text
as_sentence [] = []
as_sentence (text ∷ texts) = text ++ others_joined texts

-- Whether lists are sentences: bit 6 of the flag of lists is set.
abbrev pub lists_are_sentences : World → Bool
lists_are_sentences w = not (bit_and (flag w LISTING_FLAG) LISTING_BIT == 0)

-- Texts as a list, in one sentence or in lines.
abbrev pub list_of : World → Texts → Text
list_of w texts = if lists_are_sentences w then as_sentence texts else as_lines texts

-- A list, or this message where there is nothing to list.
abbrev pub list_or_say : GameLists → World → ℕ → Texts → Text
list_or_say g w s [] = say_text g w s
list_or_say g w s (text ∷ texts) = list_of w (text ∷ texts)

-- The message that objects can be seen, and a list of them; nothing where there is nothing to list.
abbrev pub seen_text : GameLists → World → Texts → Text
seen_text g w [] = []
seen_text g w (text ∷ texts) = say_text g w SEEN_MESSAGE ++ list_of w (text ∷ texts)

-- The texts of the objects at a place, in rising order of their numbers.
abbrev pub texts_at : GameLists → World → ℕ → Texts
texts_at g w p = map (object_text g) (objects_at w p)

-- The message that an object is worn, where it is.
abbrev pub worn_text : GameLists → World → ℕ → Text
worn_text g w o = if place w o == WORN_PLACE then put_text g w IS_WORN_MESSAGE else []

-- The text of an object that is worn or carried, with the message where it is worn.
abbrev pub held_text : GameLists → World → ℕ → Text
held_text g w o = object_text g o ++ worn_text g w o

-- INVEN: a message, and then what is worn and carried, or a message that it is nothing.
abbrev pub inventory_text : GameLists → World → Text
inventory_text g w =
    say_text g w INVENTORY_MESSAGE ++ list_or_say g w EMPTY_HANDED_MESSAGE (map (held_text g w) (held_objects w))

-- LISTOBJ: a list of what stands at the current location; nothing where that isn't one of the game's.
abbrev pub here_list_text : GameLists → World → Text
here_list_text g w = if is_somewhere w then seen_text g w (texts_at g w (flag w LOCATION_FLAG)) else []
