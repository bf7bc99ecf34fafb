-- How the code of lists goes from object to object.
use Rattle.std.specs.Prelude.{ℕ, suc, ◌==◌, min, List, length, drop, filter, map, Option, Some, None}
use Rattle.std.specs.List.{range_with_len}
use Rattle.paw_base.specs.Bytes.{Text, Texts}
use Rattle.paw_base.specs.declared.messages.TheConstants.{NOTHING_THERE_MESSAGE}
use Rattle.paw_game.specs.Game.{GameLists}
use Rattle.paw_world.specs.World.{World, place}
use Rattle.paw_effects.specs.declared.lists.ListKind.{ListKind}
use Rattle.paw_effects.specs.declared.lists.ListKind.TheVariants as listed
use Rattle.paw_effects.specs.Texts.{object_text}
use Rattle.paw_effects.specs.Lists.{held_text, list_or_say, texts_at}
use Rattle.paw_effects.specs.Presence.{is_held}

-- The lesser of two numbers, or the one that is there.
abbrev pub lesser : Option ℕ → Option ℕ → Option ℕ
lesser None b = b
lesser (Some a) None = Some a
lesser (Some a) (Some b) = Some (min a b)

-- The least number above this one, or of all.
abbrev pub first_above : Option ℕ → ℕ
first_above None = 0
first_above (Some o) = suc o

-- The objects of a list from a number on, in rising order of their numbers.
abbrev pub listed_from : World → ListKind → ℕ → List ℕ
listed_from w (listed.At p) o = filter (λ k. place w k == p) (drop o (range_with_len 0 (length w.places)))
listed_from w listed.Held o = filter (is_held w) (drop o (range_with_len 0 (length w.places)))

-- The objects of a list above this one, or all of them.
abbrev pub listed_above : World → ListKind → Option ℕ → List ℕ
listed_above w l above = listed_from w l (first_above above)

-- The game, the world, and which of its objects are listed.
pub record ListedObjects : Type 0 where
  pub game : GameLists
  pub world : World
  pub listed : ListKind

-- The text of an object in a list.
abbrev pub listed_text : GameLists → World → ListKind → ℕ → Text
listed_text g w (listed.At p) = object_text g
listed_text g w listed.Held = held_text g w

-- The texts of the objects of a list above this one, or of all.
abbrev pub texts_above : GameLists → World → ListKind → Option ℕ → Texts
texts_above g w l above = map (listed_text g w l) (listed_above w l above)

-- LISTAT: what stands at a place, or a message that nothing does.
abbrev pub place_list_text : GameLists → World → ℕ → Text
place_list_text g w p = list_or_say g w NOTHING_THERE_MESSAGE (texts_at g w p)
