-- The words that a map from letters to meanings holds.
use Rattle.std.specs.Prelude.{List, map}
use Rattle.paw_base.specs.Bytes.{Letters}
use Rattle.paw_game.specs.declared.parts.Word.{Word}
use Rattle.paw_grammar.specs.declared.vocabulary.WordMeaning.{WordMeaning}

-- The word of an entry of the map.
abbrev pub word_from : Letters × WordMeaning → Word
word_from e = record { letters = e.0; value = e.1.value; class = e.1.class }

-- The words of all entries of the map.
abbrev pub words_in : List (Letters × WordMeaning) → List Word
words_in entries = map word_from entries
