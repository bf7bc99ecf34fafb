-- The letters that the next word has to stand above.
use Rattle.std.specs.Prelude.{◌-◌, List, [], length, Option, Some, None, slice_get}
use Rattle.paw_base.specs.Bytes.{Bytes}
use Rattle.paw_game.specs.declared.parts.Word.{Word}

-- The letters of a word; none where there is no word.
abbrev pub letters_if_word : Option Word → Bytes
letters_if_word None = []
letters_if_word (Some w) = w.letters

-- The letters of the last word; none where there is no word.
abbrev pub last_letters : List Word → Bytes
last_letters ws = letters_if_word (slice_get ws (length ws - 1))
