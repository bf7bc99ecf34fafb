-- What a game's lists hold at a number.
use Rattle.std.specs.Prelude.{ℕ, ◌==◌, ◌&&◌, ◌||◌, Bool, List, [], Option, find, slice_get}
use Rattle.std.specs.Option.{option_map, option_map_or, unwrap_or}
use Rattle.std.specs.Str.{bytes_eq}
use Rattle.paw_base.specs.Bytes.{Letters}
use Rattle.paw_base.specs.declared.words.TheConstants.{ANY_WORD, NO_WORD}
use Rattle.paw_base.specs.declared.parts.Condact.{Condact}
use Rattle.paw_base.specs.declared.parts.ObjectFacts.{ObjectFacts}
use Rattle.paw_game.specs.declared.parts.Word.{Word}
use Rattle.paw_game.specs.declared.parts.Exit.{Exit}
use Rattle.paw_game.specs.declared.parts.Entry.{Entry}
use Rattle.paw_game.specs.Game.{GameLists}

-- The facts of an object, if there is such an object.
abbrev pub facts_at : GameLists → ℕ → Option ObjectFacts
facts_at g o = option_map (λ row. row.facts) (slice_get g.objects o)

-- The location to which the exit of this verb leads, if there is one. In a valid game no location has two exits for one
-- verb.
abbrev pub exit_of : List Exit → ℕ → Option ℕ
exit_of xs verb = option_map (λ x. x.to) (find (λ x. x.verb == verb) xs)

-- The location to which the exit of this verb leads from a location, if there is one.
abbrev pub exit_at : GameLists → ℕ → ℕ → Option ℕ
exit_at g location verb = exit_of (unwrap_or (slice_get g.exits location) []) verb

-- The entries of a table; none where there is no such table.
abbrev pub table_at : GameLists → ℕ → List Entry
table_at g t = unwrap_or (slice_get g.tables t) []

-- An entry of a table, if there is one.
abbrev pub entry_at : GameLists → ℕ → ℕ → Option Entry
entry_at g t e = slice_get (table_at g t) e

-- The condacts of an entry; none where there is no entry.
abbrev pub condacts_of : Option Entry → List Condact
condacts_of entry = option_map_or (λ e. e.condacts) entry []

-- The verb and the noun of an entry, if there is one.
abbrev pub head_at : GameLists → ℕ → ℕ → Option (ℕ × ℕ)
head_at g t e = option_map (λ entry. (entry.verb, entry.noun)) (entry_at g t e)

-- A condact of an entry of a table, if there is one.
abbrev pub condact_at : GameLists → ℕ → ℕ → ℕ → Option Condact
condact_at g t e k = slice_get (condacts_of (entry_at g t e)) k

-- Whether the word of an entry matches the value of a flag; ANY_WORD and NO_WORD match any value.
abbrev pub is_for : ℕ → ℕ → Bool
is_for word flag = (word == ANY_WORD) || ((word == NO_WORD) || (word == flag))

-- Whether an entry matches these values of the verb and the noun.
abbrev pub matches : ℕ → ℕ → Entry → Bool
matches verb noun e = is_for e.verb verb && is_for e.noun noun

-- The word with these letters, if there is one. In a valid game there are never two.
abbrev pub word_of : Letters → List Word → Option Word
word_of letters ws = find (λ w. bytes_eq w.letters letters) ws

-- The value and the class of the word with these letters, if there is one.
abbrev pub word_at : GameLists → Letters → Option (ℕ × ℕ)
word_at g letters = option_map (λ w. (w.value, w.class)) (word_of letters g.words)
