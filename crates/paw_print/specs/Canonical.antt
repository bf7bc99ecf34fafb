-- The canonical source of a game: one text for each game.
use Rattle.std.specs.Prelude.{ℕ, suc, List, [], ◌∷◌, ◌++◌, map, flat_map, codes, decimal}
use Rattle.paw_base.specs.Bytes.{Line, Lines, Text, Texts}
use Rattle.paw_base.specs.declared.words.TheConstants.{NOUN_CLASS}
use Rattle.paw_game.specs.declared.parts.Word.{Word}
use Rattle.paw_game.specs.declared.parts.ObjectRow.{ObjectRow}
use Rattle.paw_game.specs.declared.parts.Exit.{Exit}
use Rattle.paw_game.specs.declared.parts.Entry.{Entry}
use Rattle.paw_game.specs.Game.{GameLists}
use Rattle.paw_print.specs.Lines.{tokens_spaced, spelled_letters, class_name, verb_token, value_token, item_token}
use Rattle.paw_print.specs.Lines.{text_lines, object_tokens, condact_line}

-- The lines of all rows, which are numbered from n on.
abbrev pub numbered_lines : {A : Type 0} → (ℕ → A → Lines) → ℕ → List A → Lines
numbered_lines lines n [] = []
numbered_lines lines n (x ∷ xs) = lines n x ++ numbered_lines lines (suc n) xs

-- The vocabulary: for each word, in order, a line with its letters, its value and its class.
abbrev pub words_lines : List Word → Lines
words_lines ws = codes "/VOC" ∷ map (λ w. tokens_spaced
    (spelled_letters w ∷ decimal w.value ∷ class_name w.class ∷ [])) ws

-- A section of texts: its header, and an item for each text.
abbrev pub texts_lines : Line → Texts → Lines
texts_lines header texts = header ∷ numbered_lines text_lines 0 texts

-- A location: an item, and for each exit a line with its verb and its location; nothing where it has no exit.
abbrev pub location_lines : List Word → ℕ → List Exit → Lines
location_lines ws n [] = []
location_lines ws n (x ∷ xs) =
    item_token n ∷ map (λ y. tokens_spaced (verb_token ws y.verb ∷ decimal y.to ∷ [])) (x ∷ xs)

-- The section of connections: the exits of all locations.
abbrev pub exits_lines : List Word → List (List Exit) → Lines
exits_lines ws exits = codes "/CON" ∷ numbered_lines (location_lines ws) 0 exits

-- The section of objects: a line for each object.
abbrev pub objects_lines : List Word → List ObjectRow → Lines
objects_lines ws objects =
    codes "/OBJ" ∷ numbered_lines (λ n o. tokens_spaced (object_tokens ws n o.facts) ∷ []) 0 objects

-- An entry: a line with its verb and its noun, and a line for each condact.
abbrev pub entry_lines : List Word → Entry → Lines
entry_lines ws e =
    tokens_spaced (verb_token ws e.verb ∷ value_token ws NOUN_CLASS e.noun ∷ []) ∷ map (condact_line ws) e.condacts

-- A table: its header with its number, and its entries.
abbrev pub table_lines : List Word → ℕ → List Entry → Lines
table_lines ws n entries = tokens_spaced (codes "/PRO" ∷ decimal n ∷ []) ∷ flat_map (entry_lines ws) entries

-- The lines of the canonical source: all sections in their order, and all tables.
unfoldable pub canonical_lines : GameLists → Lines
canonical_lines g =
    words_lines g.words
    ++ texts_lines (codes "/STX") g.system
    ++ texts_lines (codes "/MTX") g.messages
    ++ texts_lines (codes "/OTX") (map (λ o. o.text) g.objects)
    ++ texts_lines (codes "/LTX") g.locations
    ++ exits_lines g.words g.exits
    ++ objects_lines g.words g.objects
    ++ numbered_lines (table_lines g.words) 0 g.tables

-- A line and its LF.
abbrev pub with_line_end : Line → Text
with_line_end line = line ++ 10 ∷ []

-- Lines, each with its LF.
abbrev pub with_line_ends : Lines → Text
with_line_ends lines = flat_map with_line_end lines

-- The canonical source: its lines, each ended by LF.
unfoldable pub canonical_of : GameLists → Text
canonical_of g = with_line_ends (canonical_lines g)
