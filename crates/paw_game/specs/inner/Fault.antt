-- The first rule that a game's lists break.
use Rattle.std.specs.Prelude.{ℕ, suc, ◌&&◌, Bool, not, List, [], ◌∷◌, length, Option, Some, None, nat_lt, if◌then◌else◌}
use Rattle.std.specs.List.{position}
use Rattle.std.specs.Option.{option_or}
use Rattle.std.specs.Ordering.{is_lt, nat_cmp}
use Rattle.std.specs.Cmp.Lexicographic.{slice_cmp}
use Rattle.paw_base.specs.Bytes.{Bytes, Texts}
use Rattle.paw_base.specs.declared.limits.TheConstants.{WORD_LIMIT, SYSTEM_LIMIT, MESSAGE_LIMIT, OBJECT_LIMIT}
use Rattle.paw_base.specs.declared.limits.TheConstants.{LOCATION_LEAST, LOCATION_LIMIT, TABLE_LEAST, TABLE_LIMIT}
use Rattle.paw_game.specs.declared.parts.Word.{Word}
use Rattle.paw_game.specs.declared.parts.ObjectRow.{ObjectRow}
use Rattle.paw_game.specs.declared.parts.Exit.{Exit}
use Rattle.paw_game.specs.declared.parts.GamePart.{GamePart}
use Rattle.paw_game.specs.declared.parts.GamePart.TheVariants as part
use Rattle.paw_game.specs.declared.parts.GameFault.{GameFault}
use Rattle.paw_game.specs.Game.{GameLists}
use Rattle.paw_game.specs.Valid.{is_word, is_text, is_object, exits_are_valid, is_table}

-- The row to name of a part with this many rows: the most that it may have where it has more, their number where it has
-- fewer than the least, and otherwise the first bad row.
abbrev pub part_row_fault : ℕ → ℕ → ℕ → Option ℕ → Option ℕ
part_row_fault least most count bad =
    if nat_lt most count then Some most else (if nat_lt count least then Some count else bad)

-- The first row that breaks the rule.
abbrev pub first_bad : {X : Type 0} → (X → Bool) → List X → Option ℕ
first_bad rule rows = position (λ row. not (rule row)) rows

-- The first of these words, numbered from n on, that breaks a rule or doesn't stand above the letters before it.
abbrev pub bad_word : ℕ → Bytes → List Word → Option ℕ
bad_word n before [] = None
bad_word n before (w ∷ ws) =
    if is_word w && is_lt (slice_cmp nat_cmp before w.letters) then bad_word (suc n) w.letters ws else Some n

-- The first row at fault of the words. No letters at all stand below all words, so the first word has only its own rule
-- to follow.
unfoldable pub words_fault : List Word → Option ℕ
words_fault ws = part_row_fault 0 WORD_LIMIT (length ws) (bad_word 0 [] ws)

-- The first row at fault of texts of which there are at least and at most these.
unfoldable pub texts_fault : ℕ → ℕ → Texts → Option ℕ
texts_fault least most texts = part_row_fault least most (length texts) (first_bad is_text texts)

-- The first row at fault of the objects.
unfoldable pub objects_fault : List Word → ℕ → List ObjectRow → Option ℕ
objects_fault ws locations os = part_row_fault 0 OBJECT_LIMIT (length os) (first_bad (is_object ws locations) os)

-- The first row at fault of the exits: there is one for each location.
unfoldable pub exits_fault : List Word → ℕ → List (List Exit) → Option ℕ
exits_fault ws locations es =
    part_row_fault locations locations (length es) (first_bad (exits_are_valid ws locations) es)

-- The first row at fault of the tables.
unfoldable pub tables_fault : GameLists → Option ℕ
tables_fault g = part_row_fault TABLE_LEAST TABLE_LIMIT (length g.tables) (first_bad (is_table g) g.tables)

-- The fault of a part, given its first row at fault.
abbrev pub fault_in : GamePart → Option ℕ → Option GameFault
fault_in p None = None
fault_in p (Some row) = Some (record { part = p; row = row })

-- The first part that breaks a rule, and its row.
unfoldable pub game_fault : GameLists → Option GameFault
game_fault g =
    option_or (fault_in part.Words (words_fault g.words))
    (option_or (fault_in part.System (texts_fault 0 SYSTEM_LIMIT g.system))
    (option_or (fault_in part.Messages (texts_fault 0 MESSAGE_LIMIT g.messages))
    (option_or (fault_in part.Objects (objects_fault g.words (length g.locations) g.objects))
    (option_or (fault_in part.Locations (texts_fault LOCATION_LEAST LOCATION_LIMIT g.locations))
    (option_or (fault_in part.Exits (exits_fault g.words (length g.locations) g.exits))
    (fault_in part.Tables (tables_fault g)))))))
