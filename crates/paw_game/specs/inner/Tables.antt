-- What a game's lists hold at a number: definitions for contracts and proofs, besides those of specs/Tables.antt.
use Rattle.std.specs.Prelude.{◌≡◌, ℕ, suc, ◌+◌, Bool, false, List, [], ◌∷◌, Option}
use Rattle.std.specs.Prelude.{Some, None, slice_get, drop, if◌then◌else◌}
use Rattle.std.specs.Option.{option_map, option_map_or}
use Rattle.paw_base.specs.Bytes.{Text}
use Rattle.paw_base.specs.declared.parts.Condact.{Condact}
use Rattle.paw_game.specs.declared.cursor.CondactCursor.{CondactCursor}
use Rattle.paw_game.specs.declared.parts.Entry.{Entry}
use Rattle.paw_game.specs.declared.parts.GamePart.{GamePart}
use Rattle.paw_game.specs.declared.parts.GamePart.TheVariants as part
use Rattle.paw_game.specs.Game.{GameLists}
use Rattle.paw_game.specs.Tables.{table_at, entry_at, matches}

-- A text of one of the parts that have texts.
abbrev pub text_at : GameLists → GamePart → ℕ → Option Text
text_at g part.Words n = None
text_at g part.System n = slice_get g.system n
text_at g part.Messages n = slice_get g.messages n
text_at g part.Objects n = option_map (λ row. row.text) (slice_get g.objects n)
text_at g part.Locations n = slice_get g.locations n
text_at g part.Exits n = None
text_at g part.Tables n = None

-- Whether the table has this entry, and the entry matches.
abbrev pub matches_at : GameLists → ℕ → ℕ → ℕ → ℕ → Bool
matches_at g t e verb noun = option_map_or (matches verb noun) (entry_at g t e) false

-- The first of these entries, numbered from e on, that matches.
abbrev pub first_match : ℕ → ℕ → ℕ → List Entry → Option ℕ
first_match verb noun e [] = None
first_match verb noun e (en ∷ es) = if matches verb noun en then Some e else first_match verb noun (suc e) es

-- The least matching entry of a table that isn't below `from`.
abbrev pub match_at : GameLists → ℕ → ℕ → ℕ → ℕ → Option ℕ
match_at g t from verb noun = first_match verb noun from (drop from (table_at g t))

-- The cursor has moved on to the condact after one that was read, and stays where there was none.
abbrev pub MovesPast : Option Condact → (old new : CondactCursor) → Type 0
MovesPast None old new = new ≡ old
MovesPast (Some c) old new = (new.table ≡ old.table) × (new.entry ≡ old.entry) × (new.at ≡ old.at + 1)
