-- What is found of a game: a bound, or the first cause why there is none.
use Rattle.std.specs.Prelude.{ℕ, Bool, List, [], ◌∷◌, Option, Some, None, nat_lt, if◌then◌else◌}
use Rattle.std.specs.List.{list_any, position}
use Rattle.std.specs.Option.{option_map_or}
use Rattle.paw_base.specs.declared.codes.TheConstants.{DESC, SAVE, LOAD, RESET}
use Rattle.paw_base.specs.declared.limits.TheConstants.{READ_LIMIT, PIECE_LIMIT, LEVEL_LIMIT}
use Rattle.paw_base.specs.declared.parts.Condact.{Condact}
use Rattle.paw_base.specs.declared.tables.TheConstants.{DESCRIBED_TABLE, FRAME_TABLE}
use Rattle.paw_game.specs.declared.parts.Entry.{Entry}
use Rattle.paw_game.specs.Game.{GameLists}
use Rattle.paw_game.specs.Tables.{table_at}
use Rattle.paw_check.specs.declared.verdict.Cause.{Cause}
use Rattle.paw_check.specs.declared.verdict.Cause.TheVariants as cause
use Rattle.paw_check.specs.declared.verdict.Verdict.{Verdict}
use Rattle.paw_check.specs.declared.verdict.Verdict.TheVariants as verdict
use Rattle.paw_check.specs.Verbs.{does_one_of}
use Rattle.paw_check.specs.Calls.{turn_tables, calls_table, called_below, reached_from, most_levels}
use Rattle.paw_check.specs.Bounds.{most_condacts, most_piece}

-- ---- spots ----

-- The number of the first entry that has such a condact.
abbrev pub entry_with : (Condact → Bool) → List Entry → Option ℕ
entry_with is_so entries = position (λ e. list_any is_so e.condacts) entries

-- The first of these tables with such a condact, and its first entry with one.
abbrev pub first_with : GameLists → (Condact → Bool) → List ℕ → Option (ℕ × ℕ)
first_with g is_so [] = None
first_with g is_so (t ∷ ts) =
    option_map_or (λ e. Some (t, e)) (entry_with is_so (table_at g t)) (first_with g is_so ts)

-- ---- causes ----

-- The first call in a table ten levels of calls below a turn's tables; a circle of calls gets there too.
abbrev pub call_too_deep : GameLists → Option (ℕ × ℕ)
call_too_deep g = first_with g calls_table (called_below g turn_tables LEVEL_LIMIT)

-- Whether after a condact the location is described again, so that the tables of a turn are read once more.
abbrev pub redescribes : Condact → Bool
redescribes c = does_one_of (DESC ∷ SAVE ∷ LOAD ∷ RESET ∷ []) c

-- The first such condact in a table that may be reached from the two tables read after a description: then it isn't
-- known how often the location is described.
abbrev pub circle_of_descriptions : GameLists → Option (ℕ × ℕ)
circle_of_descriptions g = first_with g redescribes (reached_from g (DESCRIBED_TABLE ∷ FRAME_TABLE ∷ []))

-- The table and the entry of a cause that lies in none, where a number is above its limit: 0 and 0; nothing otherwise.
abbrev pub above : ℕ → ℕ → Option (ℕ × ℕ)
above limit n = if nat_lt limit n then Some (0, 0) else None

-- The causes in their order, each with the table and the entry where it is found.
abbrev pub causes : GameLists → List (Cause × Option (ℕ × ℕ))
causes g =
    (cause.Calls, call_too_deep g) ∷ (cause.Redescribe, circle_of_descriptions g)
    ∷ (cause.Condacts, above READ_LIMIT (most_condacts g)) ∷ (cause.Text, above PIECE_LIMIT (most_piece g)) ∷ []

-- ---- the verdict ----

-- The verdict that no bound is known, for this cause, at this table and entry.
abbrev pub unknown : Cause → (ℕ × ℕ) → Verdict
unknown why (t, e) = verdict.Unknown why t e

-- The verdict by the first cause that is found, and the bound where there is none.
abbrev pub first_cause : Verdict → List (Cause × Option (ℕ × ℕ)) → Verdict
first_cause bound [] = bound
first_cause bound ((why, spot) ∷ others) = option_map_or (unknown why) spot (first_cause bound others)

-- The verdict on a game.
unfoldable pub bounds : GameLists → Verdict
bounds g = first_cause (verdict.Bound (most_levels g) (most_condacts g) (most_piece g)) (causes g)
