-- Which tables call which, and how deep.
use Rattle.std.specs.Prelude.{ℕ, zero, suc, ◌==◌, ◌&&◌, Bool, List, [], ◌∷◌, length, filter, count_by, nat_lt}
use Rattle.std.specs.List.{list_any, flat_map, range_with_len}
use Rattle.paw_base.specs.declared.codes.TheConstants.{PROCESS}
use Rattle.paw_base.specs.declared.limits.TheConstants.{LEVEL_LIMIT}
use Rattle.paw_base.specs.declared.parts.Condact.{Condact}
use Rattle.paw_base.specs.declared.tables.TheConstants.{RESPONSE_TABLE, DESCRIBED_TABLE, FRAME_TABLE}
use Rattle.paw_game.specs.Game.{GameLists}
use Rattle.paw_game.specs.Tables.{table_at}
use Rattle.paw_check.specs.Verbs.{is_among}

-- The three tables that a turn reads, at level 0.
abbrev pub turn_tables : List ℕ
turn_tables = RESPONSE_TABLE ∷ DESCRIBED_TABLE ∷ FRAME_TABLE ∷ []

-- The numbers of all tables.
abbrev pub all_tables : GameLists → List ℕ
all_tables g = range_with_len 0 (length g.tables)

-- Whether a condact calls a table.
abbrev pub calls_table : Condact → Bool
calls_table c = c.code == PROCESS

-- Whether a condact calls this table.
abbrev pub is_call_of : ℕ → Condact → Bool
is_call_of u c = calls_table c && (c.a == u)

-- The condacts of a table, one entry after the other.
abbrev pub table_condacts : GameLists → ℕ → List Condact
table_condacts g t = flat_map (λ e. e.condacts) (table_at g t)

-- The tables that some condact of these tables calls, whether play can reach it or not.
abbrev pub called_from : GameLists → List ℕ → List ℕ
called_from g ts = let cs = flat_map (table_condacts g) ts in filter (λ u. list_any (is_call_of u) cs) (all_tables g)

-- The tables n levels of calls below these.
unfoldable pub called_below : GameLists → List ℕ → ℕ → List ℕ
called_below g ts zero = ts
called_below g ts (suc n) = called_from g (called_below g ts n)

-- The tables that reading these may reach within ten levels of calls, these among them.
abbrev pub reached_from : GameLists → List ℕ → List ℕ
reached_from g ts =
    let reached = flat_map (called_below g ts) (range_with_len 0 (suc LEVEL_LIMIT)) in
    filter (is_among reached) (all_tables g)

-- How many levels of calls a turn may reach: those among the first to the tenth that have a table.
abbrev pub most_levels : GameLists → ℕ
most_levels g = count_by (λ n. nat_lt 0 (length (called_below g turn_tables n))) (range_with_len 1 LEVEL_LIMIT)
