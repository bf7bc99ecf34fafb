-- What the reading of a table takes at most, with all that it calls: condacts that are read, or bytes that are printed.
use Rattle.std.specs.Prelude.{ℕ, zero, suc, ◌+◌, ◌*◌, ◌==◌, ◌||◌, Bool, List, length, map, filter, sum_by, count_by}
use Rattle.std.specs.Prelude.{if◌then◌else◌}
use Rattle.std.specs.List.{list_any, flat_map, range_with_len}
use Rattle.paw_base.specs.declared.codes.TheConstants.{DOALL}
use Rattle.paw_base.specs.declared.limits.TheConstants.{LEVEL_LIMIT}
use Rattle.paw_base.specs.declared.parts.Condact.{Condact}
use Rattle.paw_base.specs.declared.words.TheConstants.{NO_WORD}
use Rattle.paw_game.specs.declared.parts.Entry.{Entry}
use Rattle.paw_game.specs.Game.{GameLists}
use Rattle.paw_game.specs.Tables.{table_at, is_for}
use Rattle.paw_check.specs.Measures.{greatest}
use Rattle.paw_check.specs.Verbs.{may_write_verb}
use Rattle.paw_check.specs.Calls.{turn_tables, calls_table, table_condacts, reached_from}

-- ---- which entries count ----

-- Whether the verb may change while tables are read: a table that a turn may reach has a condact that may write it.
abbrev pub verb_may_change : GameLists → Bool
verb_may_change g = list_any may_write_verb (flat_map (table_condacts g) (reached_from g turn_tables))

-- The entries of a table that may be read for a verb: those that match it, or all where the verb may change.
abbrev pub counting : Bool → ℕ → List Entry → List Entry
counting changing verb entries = filter (λ e. changing || is_for e.verb verb) entries

-- ---- one table ----

-- How often a reading of a table may pass over its condacts: once, and for each DOALL once more per object. A DOALL is
-- opened at most once, since reading goes on after it, and takes each object at most once.
abbrev pub most_passes : GameLists → List Condact → ℕ
most_passes g cs = 1 + length g.objects * count_by (λ c. c.code == DOALL) cs

-- What a condact takes: its own share, and for a call what the called table takes.
abbrev pub with_call : (Condact → ℕ) → (ℕ → ℕ) → Condact → ℕ
with_call own called c = own c + (if calls_table c then called c.a else 0)

-- What these condacts take together, over all passes.
abbrev pub passed_over : GameLists → (Condact → ℕ) → List Condact → ℕ
passed_over g takes cs = most_passes g cs * sum_by takes cs

-- ---- tables and calls ----

-- What the reading of a table takes, given what each condact takes of its own and which entries count; n levels of
-- calls below it are included.
unfoldable pub cost : GameLists → (Condact → ℕ) → (List Entry → List Entry) → ℕ → ℕ → ℕ
cost g own count zero t = passed_over g own (flat_map (λ e. e.condacts) (count (table_at g t)))
cost g own count (suc n) t =
    passed_over g (with_call own (cost g own count n)) (flat_map (λ e. e.condacts) (count (table_at g t)))

-- The values that the verb's flag may have: all verbs of a sentence, and 255 for none.
abbrev pub all_verbs : List ℕ
all_verbs = range_with_len 0 (suc NO_WORD)

-- What the reading of a table takes with the verb for which it takes most.
abbrev pub most_cost : GameLists → (Condact → ℕ) → ℕ → ℕ
most_cost g own t =
    let changing = verb_may_change g in
    greatest (map (λ verb. cost g own (counting changing verb) LEVEL_LIMIT t) all_verbs)

-- The most that it takes to read each of a turn's tables once.
abbrev pub round_cost : GameLists → (Condact → ℕ) → ℕ
round_cost g own = sum_by (most_cost g own) turn_tables
