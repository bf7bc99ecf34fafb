-- What the code finds in the entries of a table.
use Rattle.std.specs.Prelude.{◌≡◌, ℕ, ◌+◌, ◌*◌, Bool, List, count_by, sum_by}
use Rattle.std.specs.List.{slice_index_or}
use Rattle.paw_base.specs.declared.parts.Condact.{Condact}
use Rattle.paw_game.specs.declared.parts.Entry.{Entry}
use Rattle.paw_check.specs.Calls.{is_call_of}
use Rattle.paw_check.specs.Costs.{with_call}
use Rattle.paw_check.specs.declared.sums.TableSums.{TableSums}
use Rattle.paw_check.specs.inner.Capped.{HoldsCapped, in_32_bits, cell_at, dot, is_doall, over_every, over_verb}
use Rattle.paw_check.specs.inner.Capped.{VerbCosts}

-- This is found in these entries.
pub record IsFound (x : TableSums) (takes : Condact → ℕ) (changing : Bool) (called : VerbCosts)
    (es : List Entry) : Type 0 where
  pub doalls : x.doalls ≡ in_32_bits (over_every changing (count_by is_doall) es)
  pub own : x.own ≡ in_32_bits (over_every changing (sum_by takes) es)
  pub calls : HoldsCapped x.calls (λ u. over_every changing (count_by (is_call_of u)) es)
  pub verb_doalls : HoldsCapped x.verb_doalls (λ v. over_verb changing v (count_by is_doall) es)
  pub verb_taken : HoldsCapped x.verb_taken
      (λ v. over_verb changing v (sum_by (with_call takes (λ u. cell_at called u v))) es)

-- What the condacts of the entries that count for a verb take together.
abbrev pub found_sum : TableSums → VerbCosts → ℕ → ℕ
found_sum x called v = x.own + dot x.calls called v + slice_index_or x.verb_taken v 0

-- What reading the table takes for a verb.
abbrev pub found_taken : ℕ → TableSums → VerbCosts → ℕ → ℕ
found_taken objects x called v = (1 + objects * (x.doalls + slice_index_or x.verb_doalls v 0)) * found_sum x called v
