-- The bound that a verdict names holds for every play.
use Rattle.std.proofs.Common.{◌≡◌, ℕ, zero, suc, ◌+◌, ◌*◌, ◌≤◌, Bool, true, false, List, [], ◌∷◌, Option, Some, None}
use Rattle.std.proofs.Common.{refl, arith}
use Rattle.std.specs.Prelude.{if◌then◌else◌, nat_lt, sum_by, All}
use Rattle.std.proofs.lemmas.Bool.{ltb-false}
use Rattle.paw_base.specs.Bytes.{Seed, Lines}
use Rattle.paw_base.specs.declared.limits.TheConstants.{READ_LIMIT, PIECE_LIMIT}
use Rattle.paw_base.specs.declared.messages.TheConstants.{TIMEOUT_MESSAGE, GOODBYE_MESSAGE}
use Rattle.paw_base.specs.declared.tables.TheConstants.{DESCRIBED_TABLE, FRAME_TABLE}
use Rattle.paw_game.specs.Game.{GameLists}
use Rattle.paw_effects.specs.Story.{Story}
use Rattle.paw_reading.specs.Bounds.{IsLine, ValidStory}
use Rattle.paw_reading.specs.Run.{Run}
use Rattle.paw_reading.specs.Reading.{table_read}
use Rattle.paw_reading.specs.Turn.{reading}
use Rattle.paw_check.specs.declared.verdict.Cause.{Cause}
use Rattle.paw_check.specs.declared.verdict.Cause.TheVariants as cause
use Rattle.paw_check.specs.declared.verdict.Verdict.{Verdict}
use Rattle.paw_check.specs.declared.verdict.Verdict.TheVariants as verdict
use Rattle.paw_check.specs.Measures.{most_said}
use Rattle.paw_check.specs.Prints.{most_text}
use Rattle.paw_check.specs.Calls.{turn_tables, most_levels}
use Rattle.paw_check.specs.Costs.{most_cost}
use Rattle.paw_check.specs.Bounds.{most_condacts, most_view, most_refusal, most_prompt, most_piece}
use Rattle.paw_check.specs.Verdicts.{call_too_deep, circle_of_descriptions, above, first_cause, bounds}
use Rattle.paw_check.specs.Promise.{EndsWithin, StaysWithin, Promises, BoundsHold}
use Rattle.paw_check.specs.inner.Within.{IsBound, TablesWithin}
use Rattle.paw_check.proofs.Said.{view_short, unknown_short, refusal_short, timeout_short, prompt_short}
use Rattle.paw_check.proofs.Room.{Takes, Says, TablesTake, DescribesOnly}
use Rattle.paw_check.proofs.Phases.{IsEnough, readings_stay}
use Rattle.paw_check.proofs.Levels.{levels_hold, tables_leave_described}

-- ---- the numbers of a game ----

takes_of : GameLists → Takes
takes_of g = record {
  reads = most_cost g (λ c. 1);
  prints = most_cost g (most_text g);
  view = most_view g;
  refusal = most_refusal g;
  timeout = most_said g TIMEOUT_MESSAGE;
  prompt = most_prompt g;
}

says_of : (g : Story) → Says g (takes_of g.game)
unfolding takes_of
says_of g = record {
  view = view_short g.game;
  refused = refusal_short g.game;
  unknown = unknown_short g.game;
  timeout = timeout_short g.game;
  prompt = prompt_short g.game;
}

three_tables : (f : ℕ → ℕ) → sum_by f turn_tables ≡ f 0 + (f 1 + f 2)
three_tables f = omega arith

enough : (k : Takes) (goodbye : ℕ) → 129 * (sum_by k.prints turn_tables + (k.view + k.refusal)) + (goodbye + (k.timeout + k.prompt)) ≤ PIECE_LIMIT →
    IsEnough (129 * sum_by k.reads turn_tables) (129 * (sum_by k.prints turn_tables + (k.view + k.refusal)) + (goodbye + (k.timeout + k.prompt))) k
enough k goodbye low = record {
  reads = omega (arith, three_tables k.reads);
  bytes = omega (arith, three_tables k.prints);
  limit = low;
}

enough_of : (g : GameLists) → most_piece g ≤ PIECE_LIMIT → IsEnough (most_condacts g) (most_piece g) (takes_of g)
unfolding takes_of
enough_of g low = enough (takes_of g) (most_said g GOODBYE_MESSAGE) low

-- What is added to the rounds of a piece has room for the goodbye.
has_goodbye : (a goodbye b : ℕ) → goodbye ≤ a + (goodbye + b)
has_goodbye a goodbye b = omega arith

bound_of : (g : GameLists) → most_condacts g ≤ READ_LIMIT → most_piece g ≤ PIECE_LIMIT → IsBound (most_condacts g) (most_piece g) g
bound_of g few short = record { reads = few; bytes = short; goodbye = has_goodbye _ (most_said g GOODBYE_MESSAGE) _ }

-- ---- readings ----

module _ (tables : TablesWithin) (g : Story) (valid : ValidStory g) (calm : call_too_deep g.game ≡ None)
    (quiet : circle_of_descriptions g.game ≡ None) where
  only : (t : ℕ) (r : Run) → t ≤ FRAME_TABLE → r.turning ≡ None → DescribesOnly t (table_read g t r)
  only zero r low none = tt
  only (suc zero) r low none = tables_leave_described g DESCRIBED_TABLE r valid quiet refl none
  only (suc (suc zero)) r low none = tables_leave_described g FRAME_TABLE r valid quiet refl none
  only (suc (suc (suc t))) r low none = absurd (omega arith)

  tables_take : most_condacts g.game ≤ READ_LIMIT → most_piece g.game ≤ PIECE_LIMIT → TablesTake g (most_condacts g.game) (most_piece g.game) (takes_of g.game)
  unfolding takes_of
  tables_take few short pending m n t r low ready used reads bytes =
      tables g (most_condacts g.game) (most_piece g.game) pending m n t r valid calm (bound_of g.game few short) low ready used reads bytes

  within : most_condacts g.game ≤ READ_LIMIT → most_piece g.game ≤ PIECE_LIMIT → (seed : Seed) (es : Lines) → All IsLine es →
      EndsWithin (most_condacts g.game) (most_piece g.game) (reading g seed es)
  within few short =
      readings_stay g valid (most_condacts g.game) (most_piece g.game) (takes_of g.game) (enough_of g.game short) (says_of g) (tables_take few short) only

-- ---- verdicts ----

within_limit : (limit n : ℕ) → above limit n ≡ None → n ≤ limit
within_limit limit n h = go (nat_lt limit n) refl h
  where
    go : (b : Bool) → nat_lt limit n ≡ b → ◌≡◌ {A = Option (ℕ × ℕ)} (if b then Some (0, 0) else None) None → n ≤ limit
    go true e k = cc
    go false e k = ltb-false limit n e

-- A verdict keeps its promise where it does with no cause at this spot.
first_promises : (g : Story) (bound : Verdict) (why : Cause) (spot : Option (ℕ × ℕ)) (others : List (Cause × Option (ℕ × ℕ))) →
    (spot ≡ None → Promises (first_cause bound others) g) → Promises (first_cause bound ((why, spot) ∷ others)) g
first_promises g bound why None others h = h refl
first_promises g bound why (Some (t, e)) others h = tt

pub bounds_hold : TablesWithin → BoundsHold
unfolding bounds
bounds_hold tables g valid =
    let bound : Verdict = verdict.Bound (most_levels g.game) (most_condacts g.game) (most_piece g.game) in
    let texts : List (Cause × Option (ℕ × ℕ)) = (cause.Text, above PIECE_LIMIT (most_piece g.game)) ∷ [] in
    let numbers : List (Cause × Option (ℕ × ℕ)) = (cause.Condacts, above READ_LIMIT (most_condacts g.game)) ∷ texts in
    let places : List (Cause × Option (ℕ × ℕ)) = (cause.Redescribe, circle_of_descriptions g.game) ∷ numbers in
    first_promises g bound cause.Calls (call_too_deep g.game) places
    (λ calm. first_promises g bound cause.Redescribe (circle_of_descriptions g.game) numbers
    (λ quiet. first_promises g bound cause.Condacts (above READ_LIMIT (most_condacts g.game)) texts
    (λ few. first_promises g bound cause.Text (above PIECE_LIMIT (most_piece g.game)) []
    (λ short. stays g valid calm quiet few short))))
  where
    stays : (g : Story) → ValidStory g → call_too_deep g.game ≡ None → circle_of_descriptions g.game ≡ None →
        above READ_LIMIT (most_condacts g.game) ≡ None → above PIECE_LIMIT (most_piece g.game) ≡ None →
        StaysWithin (most_levels g.game) (most_condacts g.game) (most_piece g.game) g
    stays g valid calm quiet few short = record {
      readings =
          within tables g valid calm quiet (within_limit READ_LIMIT (most_condacts g.game) few) (within_limit PIECE_LIMIT (most_piece g.game) short);
      calls = levels_hold g valid calm;
    }
