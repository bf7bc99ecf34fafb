-- What a round takes, from the rows of its three tables.
use Rattle.std.proofs.Common.{◌≡◌, ◌<◌, ℕ, ◌+◌, ◌-◌, ◌^◌, min, Bool, List, [], length, map, get_or, refl, sym, ap, ◌∙◌}
use Rattle.std.proofs.Common.{arith}
use Rattle.std.specs.Prelude.{slice_get}
use Rattle.std.specs.List.{range_with_len, slice_index_or}
use Rattle.std.specs.Option.{unwrap_or}
use Rattle.std.proofs.lemmas.List.{get_or_default}
use Rattle.std.proofs.lemmas.List.FromFn.{fill_by_all}
use Rattle.std.proofs.lemmas.Option.{unwrap_or-slice_get}
use Rattle.paw_base.specs.declared.limits.TheConstants.{LEVEL_LIMIT}
use Rattle.paw_base.specs.declared.parts.Condact.{Condact}
use Rattle.paw_game.specs.Game.{GameLists}
use Rattle.paw_check.specs.Costs.{cost, counting, all_verbs}
use Rattle.paw_check.specs.Measures.{greatest}
use Rattle.paw_check.specs.inner.Capped.{in_32_bits, VerbCosts}
use Rattle.paw_check.specs.inner.Levels.{HoldsCosts, most_taken, round_taken}
use Rattle.paw_check.proofs.Greatest.{greatest_capped}

-- The greatest number of a table's row is what it takes at most.
pub row_most : (g : GameLists) (own : Condact → ℕ) (changing : Bool) (rows : VerbCosts) (t : ℕ) (row : List ℕ) (m : ℕ)
    → HoldsCosts g own changing LEVEL_LIMIT rows → t < length rows → row ≡ slice_index_or rows t row → length row ≡ 256
    → m ≡ greatest row → m ≡ in_32_bits (most_taken g own changing t)
row_most g own changing rows t row m holds within is long so =
    let f : ℕ → ℕ = λ verb. cost g own (counting changing verb) LEVEL_LIMIT t in
    let there : unwrap_or (slice_get rows t) [] ≡ row = unwrap_or-slice_get rows t [] ∙ get_or_default rows t [] row within ∙ sym is in
    let each : row ≡ map (λ (v : ℕ). in_32_bits (f v)) (range_with_len 0 256) =
    fill_by_all (λ (v : ℕ). in_32_bits (f v)) row 256 0 long (λ v low. ap (λ (r : List ℕ). get_or r v 0) (sym there) ∙ holds t v low) in
    so ∙ ap greatest each ∙ greatest_capped f all_verbs

-- A round reads its three tables.
pub round_is : (g : GameLists) (own : Condact → ℕ) (changing : Bool) (a b c s n : ℕ)
    → a ≡ in_32_bits (most_taken g own changing 0) → b ≡ in_32_bits (most_taken g own changing 1) → c ≡ in_32_bits (most_taken g own changing 2)
    → s ≡ min (a + b) (2 ^ 32 - 1) → n ≡ min (s + c) (2 ^ 32 - 1) → n ≡ in_32_bits (round_taken g own changing)
round_is g own changing a b c s n first second third two three =
    let whole : round_taken g own changing ≡ 0 + most_taken g own changing 0 + most_taken g own changing 1 + most_taken g own changing 2 = refl in
    omega (arith, first, second, third, two, three, whole)
