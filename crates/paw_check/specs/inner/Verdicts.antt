-- The verdict on a game by what its pieces take.
use Rattle.std.specs.Prelude.{ℕ, ◌∷◌, []}
use Rattle.paw_base.specs.declared.limits.TheConstants.{READ_LIMIT, PIECE_LIMIT}
use Rattle.paw_game.specs.Game.{GameLists}
use Rattle.paw_check.specs.declared.verdict.Cause.TheVariants as cause
use Rattle.paw_check.specs.declared.verdict.Verdict.{Verdict}
use Rattle.paw_check.specs.declared.verdict.Verdict.TheVariants as verdict
use Rattle.paw_check.specs.Bounds.{most_condacts, most_piece}
use Rattle.paw_check.specs.Verdicts.{above, first_cause}

-- The verdict of a game with these levels of calls, in which neither calls nor descriptions are a cause.
abbrev pub bound_or_cause : GameLists → ℕ → Verdict
bound_or_cause g levels =
    first_cause (verdict.Bound levels (most_condacts g) (most_piece g))
    ((cause.Condacts, above READ_LIMIT (most_condacts g)) ∷ (cause.Text, above PIECE_LIMIT (most_piece g)) ∷ [])
