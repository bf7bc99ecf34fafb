use Rattle.std.proofs.Common.{◌≤◌, length, subst, sym, ◌∙◌}
use Rattle.paw_base.specs.declared.limits.TheConstants.{IMAGE_LIMIT}
use Rattle.paw_game.specs.Game.{GameLists}
use Rattle.paw_game.specs.Image.{image}
use Rattle.paw_game.specs.Valid.{Valid}
use Rattle.paw_gen.proofs.Valids.{trial_valid}
use Rattle.paw_gen.proofs.Shorts.{trial_short}
use Rattle.paw_gen.proofs.game.game_of.Goals as goal

pub unreachable-requires : goal.unreachable-requires
unreachable-requires c = c.in-Err.ensures.refused (subst Valid (sym c.in_ok-parts.ensures.value) (trial_valid c.args.n))

pub returns-clause-short : goal.returns-clause-short
returns-clause-short c =
    subst (λ (g : GameLists). length (image g) ≤ IMAGE_LIMIT)
    (sym (c.in-Ok.ensures.game ∙ c.in_ok-parts.ensures.value)) (trial_short c.args.n)
