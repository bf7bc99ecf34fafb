-- What an action does: definitions for contracts and proofs, besides those of specs/Done.antt.
use Rattle.std.specs.Prelude.{◌≡◌, ◌+◌, ◌<◌, ◌≤◌, ◌++◌, length}
use Rattle.paw_base.specs.Bytes.{Text}
use Rattle.paw_base.specs.declared.limits.TheConstants.{PIECE_LIMIT}
use Rattle.paw_world.specs.World.{World}
use Rattle.paw_effects.specs.declared.act.Effect.{Effect}
use Rattle.paw_effects.specs.declared.act.Effect.TheVariants as effect
use Rattle.paw_effects.specs.declared.act.Act.{Act}
use Rattle.paw_effects.specs.Done.{Done}

-- An action was done in a piece: it holds the action's text too, or the text doesn't fit and the rest is open.
abbrev pub DoesAs : Done → Text → Text → World → Act → Effect → Type 0
DoesAs d old new world act effect.Spent = PIECE_LIMIT < length old + length d.text
DoesAs d old new world act e =
    (length old + length d.text ≤ PIECE_LIMIT) × (new ≡ old ++ d.text) × (world ≡ d.world) × (act ≡ d.act)

-- The same, by what the action answers.
abbrev pub Does : Done → Text → Text → World → Act → Type 0
Does d old new world act = DoesAs d old new world act act.effect
