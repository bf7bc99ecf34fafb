-- What an action does.
use Rattle.std.specs.Prelude.{true, false, []}
use Rattle.paw_base.specs.Bytes.{Text}
use Rattle.paw_world.specs.World.{World}
use Rattle.paw_effects.specs.declared.act.Effect.{Effect}
use Rattle.paw_effects.specs.declared.act.Effect.TheVariants as effect
use Rattle.paw_effects.specs.declared.act.Act.{Act}

-- What an action prints, the world after it, and what it answers.
pub record Done : Type 0 where
  pub text : Text
  pub world : World
  pub act : Act

-- The answer of an action after which reading goes on with this effect, with the line and the loop as they are.
abbrev pub plainly : Effect → Act
plainly e = record { effect = e; drop_line = false; cancel_loop = false }

-- The answer of an action after which reading goes on with this effect, with the rest of the line dropped.
abbrev pub dropping_act : Effect → Act
dropping_act e = record { effect = e; drop_line = true; cancel_loop = false }

-- Prints this text, and reading goes on with this effect.
abbrev pub prints_then : World → Text → Effect → Done
prints_then w text e = record { text = text; world = w; act = plainly e }

-- Prints nothing, and reading goes on with this effect.
abbrev pub leads : World → Effect → Done
leads w e = prints_then w [] e

-- Prints this text, and reading goes on at the next condact.
abbrev pub prints : World → Text → Done
prints w text = prints_then w text effect.Go

-- Leaves this world and prints nothing, and reading goes on at the next condact.
abbrev pub makes : World → Done
makes w = leads w effect.Go
