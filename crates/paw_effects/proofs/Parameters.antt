-- The parameters that name objects.
use Rattle.std.proofs.Common.{◌≡◌, ℕ, ◌<◌, true, length, sym, subst, IsTrue}
use Rattle.std.proofs.lemmas.Bool.{ltb-true}
use Rattle.paw_base.specs.declared.parts.Condact.{Condact}
use Rattle.paw_base.specs.declared.rows.ParamKind.{ParamKind}
use Rattle.paw_base.specs.declared.rows.ParamKind.TheVariants as kind
use Rattle.paw_base.specs.Condacts.{first_kind, second_kind}
use Rattle.paw_game.specs.Game.{GameLists}
use Rattle.paw_game.specs.Valid.{is_argument}
use Rattle.paw_game.specs.inner.Valid.{is_right}
use Rattle.paw_game.proofs.Right.{right-first, right-second}
use Rattle.paw_world.specs.World.{World}
use Rattle.paw_effects.specs.Worlds.{IsOf}
use Rattle.paw_effects.specs.inner.Parameters.{names_object, takes_object, takes_second_object}

object_below : (g : GameLists) (k : ParamKind) (x : ℕ) → names_object k ≡ true → IsTrue (is_argument g k x) → x < length g.objects
object_below g kind.Object x h p = ltb-true x (length g.objects) p
object_below g _ x h p = cc

-- In a world of the game the object that a parameter names is one of the world's.
pub object_stands : (g : GameLists) (w : World) (c : Condact) → IsOf g w → is_right g c ≡ true → IsTrue (takes_object c.code) → c.a < length w.places
object_stands g w c of kept taken =
    subst (λ n. c.a < n) (sym of.places) (object_below g (first_kind c.code) c.a taken (right-first g c kept))

pub second_object_stands : (g : GameLists) (w : World) (c : Condact) → IsOf g w → is_right g c ≡ true →
    IsTrue (takes_second_object c.code) → c.b < length w.places
second_object_stands g w c of kept taken =
    subst (λ n. c.b < n) (sym of.places) (object_below g (second_kind c.code) c.b taken (right-second g c kept))

-- Both, for a search.
pub ruleset objects_stand = (object_stands, second_object_stands)
