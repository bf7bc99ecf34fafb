-- Which condacts take a phrase of the line, and which describe the location again; none is ever spent.
use Rattle.std.proofs.Common.{ℕ}
use Rattle.paw_base.specs.declared.parts.Condact.{Condact}
use Rattle.paw_base.specs.Condacts.{plain_code}
use Rattle.paw_world.specs.World.{World}
use Rattle.paw_effects.specs.Story.{Story}
use Rattle.paw_effects.specs.Meanings.{Meaning, Tests, Acts, meaning_of}
use Rattle.paw_effects.specs.Indirect.{as_plain}
use Rattle.paw_effects.specs.Effects.{Done, makes, done_by, effect_of, plain_effect}
use Rattle.paw_check.proofs.ActionFacts.{MayLead, LeadsBy}
use Rattle.paw_check.proofs.EachAction.{facts}
use Rattle.paw_check.proofs.Carried.{of_carried, carried_code}

done_leads : (code : ℕ) (m : Meaning) (s : Story) (w : World) (c : Condact) → LeadsBy code m
    → MayLead code (done_by m s w c).act.effect
done_leads code (Tests test) s w c h = tt
done_leads code (Acts done) s w c h = h s w c

-- ---- each condact ----

plain_goes : (s : Story) (w : World) (c : Condact) → MayLead c.code (plain_effect s w c).act.effect
unfolding plain_effect
plain_goes s w c = done_leads c.code (meaning_of c.code) s w c (facts c.code).way.led

-- An action leads on as the plain code of its condact may.
pub effect_goes : (s : Story) (w : World) (c : Condact) → MayLead (plain_code c.code) (effect_of s w c).act.effect
unfolding effect_of
effect_goes s w c =
    of_carried (λ (d : Done). MayLead (plain_code c.code) d.act.effect) (plain_effect s w) (as_plain s.game w c)
    (makes w) (λ d is. rw (← carried_code s.game w c d is) (plain_goes s w d)) tt
