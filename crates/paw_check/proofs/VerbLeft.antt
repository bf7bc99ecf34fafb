-- Each condact leaves the verb as it is, but for those that may write it.
use Rattle.std.proofs.Common.{ℕ, false, refl, inl}
use Rattle.paw_base.specs.declared.flags.TheConstants.{VERB_FLAG}
use Rattle.paw_base.specs.declared.parts.Condact.{Condact}
use Rattle.paw_game.specs.Game.{GameLists}
use Rattle.paw_world.specs.World.{World, flag}
use Rattle.paw_effects.specs.Story.{Story}
use Rattle.paw_effects.specs.Meanings.{Meaning, Tests, Acts, meaning_of}
use Rattle.paw_effects.specs.Indirect.{as_plain}
use Rattle.paw_effects.specs.Effects.{makes, done_by, effect_of, plain_effect}
use Rattle.paw_effects.specs.Holds.{Tested, answers, tested_by, holds, plain_holds}
use Rattle.paw_effects.specs.inner.Standing.{IsWorldOf}
use Rattle.paw_check.specs.inner.Condacts.{ConditionsLeaveVerb, ActionsLeaveVerb}
use Rattle.paw_check.proofs.ActionFacts.{VerbLeftBy}
use Rattle.paw_check.proofs.EachAction.{facts}
use Rattle.paw_check.proofs.Carried.{SparesVerb, of_carried, carried_spares}
use Rattle.paw_check.proofs.Verb.{HasVerb, LeavesVerb}

-- ---- each plain condact ----

done_leaves : (n : ℕ) (m : Meaning) (s : Story) (w : World) (c : Condact) → VerbLeftBy c.code m → SparesVerb c
    → IsWorldOf s.game w → HasVerb n w → LeavesVerb n (done_by m s w c)
done_leaves n (Tests test) s w c kept spares of k = inl k
done_leaves n (Acts done) s w c kept spares of k = kept n s w c refl spares of k

tested_has : (n : ℕ) (m : Meaning) (g : GameLists) (w : World) (c : Condact) → VerbLeftBy c.code m → SparesVerb c
    → HasVerb n w → HasVerb n (tested_by m g w c).world
tested_has n (Tests test) g w c kept spares k = kept n g w c refl spares k
tested_has n (Acts done) g w c kept spares k = k

plain_leaves : (n : ℕ) (s : Story) (w : World) (c : Condact) → SparesVerb c → IsWorldOf s.game w → HasVerb n w
    → LeavesVerb n (plain_effect s w c)
unfolding plain_effect
plain_leaves n s w c = done_leaves n (meaning_of c.code) s w c (facts c.code).verb.leaves

plain_has : (n : ℕ) (g : GameLists) (w : World) (c : Condact) → SparesVerb c → HasVerb n w
    → HasVerb n (plain_holds g w c).world
unfolding plain_holds
plain_has n g w c = tested_has n (meaning_of c.code) g w c (facts c.code).verb.leaves

-- ---- each condact ----

pub conditions_leave_verb : ConditionsLeaveVerb
unfolding holds
conditions_leave_verb g w c v of right spared =
    of_carried (λ (t : Tested). HasVerb (flag w VERB_FLAG) t.world) (plain_holds g.game w) (as_plain g.game w c)
    (answers w false)
    (λ d is. plain_has (flag w VERB_FLAG) g.game w d (carried_spares g.game w c d is spared) refl) refl

pub actions_leave_verb : ActionsLeaveVerb
unfolding effect_of
actions_leave_verb g w c v of right spared =
    of_carried (LeavesVerb (flag w VERB_FLAG)) (plain_effect g w) (as_plain g.game w c) (makes w)
    (λ d is. plain_leaves (flag w VERB_FLAG) g w d (carried_spares g.game w c d is spared) of refl) (inl refl)
