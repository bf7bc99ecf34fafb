-- What reading a table does beside its condacts leaves the world one of the game, and the verb as it is.
use Rattle.std.proofs.Common.{◌≡◌, ◌≢◌, ℕ, suc, ◌+◌, ◌%◌, Bool, true, false, Option, Some, None, refl, ◌∙◌}
use Rattle.std.proofs.Common.{All, arith}
use Rattle.std.specs.Prelude.{slice_get}
use Rattle.std.proofs.lemmas.List.{get_or-set_other}
use Rattle.paw_base.specs.Bytes.{RoutineAnswers}
use Rattle.paw_base.specs.declared.parts.Condact.{Condact}
use Rattle.paw_base.specs.declared.parts.ObjectFacts.{ObjectFacts}
use Rattle.paw_base.specs.declared.flags.TheConstants.{NOUN_FLAG, ADJECTIVE_FLAG, LOOP_FLAG, VERB_FLAG}
use Rattle.paw_base.specs.declared.flags.TheConstants.{TIMED_OUT_FLAG, REFERRED_WEIGHT_FLAG, REFERRED_CONTAINER_FLAG}
use Rattle.paw_base.specs.declared.flags.TheConstants.{REFERRED_WEARABLE_FLAG, REFERRED_PLACE_FLAG, REFERRED_FLAG}
use Rattle.paw_base.specs.declared.flags.TheConstants.{TIMED_OUT_BIT}
use Rattle.paw_game.specs.Game.{GameLists}
use Rattle.paw_game.specs.Tables.{facts_at}
use Rattle.paw_game.specs.Valid.{Valid, is_condact}
use Rattle.paw_world.specs.World.{World, flag, with_flag, place, world_restarted}
use Rattle.paw_world.specs.Weight.{weight}
use Rattle.paw_effects.specs.Story.{story_of}
use Rattle.paw_effects.specs.Standing.{AreBytes}
use Rattle.paw_effects.specs.inner.Standing.{IsWorldOf}
use Rattle.paw_effects.specs.Referring.{object_referred, with_referred_facts, flag_of_fact}
use Rattle.paw_effects.specs.Holds.{holds}
use Rattle.paw_effects.specs.Effects.{effect_of}
use Rattle.paw_effects.proofs.Worlds.{IsWorldAt, world_at, world_is, anew_so}
use Rattle.paw_effects.proofs.EachRow.{effect_so, condition_so}
use Rattle.paw_reading.specs.declared.frames.OpenLoop.{OpenLoop}
use Rattle.paw_reading.specs.Run.{Run, with_timeout}
use Rattle.paw_reading.specs.Reading.{object_named, object_taken}

-- ---- the world stays one of the game ----

module _ (g : GameLists) (v : Valid g) where
  now : (w : World) → IsWorldOf g w → IsWorldAt g w.seed w.draws w
  now w k = world_at g w.seed w.draws w k refl (omega arith)

  pub anew_of : (w : World) → IsWorldOf g w → IsWorldOf g (world_restarted w)
  anew_of w k = world_is g w.seed w.draws (world_restarted w) (anew_so g v w.seed w.draws w (now w k))

  -- An action is carried out.
  pub acted_of : (answers : RoutineAnswers) → All AreBytes answers → (w : World) → IsWorldOf g w → (c : Condact) → is_condact g c ≡ true →
      IsWorldOf g (effect_of (story_of g answers) w c).world
  acted_of answers bytes w k c is =
      world_is g w.seed (suc w.draws) (effect_of (story_of g answers) w c).world (effect_so g v w.seed w.draws answers w c bytes (now w k) is)

  -- A condition is tested.
  pub tested_of : (w : World) → IsWorldOf g w → (c : Condact) → IsWorldOf g (holds g w c).world
  tested_of w k c = world_is g w.seed (suc w.draws) (holds g w c).world (condition_so g v w.seed w.draws w c (now w k))

-- ---- the verb stays ----

-- Another flag is set.
other : (w : World) (f x : ℕ) → VERB_FLAG ≢ f → flag (with_flag w f x) VERB_FLAG ≡ flag w VERB_FLAG
other w f x ne = get_or-set_other w.flags f VERB_FLAG x 0 ne

pub timeout_verb : (b : Bool) (w : World) → flag (with_timeout b w) VERB_FLAG ≡ flag w VERB_FLAG
timeout_verb true w = other w TIMED_OUT_FLAG (TIMED_OUT_BIT + flag w TIMED_OUT_FLAG % TIMED_OUT_BIT) (omega arith)
timeout_verb false w = other w TIMED_OUT_FLAG (flag w TIMED_OUT_FLAG % TIMED_OUT_BIT) (omega arith)

named_verb : (w : World) (f : Option ObjectFacts) → flag (object_named w f) VERB_FLAG ≡ flag w VERB_FLAG
named_verb w None = refl
named_verb w (Some f) = other (with_flag w NOUN_FLAG f.noun) ADJECTIVE_FLAG f.adjective (omega arith)
    ∙ other w NOUN_FLAG f.noun (omega arith)

facts_verb : (w : World) (o : ℕ) (f : Option ObjectFacts)
    → flag (with_referred_facts w o f) VERB_FLAG ≡ flag w VERB_FLAG
facts_verb w o None = refl
facts_verb w o (Some f) =
    let weighed : World = with_flag w REFERRED_WEIGHT_FLAG (weight w o) in
    let held : World = with_flag weighed REFERRED_CONTAINER_FLAG (flag_of_fact f.container) in
    other held REFERRED_WEARABLE_FLAG (flag_of_fact f.wearable) (omega arith)
    ∙ other weighed REFERRED_CONTAINER_FLAG (flag_of_fact f.container) (omega arith)
    ∙ other w REFERRED_WEIGHT_FLAG (weight w o) (omega arith)

referred_verb : (w : World) (o : ℕ) → flag (object_referred w o) VERB_FLAG ≡ flag w VERB_FLAG
referred_verb w o =
    let s : World = with_flag (with_flag w REFERRED_FLAG o) REFERRED_PLACE_FLAG (place w o) in
    facts_verb s o (slice_get w.facts o)
    ∙ other (with_flag w REFERRED_FLAG o) REFERRED_PLACE_FLAG (place w o) (omega arith)
    ∙ other w REFERRED_FLAG o (omega arith)

pub taken_verb : (g : GameLists) (l : OpenLoop) (o : ℕ) (r : Run)
    → flag (object_taken g l o r).world VERB_FLAG ≡ flag r.world VERB_FLAG
taken_verb g l o r =
    let w : World = object_named r.world (facts_at g o) in
    referred_verb (with_flag w LOOP_FLAG o) o ∙ other w LOOP_FLAG o (omega arith) ∙ named_verb r.world (facts_at g o)
