-- What the bound rests on, condact by condact.
use Rattle.std.specs.Prelude.{◌≡◌, ◌⊎◌, ◌≤◌, false, length, IsTrue}
use Rattle.paw_base.specs.declared.flags.TheConstants.{VERB_FLAG}
use Rattle.paw_base.specs.declared.messages.TheConstants.{QUIT_MESSAGE}
use Rattle.paw_base.specs.declared.parts.Condact.{Condact}
use Rattle.paw_game.specs.Valid.{is_condact}
use Rattle.paw_world.specs.World.{World, flag}
use Rattle.paw_effects.specs.Story.{Story}
use Rattle.paw_effects.specs.declared.act.Effect.TheVariants as effect
use Rattle.paw_effects.specs.declared.act.Truth.TheVariants as truth
use Rattle.paw_effects.specs.Holds.{holds}
use Rattle.paw_effects.specs.Effects.{effect_of}
use Rattle.paw_effects.specs.Texts.{put_text}
use Rattle.paw_effects.specs.inner.Standing.{IsWorldOf}
use Rattle.paw_reading.specs.Bounds.{ValidStory}
use Rattle.paw_check.specs.Prints.{most_text}
use Rattle.paw_check.specs.Verbs.{may_write_verb}

-- A fact about each condact of a story, in each world that its game may be in.
abbrev pub OfEach : (Story → World → Condact → Type 0) → Type 0
OfEach Fact = (g : Story) (w : World) (c : Condact) → ValidStory g → IsWorldOf g.game w →
    IsTrue (is_condact g.game c) → Fact g w c

-- An action prints no more than its row says.
abbrev pub ActionsPrintWithin : Type 0
ActionsPrintWithin = OfEach (λ g w c. length (effect_of g w c).text ≤ most_text g.game c)

-- The question that a condition asks, which is QUIT's, prints no more than its row says.
abbrev pub QuestionsPrintWithin : Type 0
QuestionsPrintWithin = OfEach (λ g w c. (holds g.game w c).answer ≡ truth.Ask →
    length (put_text g.game (holds g.game w c).world QUIT_MESSAGE) ≤ most_text g.game c)

-- A condition leaves the verb as it is, unless it is one that may write it.
abbrev pub ConditionsLeaveVerb : Type 0
ConditionsLeaveVerb =
    OfEach (λ g w c. may_write_verb c ≡ false → flag (holds g.game w c).world VERB_FLAG ≡ flag w VERB_FLAG)

-- An action leaves the verb as it is, unless it may write it, or leaves all tables to describe the location.
abbrev pub ActionsLeaveVerb : Type 0
ActionsLeaveVerb = OfEach (λ g w c. may_write_verb c ≡ false →
    (flag (effect_of g w c).world VERB_FLAG ≡ flag w VERB_FLAG)
    ⊎ ((effect_of g w c).act.effect ≡ effect.Redescribe))
