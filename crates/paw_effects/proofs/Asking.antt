-- Which condacts ask, call tables and open loops.
use Rattle.std.proofs.Common.{◌≡◌, ℕ, Bool, true, false, Option, Some, None, refl, subst}
use Rattle.std.specs.Prelude.{if◌then◌else◌}
use Rattle.std.specs.Option.{option_map_or}
use Rattle.paw_base.specs.declared.codes.TheConstants.{QUIT, END, ANYKEY, SAVE, PROCESS, DOALL}
use Rattle.paw_base.specs.Condacts.{condact_lines, plain_line, may_be_indirect}
use Rattle.paw_base.specs.declared.parts.Condact.{Condact}
use Rattle.paw_game.specs.Game.{GameLists}
use Rattle.paw_world.specs.World.{World, Position, with_flag}
use Rattle.paw_effects.specs.declared.act.Prompt.{Prompt}
use Rattle.paw_effects.specs.declared.act.Prompt.TheVariants as prompt
use Rattle.paw_effects.specs.declared.act.Truth.TheVariants as truth
use Rattle.paw_effects.specs.declared.act.Effect.{Effect}
use Rattle.paw_effects.specs.declared.act.Effect.TheVariants as effect
use Rattle.paw_effects.specs.declared.object_actions.Action.{Action}
use Rattle.paw_effects.specs.declared.object_actions.Action.TheVariants as action
use Rattle.paw_effects.specs.declared.object_words.ObjectReply.{ObjectReply}
use Rattle.paw_effects.specs.Story.{Story}
use Rattle.paw_effects.specs.Positions.{position_loaded}
use Rattle.paw_effects.specs.Referring.{object_referred}
use Rattle.paw_effects.specs.ObjectSearch.{first_fitting}
use Rattle.paw_effects.specs.ObjectActions.{first_that_holds, hindrances, action_tried, acted_on}
use Rattle.paw_effects.specs.AutoActions.{looks_at, acted_on_found, acted_by_name}
use Rattle.paw_effects.specs.Meanings.{Meaning, Tests, Acts}
use Rattle.paw_effects.specs.Indirect.{as_plain}
use Rattle.paw_effects.specs.Effects.{done_by}
use Rattle.paw_effects.specs.Holds.{answers, tested_by}
use Rattle.paw_effects.specs.Presence.{named_place}
use Rattle.paw_effects.proofs.Carried.{carried_itself}

-- ---- what asks, calls and loops ----

-- The codes of the condacts that ask.
abbrev pub AsksAt : ℕ → Prompt → Type 0
AsksAt code prompt.Main = ⊥
AsksAt code prompt.Quit = code ≡ QUIT
AsksAt code prompt.Again = code ≡ END
AsksAt code prompt.Key = code ≡ ANYKEY
AsksAt code prompt.Over = ⊥

-- Only PROCESS calls a table, only DOALL opens a loop, and each prompt has its own code.
abbrev pub Leads : World → Condact → Effect → Type 0
Leads w c effect.Go = Unit {0}
Leads w c (effect.Exit a) = Unit {0}
Leads w c effect.Redescribe = Unit {0}
Leads w c (effect.Call u) = (c.code ≡ PROCESS) × (u ≡ c.a)
Leads w c (effect.Loop p) = (c.code ≡ DOALL) × (p ≡ named_place w c.a)
Leads w c (effect.Ask p) = AsksAt c.code p
Leads w c effect.Parse = Unit {0}
Leads w c effect.Spent = Unit {0}

-- ---- an indirect condact leads on as the plain one ----

-- What asks, calls a table, opens a loop or keeps a position can't be indirect.
pub quit_itself : may_be_indirect QUIT ≡ false
unfolding condact_lines plain_line
quit_itself = refl

end_itself : may_be_indirect END ≡ false
unfolding condact_lines plain_line
end_itself = refl

key_itself : may_be_indirect ANYKEY ≡ false
unfolding condact_lines plain_line
key_itself = refl

pub save_itself : may_be_indirect SAVE ≡ false
unfolding condact_lines plain_line
save_itself = refl

process_itself : may_be_indirect PROCESS ≡ false
unfolding condact_lines plain_line
process_itself = refl

doall_itself : may_be_indirect DOALL ≡ false
unfolding condact_lines plain_line
doall_itself = refl

module _ (g : GameLists) (w : World) (c d : Condact) (is : as_plain g w c ≡ Some d) where
  pub same_code : (code : ℕ) → may_be_indirect code ≡ false → d.code ≡ code → c.code ≡ code
  same_code code never at = subst (λ x. x.code ≡ code) (carried_itself g w c d is code never at) at

  asks_as : (p : Prompt) → AsksAt d.code p → AsksAt c.code p
  asks_as prompt.Main h = h
  asks_as prompt.Quit h = same_code QUIT quit_itself h
  asks_as prompt.Again h = same_code END end_itself h
  asks_as prompt.Key h = same_code ANYKEY key_itself h
  asks_as prompt.Over h = h

  pub leads_as : (e : Effect) → Leads w d e → Leads w c e
  leads_as effect.Go h = tt
  leads_as (effect.Exit a) h = tt
  leads_as effect.Redescribe h = tt
  leads_as (effect.Call u) h = subst (λ x. Leads w x (effect.Call u)) (carried_itself g w c d is PROCESS process_itself h.0) h
  leads_as (effect.Loop p) h = subst (λ x. Leads w x (effect.Loop p)) (carried_itself g w c d is DOALL doall_itself h.0) h
  leads_as (effect.Ask p) h = asks_as p h
  leads_as effect.Parse h = tt
  leads_as effect.Spent h = tt

-- ---- actions on objects, and positions ----

tried_leads : (g : GameLists) (w v : World) (c : Condact) (o : ℕ) (a : Action) (said : Option ObjectReply) → Leads w c (action_tried g v o a said).act.effect
tried_leads g w v c o a (Some said) = tt
tried_leads g w v c o a None = tt

pub acted_leads : (g : GameLists) (w : World) (c : Condact) (o : ℕ) (a : Action) → Leads w c (acted_on g w o a).act.effect
acted_leads g w c o a = tried_leads g w (object_referred w o) c o a (first_that_holds (hindrances (object_referred w o) o a))

found_leads : (g : GameLists) (w : World) (c : Condact) (a : Action) (found : Option ℕ) → Leads w c (acted_on_found g w a found).act.effect
found_leads g w c a (Some o) = acted_leads g w c o a
found_leads g w c a None = tt

pub named_leads : (g : GameLists) (w : World) (c : Condact) (a : Action) → Leads w c (acted_by_name g w a).act.effect
named_leads g w c a = found_leads g w c a (first_fitting w (looks_at a))

pub loaded_leads : (g : GameLists) (w : World) (c : Condact) (kept : Option Position) → Leads w c (position_loaded g w kept).act.effect
loaded_leads g w c None = tt
loaded_leads g w c (Some q) = tt

-- ---- conditions ----

pub truth_told : (b : Bool) → (if b then truth.Yes else truth.No) ≡ truth.Ask → ⊥
truth_told true h = cc
truth_told false h = cc

pub move_told : (w : World) (f : ℕ) (to : Option ℕ) → (option_map_or (λ x. answers (with_flag w f x) true) to (answers w false)).answer ≡ truth.Ask → ⊥
move_told w f None h = cc
move_told w f (Some to) h = cc

-- ---- each row ----

-- A condition of this code asks only where it is QUIT; an action leads on as its code says.
abbrev pub LeadsOn : ℕ → Meaning → Type 0
LeadsOn code (Tests tested) = (g : GameLists) (w : World) (c : Condact) → c.code ≡ code → (tested g w c).answer ≡ truth.Ask → c.code ≡ QUIT
LeadsOn code (Acts done) = (s : Story) (w : World) (c : Condact) → c.code ≡ code → Leads w c (done s w c).act.effect

pub leads_by : (m : Meaning) (s : Story) (w : World) (c : Condact) → LeadsOn c.code m → Leads w c (done_by m s w c).act.effect
leads_by (Tests tested) s w c h = tt
leads_by (Acts done) s w c h = h s w c refl

pub asks_by : (m : Meaning) (g : GameLists) (w : World) (c : Condact) → LeadsOn c.code m → (tested_by m g w c).answer ≡ truth.Ask → c.code ≡ QUIT
asks_by (Tests tested) g w c h e = h g w c refl e
asks_by (Acts done) g w c h e = absurd (truth_told false e)

-- ---- prompts ----

-- The prompts in tables.
abbrev pub IsInner : Prompt → Type 0
IsInner prompt.Main = ⊥
IsInner prompt.Quit = Unit {0}
IsInner prompt.Again = Unit {0}
IsInner prompt.Key = Unit {0}
IsInner prompt.Over = ⊥

-- An action asks only at prompts in tables.
abbrev pub AsksInner : Effect → Type 0
AsksInner effect.Go = Unit {0}
AsksInner (effect.Exit a) = Unit {0}
AsksInner effect.Redescribe = Unit {0}
AsksInner (effect.Call u) = Unit {0}
AsksInner (effect.Loop p) = Unit {0}
AsksInner (effect.Ask p) = IsInner p
AsksInner effect.Parse = Unit {0}
AsksInner effect.Spent = Unit {0}

asks_inner : (code : ℕ) (p : Prompt) → AsksAt code p → IsInner p
asks_inner code prompt.Main h = h
asks_inner code prompt.Quit h = tt
asks_inner code prompt.Again h = tt
asks_inner code prompt.Key h = tt
asks_inner code prompt.Over h = h

pub leads_inner : (w : World) (c : Condact) (e : Effect) → Leads w c e → AsksInner e
leads_inner w c effect.Go h = tt
leads_inner w c (effect.Exit a) h = tt
leads_inner w c effect.Redescribe h = tt
leads_inner w c (effect.Call u) h = tt
leads_inner w c (effect.Loop p) h = tt
leads_inner w c (effect.Ask p) h = asks_inner c.code p h
leads_inner w c effect.Parse h = tt
leads_inner w c effect.Spent h = tt
