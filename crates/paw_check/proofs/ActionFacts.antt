-- Three facts of what a code means: what it prints at most, whether it leaves the verb, and where reading goes on;
-- with a word for each usual kind of action.
use Rattle.std.proofs.Common.{◌≡◌, ℕ, ◌==◌, ◌<◌, ◌≤◌, Bool, true, false, List, [], ◌∷◌, Option, Some, None}
use Rattle.std.proofs.Common.{refl, sym, subst, length, inl, arith}
use Rattle.paw_base.specs.Bytes.{Texts, Text}
use Rattle.paw_base.specs.declared.codes.TheConstants.{PARSE, DESC, SAVE, LOAD, RESET}
use Rattle.paw_base.specs.declared.flags.TheConstants.{VERB_FLAG}
use Rattle.paw_base.specs.declared.parts.Condact.{Condact}
use Rattle.paw_game.specs.Game.{GameLists}
use Rattle.paw_world.specs.World.{World, Position, with_flag, object_moved}
use Rattle.paw_effects.specs.declared.act.Act.{Act}
use Rattle.paw_effects.specs.declared.act.Effect.{Effect}
use Rattle.paw_effects.specs.declared.act.Effect.TheVariants as effect
use Rattle.paw_effects.specs.declared.act.Prompt.{Prompt}
use Rattle.paw_effects.specs.Story.{Story}
use Rattle.paw_effects.specs.Positions.{position_loaded}
use Rattle.paw_effects.specs.ObjectWords.{spoken_words}
use Rattle.paw_effects.specs.Referring.{object_referred}
use Rattle.paw_effects.specs.ObjectSearch.{first_fitting}
use Rattle.paw_effects.specs.ObjectActions.{first_that_holds, hindrances, outcome, action_tried, acted_on}
use Rattle.paw_effects.specs.AutoActions.{looks_at, missing_reply, acted_on_found, acted_by_name}
use Rattle.paw_effects.specs.Meanings.{Meaning, Tests, Acts, tests, doing, changing, mark}
use Rattle.paw_effects.specs.Done.{plainly}
use Rattle.paw_effects.specs.Effects.{Done}
use Rattle.paw_effects.specs.Holds.{Tested}
use Rattle.paw_effects.specs.inner.Standing.{IsWorldOf}
use Rattle.paw_check.specs.Measures.{most_at}
use Rattle.paw_check.specs.Prints.{most_named, most_of_action, said_of_objects, silent}
use Rattle.paw_check.specs.Prints.{sign_most as most_mark}
use Rattle.paw_check.specs.Verbs.{is_among, writes_first, writes_second}
use Rattle.paw_check.proofs.EachPlain.{Most}
use Rattle.paw_check.proofs.Carried.{SparesVerb}
use Rattle.paw_check.proofs.Signs.{sign_most}
use Rattle.paw_reading.proofs.SpokenActions.{AllSaid}
use Rattle.paw_check.proofs.Spoken.{Said, said, acted_most, found_most}
use Rattle.paw_check.proofs.Verb.{HasVerb, LeavesVerb, other_has, moved_has, acted_has, found_has}

-- ---- what is printed ----

-- What is known of a condact d that is carried out for c: a text that it names is within what c may name, and its
-- parameters are bytes.
pub record StandsFor (g : GameLists) (c d : Condact) : Type 0 where
  pub named : (texts : Texts) → most_at g texts d.a ≤ most_named g texts c
  pub first : d.a < 256
  pub second : d.b < 256

-- An action prints within this.
abbrev pub PrintsBy : Most → Meaning → Type 0
PrintsBy most (Tests test) = Unit {0}
PrintsBy most (Acts done) = (s : Story) (w : World) (c d : Condact) → IsWorldOf s.game w → StandsFor s.game c d
    → length (done s w d).text ≤ most s.game c

pub record Prints (most : Most) (m : Meaning) : Type 0 where
  pub within : PrintsBy most m

-- ---- whether the verb is left ----

-- A condition and an action of this code leave the verb.
abbrev pub VerbLeftBy : ℕ → Meaning → Type 0
VerbLeftBy code (Tests test) = (n : ℕ) (g : GameLists) (w : World) (c : Condact) → c.code ≡ code → SparesVerb c
    → HasVerb n w → HasVerb n (test g w c).world
VerbLeftBy code (Acts done) = (n : ℕ) (s : Story) (w : World) (c : Condact) → c.code ≡ code → SparesVerb c
    → IsWorldOf s.game w → HasVerb n w → LeavesVerb n (done s w c)

pub record VerbLeft (code : ℕ) (m : Meaning) : Type 0 where
  pub leaves : VerbLeftBy code m

-- ---- where reading goes on ----

-- What a plain condact of this code may lead to; none is ever spent.
abbrev pub MayLead : ℕ → Effect → Type 0
MayLead code effect.Go = Unit {0}
MayLead code (effect.Exit a) = Unit {0}
MayLead code effect.Redescribe = is_among (DESC ∷ SAVE ∷ LOAD ∷ RESET ∷ []) code ≡ true
MayLead code (effect.Call u) = Unit {0}
MayLead code (effect.Loop p) = Unit {0}
MayLead code (effect.Ask p) = Unit {0}
MayLead code effect.Parse = code ≡ PARSE
MayLead code effect.Spent = ⊥

-- A condition leads to nothing.
abbrev pub LeadsBy : ℕ → Meaning → Type 0
LeadsBy code (Tests test) = Unit {0}
LeadsBy code (Acts done) = (s : Story) (w : World) (c : Condact) → MayLead code (done s w c).act.effect

pub record Way (code : ℕ) (m : Meaning) : Type 0 where
  pub led : LeadsBy code m

-- ---- the three, side by side ----

-- Each fact is a record of its own, so that the words below find the parts of an action by comparing types.
pub record Facts (code : ℕ) (most : Most) (m : Meaning) : Type 0 where
  pub text : Prints most m
  pub verb : VerbLeft code m
  pub way : Way code m

pub row : {code : ℕ} {most : Most} {m : Meaning} → Prints most m → VerbLeft code m → Way code m → Facts code most m
row t v w = record { text = t; verb = v; way = w }

-- What a story, a world and a condact give.
abbrev pub Given : Type 0 → Type 0
Given A = Story → World → Condact → A

-- An action by its three parts.
abbrev pub action : Given Text → Given World → Given Act → Meaning
action text world act = Acts (λ s w c. record { text = text s w c; world = world s w c; act = act s w c })

-- ---- words for what is printed ----

-- Nothing is printed.
pub quiet : {world : Given World} {act : Given Act} → Prints silent (action (λ s w c. []) world act)
quiet = record { within = λ s w c d of k. omega arith }

-- A text is printed, which is within its bound for this reason.
pub prints : {most : Most} {done : Given Done} → PrintsBy most (Acts done) → Prints most (Acts done)
prints why = record { within = why }

-- ---- words for how the verb is left ----

-- The world stays as it is.
pub still : {code : ℕ} {text : Given Text} {act : Given Act} → VerbLeft code (action text (λ s w c. w) act)
still = record { leaves = λ n s w c is spares of k. inl k }

-- The verb is left for this reason.
pub verb_left : {code : ℕ} {done : Given Done} → VerbLeftBy code (Acts done) → VerbLeft code (Acts done)
verb_left why = record { leaves = why }

-- An object is moved.
pub moving : {code : ℕ} (o p : World → Condact → ℕ) → VerbLeft code (changing (λ w c. object_moved w (o w c) (p w c)))
moving o p = record { leaves = λ n s w c is spares of k. inl (moved_has n w (o w c) (p w c) k) }

-- This flag is given a value, or these two flags.
pub set : {code f : ℕ} {x : World → Condact → ℕ} → (f == VERB_FLAG) ≡ false
    → VerbLeft code (changing (λ w c. with_flag w f (x w c)))
set {f = f} {x = x} other = record { leaves = λ n s w c is spares of k. inl (other_has n w f (x w c) other k) }

pub set_two : {code f h : ℕ} → (f == VERB_FLAG) ≡ false → (h == VERB_FLAG) ≡ false
    → VerbLeft code (changing (λ w c. with_flag (with_flag w f c.a) h c.b))
set_two {f = f} {h = h} other another = record {
  leaves = λ n s w c is spares of k.
      inl (other_has n (with_flag w f c.a) h c.b another (other_has n w f c.a other k));
}

pub writes_one : (codes : List ℕ) (code : ℕ) (c : Condact) → is_among codes code ≡ true → c.code ≡ code
    → is_among codes c.code ≡ true
writes_one codes code c among is = subst (λ x. is_among codes x ≡ true) (sym is) among

-- The flag that the first or the second parameter names is given a value: the code is among those that write it.
pub set_first : {code : ℕ} {x : World → Condact → ℕ} → is_among writes_first code ≡ true
    → VerbLeft code (changing (λ w c. with_flag w c.a (x w c)))
set_first {code} {x} among = record {
  leaves = λ n s w c is spares of k.
      inl (other_has n w c.a (x w c) (spares.first (writes_one writes_first code c among is)) k);
}

pub set_second : {code : ℕ} {x : World → Condact → ℕ} → is_among writes_second code ≡ true
    → VerbLeft code (changing (λ w c. with_flag w c.b (x w c)))
set_second {code} {x} among = record {
  leaves = λ n s w c is spares of k.
      inl (other_has n w c.b (x w c) (spares.second (writes_one writes_second code c among is)) k);
}

-- ---- words for where reading goes on ----

-- Reading goes on where the code may lead to, for this reason.
pub leads : {code : ℕ} {done : Given Done} → LeadsBy code (Acts done) → Way code (Acts done)
leads why = record { led = why }

module _ {code : ℕ} {text : Given Text} {world : Given World} where
  -- Reading goes on at the next condact, with the line as it is or without it.
  pub going : {line loop : Bool}
      → Way code (action text world (λ s w c. record { effect = effect.Go; drop_line = line; cancel_loop = loop }))
  going = record { led = λ s w c. tt }

  -- The table is left.
  pub leaving : {b : Bool} → Way code (action text world (λ s w c. plainly (effect.Exit b)))
  leaving = record { led = λ s w c. tt }

  -- The location is described again: the code is among those that may lead there.
  pub describing : is_among (DESC ∷ SAVE ∷ LOAD ∷ RESET ∷ []) code ≡ true
      → Way code (action text world (λ s w c. plainly effect.Redescribe))
  describing among = record { led = λ s w c. among }

  -- Another table is read.
  pub calling : {u : Given ℕ} → Way code (action text world (λ s w c. plainly (effect.Call (u s w c))))
  calling = record { led = λ s w c. tt }

  -- A loop over objects begins.
  pub looping : {p : Given ℕ} → Way code (action text world (λ s w c. plainly (effect.Loop (p s w c))))
  looping = record { led = λ s w c. tt }

  -- A prompt waits for the player.
  pub asking : {p : Prompt} → Way code (action text world (λ s w c. plainly (effect.Ask p)))
  asking = record { led = λ s w c. tt }

  -- The next phrase is taken: the code is that of PARSE.
  pub parsing : code ≡ PARSE → Way code (action text world (λ s w c. plainly effect.Parse))
  parsing is = record { led = λ s w c. is }

pub loaded_leads : (g : GameLists) (w : World) (kept : Option Position) → MayLead LOAD (position_loaded g w kept).act.effect
loaded_leads g w None = refl
loaded_leads g w (Some q) = refl

module _ (code : ℕ) (g : GameLists) (w : World) where
  tried_leads : (v : World) (o : ℕ) (a : _) (words : Option _) → MayLead code (action_tried g v o a words).act.effect
  tried_leads v o a (Some x) = tt
  tried_leads v o a None = tt

  acted_leads : (o : ℕ) (a : _) → MayLead code (acted_on g w o a).act.effect
  acted_leads o a = tried_leads (object_referred w o) o a (first_that_holds (hindrances (object_referred w o) o a))

  found_leads : (a : _) (found : Option ℕ) → MayLead code (acted_on_found g w a found).act.effect
  found_leads a (Some o) = acted_leads o a
  found_leads a None = tt

-- ---- words for whole rows ----

-- A condition, by why it leaves the verb.
pub condition : {code : ℕ} {most : Most} {test : GameLists → World → Condact → Tested} → VerbLeftBy code (Tests test)
    → Facts code most (Tests test)
condition why = row (record { within = tt {0} }) (record { leaves = why }) (record { led = tt {0} })

-- One that changes nothing.
pub tested : (most : Most) (code : ℕ) (so : World → Condact → Bool) → Facts code most (tests so)
tested most code so = condition (λ n g w c is spares k. k)

-- What is shown or played beside the text.
pub marked : (code : ℕ) → Facts code most_mark mark
marked code = row (prints (λ s w c d of k. sign_most d k.first k.second)) still going

-- A message that is among those of actions is said.
pub says : (m : ℕ) → is_among said_of_objects m ≡ true → (g : GameLists) (d : Condact) → Said g m
says m among g d = said g m among

-- An action by what may be said against it, and what is said where it is done.
module _ {code : ℕ} (a : Condact → _)
    (hinders : (g : GameLists) (d : Condact) (u : World) (o : ℕ)
    → AllSaid (λ x. (v : World) → length (spoken_words g v x) ≤ most_of_action g) (hindrances u o (a d)))
    (comes : (g : GameLists) (d : Condact) (u : World)
    → length (spoken_words g u (outcome (a d))) ≤ most_of_action g) where
  -- On the object that it names.
  pub on_object : Facts code (λ g c. most_of_action g) (doing (λ g w d. acted_on g w d.a (a d)))
  on_object =
      row (prints (λ s w c d of k. acted_most s.game (a d) (hinders s.game d) (comes s.game d) w d.a))
      (verb_left (λ n s w c is spares of k. inl (acted_has n s.game w c.a (a c) k)))
      (leads (λ s w c. acted_leads code s.game w c.a (a c)))

  -- On the object that the sentence names, by what is said where there is none too.
  pub by_name : ((g : GameLists) (d : Condact) (u : World)
      → length (spoken_words g u (missing_reply (a d))) ≤ most_of_action g)
      → Facts code (λ g c. most_of_action g) (doing (λ g w d. acted_by_name g w (a d)))
  by_name misses =
      let found : World → Condact → Option ℕ = λ w c. first_fitting w (looks_at (a c)) in
      row
      (prints (λ s w c d of k.
      found_most s.game (a d) (hinders s.game d) (comes s.game d) w (found w d) (misses s.game d w)))
      (verb_left (λ n s w c is spares of k. inl (found_has n s.game w (a c) (found w c) k)))
      (leads (λ s w c. found_leads code s.game w (a c) (found w c)))
