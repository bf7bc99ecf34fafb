-- Two ways of calling tables read a table alike, where they do so for each table that it calls.
use Rattle.std.proofs.Common.{◌≡◌, ℕ, suc, ◌≤◌, Bool, true, false, ◌||◌, Option, Some, None, refl, sym, subst, arith}
use Rattle.std.specs.Prelude.{if◌then◌else◌}
use Rattle.std.specs.Option.{option_map_or}
use Rattle.std.proofs.lemmas.Bool.Decides.{nat_tests}
use Rattle.paw_base.specs.declared.parts.Condact.{Condact}
use Rattle.paw_world.specs.World.{World}
use Rattle.paw_effects.specs.Story.{Story}
use Rattle.paw_effects.specs.declared.act.Effect.{Effect}
use Rattle.paw_effects.specs.declared.act.Effect.TheVariants as effect
use Rattle.paw_effects.specs.Effects.{effect_of}
use Rattle.paw_reading.specs.declared.frames.Frame.{Frame}
use Rattle.paw_reading.specs.declared.frames.OpenLoop.{OpenLoop}
use Rattle.paw_reading.specs.Run.{Run}
use Rattle.paw_reading.specs.Reading.{Stop, Redescribes, Out, Left, Waits, Stopped, Called, after_call, at_level, next_object_or, from_condact}
use Rattle.paw_reading.specs.Reading.{prompt_asked, rest_of_loop}
use Rattle.paw_reading.proofs.Rules.{at_level_is}
use Rattle.paw_reading.proofs.EachStep.{Relation, Steps, StandsAt, table_of, itself}

-- An action calls one of these tables, and describes the location again only where that may be.
abbrev pub LeadsOn : Type 0 → (ℕ → Type 0) → Effect → Type 0
LeadsOn Describes Reached (effect.Call u) = Reached u
LeadsOn Describes Reached effect.Redescribe = Describes
LeadsOn Describes Reached _ = Unit {0}

elsewhere : (lv : ℕ) (l : OpenLoop) → at_level lv (Some l) ≡ None → l.level ≡ lv → ⊥
elsewhere lv l none e = grind (arith, nat_tests)

cancelled : (P : Option OpenLoop → Type 0) (b : Bool) (o : Option OpenLoop) → P None → P o → P (if b then None else o)
cancelled P true o none k = none
cancelled P false o none k = k

-- The tables that may be read at each level are given.
module _ (g : Story) (Describes : Type 0) (Own : ℕ → ℕ → Type 0) where
  -- The loop that is open is at this level or above it, and of a table of its level.
  abbrev pub IsOpen : ℕ → Option OpenLoop → Type 0
  IsOpen lv None = Unit {0}
  IsOpen lv (Some l) = (l.level ≤ lv) × Own l.level l.table

  -- And it isn't at this level.
  abbrev pub IsShut : ℕ → Option OpenLoop → Type 0
  IsShut lv o = IsOpen lv o × (at_level lv o ≡ None)

  -- The location is described again only where that may be.
  abbrev pub StopsSo : Stop → Type 0
  StopsSo Redescribes = Describes
  StopsSo _ = Unit {0}

  -- Two readings end in the same way; where the table is left this holds of the loop.
  abbrev pub Leaves : (Option OpenLoop → Type 0) → Out → Type 0
  Leaves P (Left a r) = P r.turning
  Leaves P (Waits p path r) = Unit {0}
  Leaves P (Stopped stop r) = StopsSo stop

  abbrev pub Alike : (Option OpenLoop → Type 0) → Out → Out → Type 0
  Alike P x y = (x ≡ y) × Leaves P x

  pub weaker : (P Q : Option OpenLoop → Type 0) → ((o : Option OpenLoop) → P o → Q o) → (x y : Out) → Alike P x y → Alike Q x y
  weaker P Q h (Left a r) y k = (k.0, h r.turning k.1)
  weaker P Q h (Waits p path r) y k = k
  weaker P Q h (Stopped stop r) y k = k

  module _ (lv : ℕ) where
    again : (next on : OpenLoop → Run → Out) →
        ((l : OpenLoop) (r : Run) → at_level lv r.turning ≡ Some l → IsOpen lv r.turning → Alike (IsShut lv) (next l r) (on l r)) → (x : Out) →
        Leaves (IsOpen lv) x → Alike (IsShut lv) (next_object_or lv next x) (next_object_or lv on x)
    again next on h (Left a r) k = by_loop (at_level lv r.turning) refl
      where
        by_loop : (o : Option OpenLoop) → at_level lv r.turning ≡ o →
            Alike (IsShut lv) (option_map_or (λ l. next l r) o (Left a r)) (option_map_or (λ l. on l r) o (Left a r))
        by_loop None e = (refl, (k, e))
        by_loop (Some l) e = h l r e k
    again next on h (Waits p path r) k = (refl, tt)
    again next on h (Stopped stop r) k = (refl, k)

    again_alike : (next on : OpenLoop → Run → Out) →
        ((l : OpenLoop) (r : Run) → at_level lv r.turning ≡ Some l → IsOpen lv r.turning → Alike (IsShut lv) (next l r) (on l r)) → (x y : Out) →
        Alike (IsOpen lv) x y → Alike (IsShut lv) (next_object_or lv next x) (next_object_or lv on y)
    again_alike next on h x y k = subst (λ z. Alike (IsShut lv) (next_object_or lv next x) (next_object_or lv on z)) k.0 (again next on h x k.1)

    after : (f : Frame) (go on : Bool → Run → Out) → ((a : Bool) (r : Run) → IsOpen lv r.turning → Alike (IsOpen lv) (go a r) (on a r)) → (x : Out) →
        Leaves (IsOpen lv) x → Alike (IsOpen lv) (after_call f go x) (after_call f on x)
    after f go on h (Left b r) k = h (f.acted || b) r k
    after f go on h (Waits p path r) k = (refl, tt)
    after f go on h (Stopped stop r) k = (refl, k)

    -- ---- each step ----

    abbrev pub relation : Relation
    relation = record {
      on = λ p r x y. Own lv (table_of p) → IsOpen lv r.turning → Alike (IsOpen lv) x y;
      acted = λ f c w e r x y. Own lv f.table → LeadsOn Describes (Own (suc lv)) e → IsOpen lv r.turning → Alike (IsOpen lv) x y;
      asked = λ f p r lines x y. Own lv f.table → IsOpen lv r.turning → Alike (IsOpen lv) x y;
      loop = λ l n r x y. l.level ≡ lv → Own lv l.table → Alike (IsShut lv) x y;
      call = λ u r x y. Own (suc lv) u → IsOpen lv r.turning → Alike (IsOpen lv) x y;
      whole = λ t r x y. Own lv t → IsOpen lv r.turning → Alike (IsShut lv) x y;
    }

    shut_open : (o : Option OpenLoop) → IsShut lv o → IsOpen lv o
    shut_open o k = k.0

    -- Where each condact of such a table leads on so.
    pub steps : ((f : Frame) (c : Condact) (w : World) → Own lv f.table → StandsAt g f c → LeadsOn Describes (Own (suc lv)) (effect_of g w c).act.effect) →
        (sub over_sub : Called) → Steps g itself sub over_sub lv relation
    unfolding prompt_asked
    steps leads sub over_sub = record {
      left = λ t e a r none own low. (refl, low);
      passed = λ t e en r x y is not_so h. h;
      matched = λ t e en r x y is now h. h;
      ended = λ t e n r x y none h. h;
      exhausted = λ f c r stands many own low. (refl, tt);
      holds_so = λ f c r x y stands few is h. h;
      fails = λ f c r x y stands few is h. h;
      asks = λ f c r x y stands few is e fit h. h;
      question_long = λ f c r stands few is e long own low. (refl, tt);
      acts = λ f c r x y stands few is fit h own low.
          h own (leads f c r.world own stands) (cancelled (IsOpen lv) (effect_of g r.world c).act.cancel_loop r.turning tt low);
      text_long = λ f c r stands few is long own low. (refl, tt);
      goes = λ f c w r x y h own way low. h own low;
      exits = λ f c w a r own way low. (refl, low);
      redescribes = λ f c w r own way low. (refl, way);
      calls = λ f c w u r x y h go own way low.
          let so = h way low in
          let past : Called → Bool → Run → Out = λ calls. from_condact g calls lv f.table f.entry (suc f.at) in
          subst (λ z. Alike (IsOpen lv) (after_call f (past sub) x) (after_call f (past over_sub) z)) so.0
          (after f (past sub) (past over_sub) (λ a s. go a s own) x so.1);
      loops = λ f c w p r x y h own way low. weaker (IsShut lv) (IsOpen lv) shut_open x y (h refl own);
      prompts = λ f c w p r x y h own way low. h own low;
      sentence = λ f c w r s bytes x y e h own way low. h own low;
      unknown = λ f c w r bytes x y e h own way low. h own low;
      no_phrase = λ f c w r x y h own way low. h own low;
      too_long = λ f c w r own way low. (refl, tt);
      waits = λ f p r own low. (refl, tt);
      ignored = λ f p r line lines x y h. h;
      answered = λ f p r line lines x y h. h;
      quits = λ f r line lines own low. (refl, low);
      restarts = λ f r line lines own low. (refl, tt);
      is_over = λ f r line lines fit own low. (refl, tt);
      goodbye_long = λ f r line lines long own low. (refl, tt);
      loop_ends = λ l r at own. (refl, (tt, refl));
      loop_passes = λ l n r x y few h. h;
      loop_takes = λ l n r x y is few h more at own.
          again_alike _ _ (λ m s e low. more s at own) x y (h own (omega (arith, at), subst (λ j. Own j l.table) (sym at) own));
      goes_round = λ p r x y h more own low.
          again_alike (rest_of_loop g sub lv) (rest_of_loop g over_sub lv)
          (λ l s e now.
          let found = at_level_is lv s.turning l e in
          let mine : IsOpen lv (Some l) = subst (IsOpen lv) found.1 now in more l s found.0 found.0 (subst (λ j. Own j l.table) found.0 mine.1))
          x y (h own low);
    }

  -- ---- a level ----

  pub higher : (lv : ℕ) (o : Option OpenLoop) → IsOpen lv o → IsOpen (suc lv) o
  higher lv None low = tt
  higher lv (Some l) low = (omega (arith, low.0), low.1)

  pub lower : (lv : ℕ) (o : Option OpenLoop) → IsShut (suc lv) o → IsOpen lv o
  lower lv None shut = tt
  lower lv (Some l) shut = (least (elsewhere (suc lv) l shut.1) shut.0.0, shut.0.1)
    where
      least : (l.level ≡ suc lv → ⊥) → l.level ≤ suc lv → l.level ≤ lv
      least other low = omega (arith, other, low)
