-- Where reading waits: tables lead from one to the next, and the loop is one of theirs.
use Rattle.std.proofs.Common.{◌≡◌, ℕ, zero, suc, ◌+◌, ◌≤◌, Bool, true, false, List, [], ◌∷◌, ◌++◌, Option, Some, None, refl}
use Rattle.std.proofs.Common.{sym, ap, ◌∙◌, subst, length, slice_get, arith, length-append, append_assoc, IsTrue}
use Rattle.std.specs.Prelude.{if◌then◌else◌, IfSome}
use Rattle.std.proofs.lemmas.Bool.Decides.{nat_tests}
use Rattle.std.proofs.lemmas.Option.{same_Some}
use Rattle.paw_base.specs.declared.limits.TheConstants.{LEVEL_LIMIT}
use Rattle.paw_base.specs.declared.codes.TheConstants.{DOALL}
use Rattle.paw_base.specs.declared.parts.ObjectFacts.{ObjectFacts}
use Rattle.paw_base.specs.declared.flags.TheConstants.{LOOP_FLAG}
use Rattle.paw_game.specs.Game.{GameLists}
use Rattle.paw_game.specs.Tables.{facts_at}
use Rattle.paw_game.specs.Valid.{Valid, is_place}
use Rattle.paw_game.proofs.Right.{right_at}
use Rattle.paw_world.specs.World.{World, with_flag}
use Rattle.paw_effects.specs.Story.{Story}
use Rattle.paw_effects.specs.declared.act.Prompt.{Prompt}
use Rattle.paw_effects.specs.Effects.{effect_of}
use Rattle.paw_effects.proofs.Asking.{AsksAt}
use Rattle.paw_effects.proofs.EachRow.{effect_placed, condition_placed}
use Rattle.paw_effects.proofs.Placed.{IsPlaced, doall_place, referred_placed, restarted_placed}
use Rattle.paw_reading.specs.declared.frames.Frame.{Frame}
use Rattle.paw_reading.specs.declared.frames.OpenLoop.{OpenLoop}
use Rattle.paw_reading.specs.Run.{Run}
use Rattle.paw_reading.specs.declared.halt.Halt.TheVariants as halt
use Rattle.paw_reading.specs.Reading.{Stop, Halts, Out, Left, Waits, Stopped, at_level, object_named, object_taken, table_read}
use Rattle.paw_reading.specs.GoingOn.{on_path}
use Rattle.paw_reading.specs.Turn.{first_table}
use Rattle.paw_reading.specs.inner.Waits.{IsAt, IsCallOf, LeadsTo, tables_of, IsLoopIn}
use Rattle.paw_reading.proofs.Induction.{Claim, Carries, Outside, Along, rest_carries, path_carries}

-- ---- lists ----

get_front : (xs ys : List ℕ) (i x : ℕ) → slice_get xs i ≡ Some x → slice_get (xs ++ ys) i ≡ Some x
get_front [] ys i x h = cc
get_front (y ∷ xs) ys zero x h = h
get_front (y ∷ xs) ys (suc i) x h = get_front xs ys i x h

get_last : (xs : List ℕ) (u : ℕ) → slice_get (xs ++ u ∷ []) (length xs) ≡ Some u
get_last [] u = refl
get_last (x ∷ xs) u = get_last xs u

get_before : (xs : List ℕ) (u i x : ℕ) → slice_get (xs ++ u ∷ []) i ≡ Some x → (i ≡ length xs → ⊥) → slice_get xs i ≡ Some x
get_before [] u zero x h other = absurd (other refl)
get_before [] u (suc i) x h other = cc
get_before (y ∷ xs) u zero x h other = h
get_before (y ∷ xs) u (suc i) x h other = get_before xs u i x h (λ e. other (ap suc e))

-- ---- what is open ----

-- The objects of the world stand at places of the game, and the loop is one of these tables'.
pub record Sound (g : GameLists) (tables : List ℕ) (w : World) (turning : Option OpenLoop) : Type 0 where
  pub of : IsPlaced g w
  pub loop : IfSome turning (IsLoopIn g tables)

-- A wait above these tables, whose first table is this one.
pub record WaitsAbove (g : GameLists) (ts : List ℕ) (u : ℕ) (p : Prompt) (path : List Frame) (w : World) (turning : Option OpenLoop) : Type 0 where
  pub code : ℕ
  pub asks : AsksAt code p
  pub few : length ts + length path ≤ suc LEVEL_LIMIT
  pub first : first_table path ≡ u
  pub leads : LeadsTo g code path
  pub sound : Sound g (ts ++ tables_of path) w turning

-- Where such a reading is stopped.
abbrev pub StopsHeld : GameLists → Stop → Run → Type 0
StopsHeld g (Halts halt.Over) r = (r.turning ≡ None) × ((r.pending ≡ []) × IsPlaced g r.world)
StopsHeld g (Halts _) r = Unit {0}
StopsHeld g _ r = Sound g [] r.world r.turning

-- How reading a table above these ends; once it is left these are open.
abbrev pub Held : GameLists → List ℕ → List ℕ → ℕ → Out → Type 0
Held g left ts u (Left a r) = Sound g left r.world r.turning
Held g left ts u (Waits p path r) = WaitsAbove g ts u p path r.world r.turning
Held g left ts u (Stopped stop r) = StopsHeld g stop r

in_front : (g : GameLists) (ts us : List ℕ) (l : OpenLoop) → IsLoopIn g ts l → IsLoopIn g (ts ++ us) l
in_front g ts us l k = record { level = get_front ts us l.level l.table k.level; doall = k.doall; place = k.place; last = k.last }

widened : (g : GameLists) (ts : List ℕ) (u : ℕ) (w : World) (o : Option OpenLoop) → Sound g ts w o → Sound g (ts ++ u ∷ []) w o
widened g ts u w None k = record { of = k.of; loop = tt }
widened g ts u w (Some l) k = record { of = k.of; loop = in_front g ts (u ∷ []) l k.loop }

elsewhere : (lv : ℕ) (l : OpenLoop) → at_level lv (Some l) ≡ None → l.level ≡ lv → ⊥
elsewhere lv l none e = grind (arith, nat_tests)

narrowed : (g : GameLists) (ts : List ℕ) (lv u : ℕ) (w : World) (o : Option OpenLoop) → length ts ≡ lv → at_level lv o ≡ None →
    Sound g (ts ++ u ∷ []) w o → Sound g ts w o
narrowed g ts lv u w None deep none k = record { of = k.of; loop = tt }
narrowed g ts lv u w (Some l) deep none k =
    record {
      of = k.of;
      loop = record {
        level = get_before ts u l.level l.table k.loop.level (λ e. elsewhere lv l none (e ∙ deep));
        doall = k.loop.doall;
        place = k.loop.place;
        last = k.loop.last;
      };
    }

-- With no table open there is no loop.
pub none_open : (g : GameLists) (w : World) (o : Option OpenLoop) → Sound g [] w o → o ≡ None
none_open g w None k = refl
none_open g w (Some l) k = let at = k.loop.level in cc

named_placed : (g : GameLists) (w : World) (f : Option ObjectFacts) → IsPlaced g w → IsPlaced g (object_named w f)
named_placed g w None k = k
named_placed g w (Some f) k = k

taken_placed : (g : GameLists) (l : OpenLoop) (o : ℕ) (r : Run) → IsPlaced g r.world → IsPlaced g (object_taken g l o r).world
taken_placed g l o r k = referred_placed g (with_flag (object_named r.world (facts_at g o)) LOOP_FLAG o) o
    (named_placed g r.world (facts_at g o) k)

cancelled : (g : GameLists) (ts : List ℕ) (w : World) (b : Bool) (o : Option OpenLoop) → Sound g ts w o → Sound g ts w (if b then None else o)
cancelled g ts w true o k = record { of = k.of; loop = tt }
cancelled g ts w false o k = k

one_more : (ts : List ℕ) (u lv : ℕ) → length ts ≡ lv → length (ts ++ u ∷ []) ≡ suc lv
one_more ts u lv h = omega (arith, length-append ts (u ∷ []), h)

-- ---- each step ----

-- A table is read above others.
record Place : Type 0 where
  tables : List ℕ
  table : ℕ

-- With these tables and this one.
abbrev IsSound : GameLists → Place → Run → Type 0
IsSound g j r = Sound g (j.tables ++ j.table ∷ []) r.world r.turning

-- A condact at the frame asks so.
record AsksThere (g : GameLists) (f : Frame) (p : Prompt) : Type 0 where
  code : ℕ
  asks : AsksAt code p
  at : IsAt g code f.table f.entry f.at

abbrev claim : GameLists → Claim
claim g = record {
  At = Place;
  level = λ j. length j.tables;
  called = λ j u. record { tables = j.tables ++ j.table ∷ []; table = u };
  table = λ j u. (u ≡ j.table) × (length j.tables ≤ LEVEL_LIMIT);
  loop = λ l. IsAt g DOALL l.table l.entry l.at × IsTrue (is_place (length g.locations) l.place);
  call = λ f u. IsCallOf g u f;
  asks = AsksThere g;
  on = IsSound g;
  acted = IsSound g;
  closed = λ j r lines. IsSound g j r;
  wait = λ j p path r. WaitsAbove g j.tables j.table p path r.world r.turning;
  stop = StopsHeld g;
}

-- The frame of a call before a path.
call_leads : (g : GameLists) (f : Frame) (t code : ℕ) (path : List Frame) → IsCallOf g t f → first_table path ≡ t → LeadsTo g code path →
    LeadsTo g code (f ∷ path)
call_leads g f t code [] call first leads = absurd leads
call_leads g f t code (h ∷ path) call first leads = (subst (λ u. IsCallOf g u f) (sym first) call, leads)

below : (g : GameLists) (ts : List ℕ) (u : ℕ) (f : Frame) (path : List Frame) (w : World) (o : Option OpenLoop) → f.table ≡ u →
    Sound g ((ts ++ u ∷ []) ++ tables_of path) w o → Sound g (ts ++ tables_of (f ∷ path)) w o
below g ts u f path w o own k =
    subst (λ s. Sound g s w o) (append_assoc ts (u ∷ []) (tables_of path) ∙ ap (λ t. ts ++ (t ∷ tables_of path)) (sym own)) k

-- A loop of the level that is read at is one of the table that is read.
loop_here : (g : GameLists) (ts : List ℕ) (u : ℕ) (l : OpenLoop) → IsLoopIn g (ts ++ u ∷ []) l → l.level ≡ length ts → l.table ≡ u
loop_here g ts u l k at = same_Some l.table u (sym k.level ∙ (ap (slice_get (ts ++ u ∷ [])) at ∙ get_last ts u))

carries : (g : Story) → Valid g.game → Carries g (claim g.game)
carries g v = record {
  deeper = λ j u. one_more j.tables j.table (length j.tables) refl;
  printed = λ j r text k said fit. k;
  tested = λ j f c b r stands k few. record { of = condition_placed g.game r.world c k.of; loop = k.loop };
  acts = λ j f c r stands k few fit.
      cancelled g.game (j.tables ++ j.table ∷ []) (effect_of g r.world c).world (effect_of g r.world c).act.cancel_loop r.turning
      (record { of = effect_placed g r.world c v (right_at g.game v f.table f.entry f.at c stands) k.of; loop = k.loop });
  reads_on = λ j r k. k;
  sentence = λ j r s left k is. record { of = k.of; loop = k.loop };
  unknown = λ j r left k is. k;
  opened = λ j f c r stands is k. (
    record { condact = c; stands = stands; is = is },
    doall_place g.game r.world c k.of.1.0 (right_at g.game v f.table f.entry f.at c stands) is,
  );
  own = λ j t r l own k is at.
      let may : IsLoopIn g.game (j.tables ++ j.table ∷ []) l = subst (λ o. IfSome o (IsLoopIn g.game (j.tables ++ j.table ∷ []))) is k.loop in
      ((loop_here g.game j.tables j.table l may at, own.1), (may.doall, may.place));
  taken = λ j l o r is own may few k. record {
    of = taken_placed g.game l o r k.of;
    loop = record {
      level = ap (slice_get (j.tables ++ j.table ∷ [])) is ∙ (get_last j.tables j.table ∙ ap Some (sym own.0));
      doall = may.0;
      place = may.1;
      last = few;
    };
  };
  no_loop = λ j r k. record { of = k.of; loop = tt };
  asked = λ f c p stands asks. record { code = c.code; asks = asks; at = record { condact = c; stands = stands; is = refl } };
  closes = λ j r k. k;
  waits = λ j p f r asks own k. record {
    code = asks.code;
    asks = asks.asks;
    few = omega (arith, own.1);
    first = own.0;
    leads = asks.at;
    sound = subst (λ t. Sound g.game (j.tables ++ t ∷ []) r.world r.turning) (sym own.0) k;
  };
  ignored = λ j r line lines k. k;
  heard = λ j r line lines k. record { of = k.of; loop = k.loop };
  calls = λ f c stands is. record { condact = c; stands = stands; process = is; called = refl };
  opens = λ j u low. (refl, omega (arith, low, length-append j.tables (j.table ∷ [])));
  down = λ j u r k. widened g.game (j.tables ++ j.table ∷ []) u r.world r.turning k;
  up = λ j u r k none.
      narrowed g.game (j.tables ++ j.table ∷ []) (suc (length j.tables)) u r.world r.turning (one_more j.tables j.table (length j.tables) refl) none k;
  above = λ j u p f path r own call k. record {
    code = k.code;
    asks = k.asks;
    few = omega (arith, k.few, length-append j.tables (j.table ∷ []));
    first = own.0;
    leads = call_leads g.game f u k.code path call k.first k.leads;
    sound = below g.game j.tables j.table f path r.world r.turning own.0 k.sound;
  };
  exhausted = λ j r k. tt;
  too_long = λ j r k. tt;
  unfit = λ j f c r k few. tt;
  too_deep = λ j u r k. tt;
  redescribed = λ j r k. record { of = k.of; loop = tt };
  restarted = λ j r k. record { of = restarted_placed g.game r.world v k.of; loop = tt };
  ended = λ j r k. (refl, (refl, k.of));
}

-- ---- tables and paths ----

held : (g : GameLists) (ts : List ℕ) (u : ℕ) (x : Out) → Outside (claim g) (record { tables = ts; table = u }) x → Held g ts ts u x
held g ts u (Left a r) k = narrowed g ts (length ts) u r.world r.turning refl k.1 k.0
held g ts u (Waits p path r) k = k
held g ts u (Stopped stop r) k = k

-- A table that is read from its start.
pub table_held : (g : Story) (v : Valid g.game) (t : ℕ) (r : Run) → IsPlaced g.game r.world → r.turning ≡ None
    → Held g.game [] [] t (table_read g t r)
table_held g v t r of none =
    held g.game [] t _
    (rest_carries g (claim g.game) (carries g v) (record { tables = []; table = t }) t 0 0 (refl, omega arith) false r
    (record { of = of; loop = subst (λ o. IfSome o (IsLoopIn g.game (t ∷ []))) (sym none) tt }))

along : (g : Story) (p : Prompt) (code : ℕ) (ts : List ℕ) (f : Frame) (path : List Frame) (r : Run) → AsksAt code p →
    length ts + length (f ∷ path) ≤ suc LEVEL_LIMIT → LeadsTo g.game code (f ∷ path) → Sound g.game (ts ++ tables_of (f ∷ path)) r.world r.turning →
    Along (claim g.game) p r (record { tables = ts; table = f.table }) (f ∷ path)
along g p code ts f [] r asks few leads k = (record { code = code; asks = asks; at = leads }, ((refl, omega (arith, few)), k))
along g p code ts f (h ∷ path) r asks few leads k = (
  (refl, omega (arith, few)),
  (
    leads.0,
    along g p code (ts ++ f.table ∷ []) h path r asks (omega (arith, few, length-append ts (f.table ∷ []))) leads.1
        (subst (λ s. Sound g.game s r.world r.turning) (sym (append_assoc ts (f.table ∷ []) (tables_of (h ∷ path)))) k),
  ),
)

-- Going on along a path.
pub path_held : (g : Story) (v : Valid g.game) (p : Prompt) (code : ℕ) (ts : List ℕ) (lv : ℕ) (f : Frame) (path : List Frame) (r : Run)
    → length ts ≡ lv → AsksAt code p → length ts + length (f ∷ path) ≤ suc LEVEL_LIMIT → LeadsTo g.game code (f ∷ path)
    → Sound g.game (ts ++ tables_of (f ∷ path)) r.world r.turning
    → Held g.game ts ts f.table (on_path g p lv (f ∷ path) r)
path_held g v p code ts lv f path r deep asks few leads k =
    subst (λ n. Held g.game ts ts f.table (on_path g p n (f ∷ path) r)) deep
    (held g.game ts f.table _
    (path_carries g (claim g.game) (carries g v) p (record { tables = ts; table = f.table }) f path r (along g p code ts f path r asks few leads k)))
