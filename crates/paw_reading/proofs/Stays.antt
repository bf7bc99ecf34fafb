-- Where reading waits: the outermost of the tables that are open is the one that is read, and so is that of its loop.
use Rattle.std.proofs.Common.{◌≡◌, ℕ, suc, Bool, true, false, List, ◌∷◌, Option, Some, None, refl, sym, ◌∙◌, subst}
use Rattle.std.specs.Prelude.{if◌then◌else◌}
use Rattle.paw_effects.specs.Story.{Story}
use Rattle.paw_effects.specs.declared.act.Prompt.{Prompt}
use Rattle.paw_effects.specs.declared.act.Prompt.TheVariants as prompt
use Rattle.paw_effects.specs.Effects.{effect_of}
pub use Rattle.paw_effects.proofs.Asking.{IsInner}
use Rattle.paw_effects.proofs.Asking.{AsksAt}
use Rattle.paw_reading.specs.declared.frames.Frame.{Frame}
use Rattle.paw_reading.specs.declared.frames.OpenLoop.{OpenLoop}
use Rattle.paw_reading.specs.Run.{Run}
use Rattle.paw_reading.specs.Reading.{Out, Waits, rest_of_table, table_read}
use Rattle.paw_reading.specs.GoingOn.{on_path}
use Rattle.paw_reading.specs.Turn.{first_table}
use Rattle.paw_reading.specs.inner.Waits.{IsLoopOf}
use Rattle.paw_reading.proofs.Induction.{Claim, Carries, Inside, inside, along_any, rest_carries, path_carries}

-- A wait at this level, where table t is the one at level 0.
pub record WaitsThere (t lv : ℕ) (p : Prompt) (path : List Frame) (turning : Option OpenLoop) : Type 0 where
  pub inner : IsInner p
  pub first : lv ≡ 0 → first_table path ≡ t
  pub loop : IsLoopOf t turning

-- This table may be read at this level.
abbrev pub IsOwn : ℕ → ℕ → ℕ → Type 0
IsOwn t lv u = lv ≡ 0 → u ≡ t

abbrev pub claim : ℕ → Claim
claim t = record {
  At = ℕ;
  level = λ lv. lv;
  called = λ lv u. suc lv;
  table = IsOwn t;
  loop = λ l. Unit {0};
  call = λ f u. Unit {0};
  asks = λ f p. IsInner p;
  on = λ lv r. IsLoopOf t r.turning;
  acted = λ lv r. IsLoopOf t r.turning;
  closed = λ lv r lines. IsLoopOf t r.turning;
  wait = λ lv p path r. WaitsThere t lv p path r.turning;
  stop = λ stop r. Unit {0};
}

abbrev pub Stays : ℕ → ℕ → Out → Type 0
Stays t lv x = Inside (claim t) lv x

inner : (code : ℕ) (p : Prompt) → AsksAt code p → IsInner p
inner code prompt.Main asks = asks
inner code prompt.Over asks = asks
inner code _ asks = tt

module _ (t : ℕ) where
  cancelled : (b : Bool) (o : Option OpenLoop) → IsLoopOf t o → IsLoopOf t (if b then None else o)
  cancelled true o k = tt
  cancelled false o k = k

  carries : (g : Story) → Carries g (claim t)
  carries g = record {
    deeper = λ lv u. refl;
    printed = λ lv r text on said fit. on;
    tested = λ lv f c b r stands on few. on;
    acts = λ lv f c r stands on few fit. cancelled (effect_of g r.world c).act.cancel_loop r.turning on;
    reads_on = λ lv r on. on;
    sentence = λ lv r s left on is. on;
    unknown = λ lv r left on is. on;
    opened = λ lv f c r stands is on. tt;
    own = λ lv u r l own on is at. (λ z. (let k : IsLoopOf t (Some l) = subst (IsLoopOf t) is on in k) (at ∙ z), tt);
    taken = λ lv l o r is own may few on z. own (sym is ∙ z);
    no_loop = λ lv r on. tt;
    asked = λ f c p stands asks. inner c.code p asks;
    closes = λ lv r on. on;
    waits = λ lv p f r asks own on. record { inner = asks; first = own; loop = on };
    ignored = λ lv r line lines on. on;
    heard = λ lv r line lines on. on;
    calls = λ f c stands is. tt;
    opens = λ lv u low z. cc;
    down = λ lv u r on. on;
    up = λ lv u r on none. on;
    above = λ lv u p f path r own call k. record { inner = k.inner; first = own; loop = k.loop };
    exhausted = λ lv r on. tt;
    too_long = λ lv r on. tt;
    unfit = λ lv f c r on few. tt;
    too_deep = λ lv u r on. tt;
    redescribed = λ lv r on. tt;
    restarted = λ lv r on. tt;
    ended = λ lv r on. tt;
  }

  pub rest_stays : (g : Story) (lv u e k : ℕ) → IsOwn t lv u → (a : Bool) (r : Run) → IsLoopOf t r.turning → Stays t lv (rest_of_table g lv u e k a r)
  rest_stays g lv u e k own a r h = inside (claim t) lv _ (rest_carries g (claim t) (carries g) lv u e k own a r h)

  path_stays : (g : Story) (p : Prompt) (f : Frame) (path : List Frame) (r : Run) → IsInner p → IsOwn t 0 f.table → IsLoopOf t r.turning →
      Stays t 0 (on_path g p 0 (f ∷ path) r)
  path_stays g p f path r asks own h =
      inside (claim t) 0 _
      (path_carries g (claim t) (carries g) p 0 f path r (along_any (claim t) p r (λ j u z. cc) (λ i u. tt) (λ i. asks) (λ j. h) 0 f path own))

-- A wait in a table that was read from its start is there.
pub table_waits : (g : Story) (t : ℕ) (r s : Run) (p : Prompt) (path : List Frame) → r.turning ≡ None
    → table_read g t r ≡ Waits p path s → WaitsThere t 0 p path s.turning
table_waits g t r s p path none is =
    subst (Stays t 0) is (rest_stays t g 0 t 0 0 (λ z. refl) false r (subst (IsLoopOf t) (sym none) tt))

-- So is a wait that comes after a wait in a table.
pub path_waits : (g : Story) (q p : Prompt) (f : Frame) (from path : List Frame) (r s : Run) → IsInner q → IsLoopOf f.table r.turning
    → on_path g q 0 (f ∷ from) r ≡ Waits p path s → WaitsThere f.table 0 p path s.turning
path_waits g q p f from path r s inner h is = subst (Stays f.table 0) is (path_stays f.table g q f from r inner (λ z. refl) h)
