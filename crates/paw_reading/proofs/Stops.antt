-- Where reading stops: a wait has a table open and has taken every line, and where the turn begins anew no loop is
-- open.
use Rattle.std.proofs.Common.{◌≡◌, ◌≢◌, ℕ, Bool, List, [], ◌∷◌, None, refl}
use Rattle.paw_effects.specs.Story.{Story}
use Rattle.paw_effects.specs.declared.act.Prompt.{Prompt}
use Rattle.paw_reading.specs.declared.frames.Frame.{Frame}
use Rattle.paw_reading.specs.Run.{Run}
use Rattle.paw_reading.specs.Reading.{Out, deeper, rest_of_table}
use Rattle.paw_reading.specs.GoingOn.{on_path}
use Rattle.paw_reading.proofs.RunInduction.{RunClaim, RunCarries, Ends, deeper_ends, rest_ends, path_ends}

-- A wait.
pub record WaitsOpen (path : List Frame) (r : Run) : Type 0 where
  pub some : path ≢ []
  pub none_left : r.events ≡ []

abbrev pub claim : RunClaim
claim = record {
  on = λ r. Unit {0};
  acted = λ r. Unit {0};
  closed = λ r lines. Unit {0};
  wait = λ p path r. WaitsOpen path r;
  anew = λ r. r.turning ≡ None;
  halt = λ halt r. Unit {0};
}

abbrev pub Stops : Out → Type 0
Stops x = Ends claim x

abbrev pub AreStopping : (Bool → Run → Out) → Type 0
AreStopping go = (a : Bool) (r : Run) → Stops (go a r)

abbrev pub CallsStopping : (ℕ → Run → Out) → Type 0
CallsStopping sub = (u : ℕ) (r : Run) → Stops (sub u r)

carries : (g : Story) → RunCarries g claim
carries g = record {
  printed = λ r text on said fit. tt;
  tested = λ f c b r stands on few. tt;
  acts = λ f c r stands on few fit. tt;
  reads_on = λ r on. tt;
  sentence = λ r s left on is. tt;
  unknown = λ r left on is. tt;
  taken = λ l o r few on. tt;
  no_loop = λ r on. tt;
  closes = λ r on. tt;
  waits = λ p f r on. record { some = λ e. cc; none_left = refl };
  ignored = λ r line lines on. tt;
  heard = λ r line lines on. tt;
  above = λ p f path r k. record { some = λ e. cc; none_left = k.none_left };
  exhausted = λ r on. tt;
  too_long = λ r on. tt;
  unfit = λ f c r on few. tt;
  too_deep = λ u r on. tt;
  redescribed = λ r on. refl;
  restarted = λ r on. refl;
  ended = λ r on. tt;
}

pub deeper_stops : (g : Story) (lv : ℕ) → CallsStopping (deeper g lv)
deeper_stops g lv u r = deeper_ends g claim (carries g) lv u r tt

-- Reading on at a level stops so.
pub rest_stops : (g : Story) (lv t e k : ℕ) → AreStopping (rest_of_table g lv t e k)
rest_stops g lv t e k a r = rest_ends g claim (carries g) lv t e k a r tt

-- So does going on along a path.
pub path_stops : (g : Story) (p : Prompt) (lv : ℕ) (path : List Frame) (r : Run) → Stops (on_path g p lv path r)
path_stops g p lv [] r = tt
path_stops g p lv (f ∷ path) r = path_ends g claim (carries g) p lv f path r tt
