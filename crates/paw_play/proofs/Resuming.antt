-- A session that is taken up again, up to its prompt.
use Rattle.paw_play.proofs.Names.{◌≡◌, ℕ, ◌+◌, List, [], ◌∷◌, refl, sym, ap, ◌∙◌, subst, length, arith, reverse, append-nil, Lines, Text, World, PendingLine, Prompt, Frame, Run, Ending, WaitsAt, going_on_from, text_of, OpenTables, frames_at, path_again, run_with, StandsClosed, prompt_step, Digests, Shown, state_of, State, IsValidState, FitsFields, state_at, GameLists, StopsAtState, kept_bytes, IsKept, going_on, Story}
use Rattle.paw_effects.specs.declared.act.Prompt.TheVariants as prompt
use Rattle.paw_play.proofs.Walking.{on_waits}

-- The run of a state whose last piece was this.
abbrev pub run_from : World → OpenTables → PendingLine → Text → Lines → Run
run_from w m p piece lines = run_with w m p (piece ∷ []) [] lines

pub goes_on_from : (g : Story) (w : World) (m : OpenTables) (p : PendingLine) (at : Prompt) (events n : ℕ) (piece : Text) (lines : Lines) →
    going_on g (state_of w m p at events n) piece lines ≡ going_on_from g at (reverse m.frames) (run_from w m p piece lines)
goes_on_from g w m p at events n piece lines =
    ap (λ (path : List Frame). going_on_from g at path (run_from w m p piece lines)) (path_again (reverse m.frames) m.turning)

-- ---- by the prompt ----

-- A reading that goes on from a state and takes no line: a session keeps it once it shows the state and the piece, it
-- stops at the state, and its text is the piece.
pub record ComesTo (digests : Digests) (g : GameLists) (st : State) (piece : Text) (e : Ending) : Type 0 where
  pub keeps : IsKept digests (st.events + 0) e (Shown digests (kept_bytes st) piece)
  pub stops : IsValidState g st × FitsFields st → StopsAtState g (st.events + 0) e
  pub text : text_of e ≡ piece

module _ (digests : Digests) (g : Story) (w : World) (m : OpenTables) (p : PendingLine) (events n : ℕ) (piece : Text) (long : length piece ≡ n) where
  same_state : (at : Prompt) → state_of w m p at events n ≡ state_at (events + 0) at (reverse m.frames) (run_from w m p piece [])
  same_state at =
      let e : events ≡ events + 0 = omega arith in
      ap (λ k. record { world = w; frames = frames_at (reverse m.frames) m.turning; pending = p; prompt = at; events = k; piece = n }) e
      ∙ ap (λ k. record { world = w; frames = frames_at (reverse m.frames) m.turning; pending = p; prompt = at; events = events + 0; piece = k }) (sym long)

  waits_there : (at : Prompt) (e : Ending) → e ≡ WaitsAt at (reverse m.frames) (run_from w m p piece []) →
      ComesTo digests g.game (state_of w m p at events n) piece e
  waits_there at e is = rw is (record {
    keeps = record { played = tt; shown = ap (λ q. Shown digests (kept_bytes q) piece) (same_state at) };
    stops = subst (λ (q : State). IsValidState g.game q × FitsFields q) (same_state at);
    text = append-nil piece;
  })

  pub comes_there : (at : Prompt) → StandsClosed (prompt_step at) m →
      ComesTo digests g.game (state_of w m p at events n) piece (going_on_from g at (reverse m.frames) (run_from w m p piece []))
  comes_there prompt.Main h = waits_there prompt.Main _ (on_waits g prompt.Main m (run_from w m p piece []) h)
  comes_there prompt.Quit h = waits_there prompt.Quit _ (on_waits g prompt.Quit m (run_from w m p piece []) h)
  comes_there prompt.Again h = waits_there prompt.Again _ (on_waits g prompt.Again m (run_from w m p piece []) h)
  comes_there prompt.Key h = waits_there prompt.Key _ (on_waits g prompt.Key m (run_from w m p piece []) h)
  comes_there prompt.Over h =
      let same : state_of w m p prompt.Over events n ≡ state_at (events + 0) prompt.Over [] (run_from w m p piece []) =
      same_state prompt.Over ∙ ap (λ (fs : List Frame). state_at (events + 0) prompt.Over (reverse fs) (run_from w m p piece [])) h.frames in
      record {
        keeps = record { played = refl; shown = ap (λ q. Shown digests (kept_bytes q) piece) same };
        stops = subst (λ (q : State). IsValidState g.game q × FitsFields q) same;
        text = append-nil piece;
      }
