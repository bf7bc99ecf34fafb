-- A session that was at a state of the game is at one again once it has taken a line.
use Rattle.paw_play.proofs.Names.{◌≡◌, ℕ, ◌+◌, ◌*◌, ◌^◌, ◌<◌, ◌≤◌, List, [], ◌∷◌, ◌++◌, refl, sym, ap, ◌∙◌, subst, length, arith, reverse, All-cons, All-nil, Line, Lines, Seed, Text, EVENT_LIMIT, READ_LIMIT, PIECE_LIMIT, GameLists, Story, Prompt, Frame, Run, StepRow, Ending, WaitsAt, Halted, reading, going_on_from, pieces_of, IsLine, ValidStory, IsBounded, StandsRightly, StopsBounded, going_on_is_bounded, PlayerView, run_at, PlaysTo, IsSeated, IsStanding, StandsClosed, StandRightly, prompt_at, Step, stands_alike, last_piece, EndingOf, HasPlayed, StopsAtState, IsValidState, FitsFields, state_at}
use Rattle.paw_effects.specs.declared.act.Prompt.TheVariants as prompt
use Rattle.paw_reading.specs.declared.halt.Halt.TheVariants as halt
use Rattle.paw_turn.specs.declared.Step.TheVariants as step
use Rattle.paw_play.proofs.{Going.IsSettled, Settling.reading_settles, Settling.state_follows, Opened.waits_here, Opened.over_here, Walking.on_waits}

-- ---- the piece before the first line ----

settled_stops : (g : GameLists) (n : ℕ) (e : Ending) → IsSettled g n e → StopsAtState g n e
settled_stops g n (WaitsAt p path r) k = (k.valid, k.fits)
settled_stops g n (Halted halt.Over r) k = (k.valid, k.fits)
settled_stops g n _ k = tt

pub first_follows : (g : Story) (seed : Seed) → ValidStory g → seed < 2 ^ 64 → StopsAtState g.game 0 (reading g seed [])
first_follows g seed valid small =
    settled_stops g.game 0 (reading g seed [])
    (reading_settles g seed [] (record { valid = valid; fits = small; lines = All-nil IsLine }) (omega arith))

-- ---- one line more ----

-- A player has the bounds of a state after this number of lines.
record HasBounds {F : Type 0} (g : Story) (next : PlayerView F) (n : ℕ) : Type 0 where
  pub seated : IsSeated next
  pub game : next.game ≡ g.game
  pub few : n ≤ EVENT_LIMIT
  pub seeded : next.world.seed < 2 ^ 64
  pub drew : next.world.draws ≤ READ_LIMIT * (n + 1)
  pub short : length next.piece ≤ PIECE_LIMIT

-- What such a player has played stops at a state.
module _ {F : Type 0} {g : Story} {whole : EndingOf} {taken : Lines} {next : PlayerView F} {earlier : Text} (v : ValidStory g) (n : ℕ)
    (within : HasBounds g next n) (h : HasPlayed g whole taken next earlier next.piece) where
  stands : (s : Step) → next.last ≡ s → IsStanding s → StandRightly g.game (prompt_at s) next.world next.machine next.pending
  stands s is shows =
      subst (λ (h : GameLists). StandRightly h (prompt_at s) next.world next.machine next.pending) within.game
      (subst (λ t. IsStanding t → StandRightly next.game (prompt_at t) next.world next.machine next.pending) is within.seated.rightly shows)

  follows_at : (p : Prompt) (path : List Frame) → StandsRightly g.game p path (run_at next h.pieces h.traces []) → pieces_of (whole taken) ≡ h.pieces →
      IsValidState g.game (state_at n p path (run_at next h.pieces h.traces [])) × FitsFields (state_at n p path (run_at next h.pieces h.traces []))
  follows_at p path rightly is = state_follows g.game v.game n within.few p path (run_at next h.pieces h.traces []) rightly within.seeded within.drew
      (omega (arith, within.short, ap length (ap last_piece (sym is) ∙ h.last)))

  stops_by : (found : Step) → next.last ≡ found → IsStanding found → StopsAtState g.game n (whole taken)
  stops_by (step.Waits p) is shows =
      let at = waits_here h p is within.seated in
      let rightly = stands_alike g.game p (reverse next.machine.frames) next.world next.machine next.pending [] h.pieces [] h.traces [] []
      (stands (step.Waits p) is shows) in
      subst (StopsAtState g.game n) (sym at) (follows_at p (reverse next.machine.frames) rightly (ap pieces_of at))
  stops_by step.Ended is shows =
      let at = over_here h is in
      let closed = stands_alike g.game prompt.Over (reverse next.machine.frames) next.world next.machine next.pending [] h.pieces [] h.traces [] []
      (stands step.Ended is shows) in
      let frames = (subst (λ q. StandsClosed q next.machine) is within.seated.machine).frames in
      let rightly = subst (λ (fs : List Frame). StandsRightly g.game prompt.Over (reverse fs) (run_at next h.pieces h.traces [])) frames closed in
      subst (StopsAtState g.game n) (sym at) (follows_at prompt.Over [] rightly (ap pieces_of at))
  stops_by (step.Spent kind) is shows = absurd shows
  stops_by (step.TooDeep table) is shows = absurd shows

bounds_of : {F : Type 0} (g : Story) (seed : Seed) (n : ℕ) (whole : EndingOf) (s : Step) (next : PlayerView F) → IsStanding s → StandsClosed s next.machine →
    PlaysTo g whole s next [] [] → StopsBounded seed n (whole []) →
    (traces : List (List StepRow)) × IsBounded seed n (run_at next (next.piece ∷ []) traces [])
bounds_of g seed n whole (step.Waits q) next shows stands plays b =
    let is = plays.1.1 [] ∙ on_waits g q next.machine (run_at next (next.piece ∷ []) (plays.0 ∷ []) []) stands in
    (plays.0 ∷ [], subst (StopsBounded seed n) is b)
bounds_of g seed n whole step.Ended next shows stands plays b = (plays.0 ∷ [], subst (StopsBounded seed n) (plays.1.1 []) b)
bounds_of g seed n whole (step.Spent kind) next shows stands plays b = absurd shows
bounds_of g seed n whole (step.TooDeep table) next shows stands plays b = absurd shows

module _ {F : Type 0} {g : Story} {whole : EndingOf} {taken : Lines} {seat : PlayerView F} {earlier piece : Text} (h : HasPlayed g whole taken seat earlier piece)
    (v : ValidStory g) (own : seat.game ≡ g.game) (n : ℕ) (few : n < EVENT_LIMIT) (drew : seat.world.draws ≤ READ_LIMIT * (n + 1))
    (p : Prompt) (last : seat.last ≡ step.Waits p) (seated : IsSeated seat) (line : Line) (fits : IsLine line) (found : Step) (next : PlayerView F)
    (game : next.game ≡ seat.game) (is : next.last ≡ found) (then_seated : IsSeated next)
    (plays : PlaysTo g (λ lines. going_on_from g p (reverse seat.machine.frames) (run_at seat [] [] (line ∷ lines))) found next [] []) where
  -- A player that took a line has them.
  within_after : seat.world.seed < 2 ^ 64 → IsStanding found → HasBounds g next (n + 1)
  within_after seeded shows =
      let start : Run = run_at seat [] [] (line ∷ []) in
      let at : StandRightly g.game p seat.world seat.machine seat.pending =
      subst (λ (h : GameLists). StandRightly h p seat.world seat.machine seat.pending) own
      (subst (λ t. IsStanding t → StandRightly seat.game (prompt_at t) seat.world seat.machine seat.pending) last seated.rightly tt) in
      let rightly = stands_alike g.game p (reverse seat.machine.frames) seat.world seat.machine seat.pending [] [] [] [] [] (line ∷ []) at in
      let stops = going_on_is_bounded g seat.world.seed seat.world.draws p (reverse seat.machine.frames) start v
      (All-cons IsLine line [] fits (All-nil IsLine)) rightly
      (record { seeded = refl; draws = omega arith; pieces = λ i d low. absurd (omega arith); traced = refl }) in
      let b = bounds_of g seat.world.seed seat.world.draws (λ lines. going_on_from g p (reverse seat.machine.frames) (run_at seat [] [] (line ∷ lines))) found
      next shows (subst (λ q. StandsClosed q next.machine) is then_seated.machine) plays stops in
      record {
        seated = then_seated;
        game = game ∙ own;
        few = omega (arith, few);
        seeded = subst (λ s. s < 2 ^ 64) (sym b.1.seeded) seeded;
        drew = let most : next.world.draws ≤ seat.world.draws + READ_LIMIT * 1 = b.1.draws in omega (arith, most, drew);
        short = b.1.pieces 0 [] (omega arith);
      }

  -- So with the line the session stops at a state again.
  pub follows_on : {before : Text} → IsStanding found → HasPlayed g whole (taken ++ line ∷ []) next before next.piece → StopsAtState g.game n (whole taken) →
      StopsAtState g.game (n + 1) (whole (taken ++ line ∷ []))
  follows_on shows more stops =
      let here = subst (StopsAtState g.game n) (waits_here h p last seated) stops in
      stops_by v (n + 1) (within_after here.1.seed shows) more found is shows
