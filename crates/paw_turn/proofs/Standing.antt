-- Where a player stands that was played on.
use Rattle.std.proofs.Common.{◌≡◌, ℕ, zero, suc, ◌<◌, List, [], ◌∷◌, ◌++◌, length, reverse, refl, sym, ap, ◌∙◌, subst}
use Rattle.std.proofs.Common.{arith}
use Rattle.std.specs.Prelude.{All}
use Rattle.std.specs.Fn.{Shared}
use Rattle.std.proofs.Math.ListN.{get_or}
use Rattle.std.proofs.lemmas.List.{length-reverse}
use Rattle.paw_base.specs.Bytes.{Bytes, Line, Texts, RoutineAnswers, Seed, Lines}
use Rattle.paw_game.specs.Game.{GameLists}
use Rattle.paw_game.specs.Valid.{Valid}
use Rattle.paw_world.specs.World.{World}
use Rattle.paw_phrase.specs.Pending.{PendingLine}
use Rattle.paw_routines.specs.declared.routines.Routines.{Routines}
use Rattle.paw_routines.specs.Routines.{AreAnswersOf}
use Rattle.paw_effects.specs.declared.act.Prompt.{Prompt}
use Rattle.paw_effects.specs.declared.act.Prompt.TheVariants as prompt
use Rattle.paw_effects.specs.Standing.{AreBytes}
use Rattle.paw_effects.specs.Story.{Story, story_of}
use Rattle.paw_reading.specs.declared.frames.Frame.{Frame}
use Rattle.paw_reading.specs.Run.{StepRow}
use Rattle.paw_reading.specs.Turn.{Ending, reading, going_on_from}
use Rattle.paw_reading.specs.inner.Turn.{MayWaitAlong}
use Rattle.paw_reading.specs.Bounds.{IsLine, ValidStory}
use Rattle.paw_reading.specs.inner.Waits.{StandsRightly, StopsRightly}
use Rattle.paw_reading.proofs.Waiting.{waits_on}
use Rattle.paw_reading.proofs.Rightly.{readings_stop_rightly, going_on_stops_rightly}
use Rattle.paw_process.specs.inner.OpenTables.{OpenTables}
use Rattle.paw_process.specs.inner.OpenTables.{IsClosed}
use Rattle.paw_turn.specs.declared.Step.{Step}
use Rattle.paw_turn.specs.declared.Step.TheVariants as step
use Rattle.paw_turn.specs.declared.turn.PlayState.{PlayState}
use Rattle.paw_turn.specs.inner.Phases.{seat_of, state_settled}
use Rattle.paw_turn.specs.inner.Player.{PlayerView, PlaysTo, StandsClosed, StandsAt, WaitsIn, StandRightly, IsSeated}
use Rattle.paw_turn.specs.inner.Player.{IsStanding, prompt_at, run_at, run_with}

-- Answers that stand for routines make a story of a valid game.
pub valid_story : {F : Type 0} (calls : Shared F (ℕ × (ℕ × Unit {0})) ℕ) (routines : Routines F) (g : GameLists) (X : RoutineAnswers) → Valid g
    → AreAnswersOf calls routines X → ValidStory (story_of g X)
valid_story calls routines g X v answers = record { game = v; whole = answers.whole; bytes = answers.bytes }

pub bytes_each : (bytes : Bytes) → ((i : ℕ) → get_or bytes i 0 < 256) → AreBytes bytes
bytes_each [] h k d low = absurd (omega (arith, low))
bytes_each (b ∷ bs) h zero d low = h 0
bytes_each (b ∷ bs) h (suc k) d low = bytes_each bs (λ i. h (suc i)) k d (omega (arith, low))

many : (p : Prompt) (m : OpenTables) → WaitsIn p m → 0 < length (reverse m.frames)
many p m waits = omega (arith, length-reverse m.frames, waits.tables.tables.some)

reversed : (fs : List Frame) → fs ≡ [] → reverse fs ≡ []
reversed fs e = ap (λ (s : List Frame). reverse s) e

pub unreversed : (fs : List Frame) → reverse fs ≡ [] → fs ≡ []
unreversed [] e = refl
unreversed (f ∷ fs) e = let n : length (reverse (f ∷ fs)) ≡ 0 = ap (λ (s : List Frame). length s) e in absurd (omega (arith, length-reverse (f ∷ fs), n))

-- A machine that stands at a prompt may wait along its frames.
may_wait : (p : Prompt) (m : OpenTables) → StandsAt p m → MayWaitAlong p (reverse m.frames)
may_wait prompt.Main m closed = reversed m.frames closed.frames
may_wait prompt.Quit m waits = many prompt.Quit m waits
may_wait prompt.Again m waits = many prompt.Again m waits
may_wait prompt.Key m waits = many prompt.Key m waits
may_wait prompt.Over m none = none

-- What was closed before, and the lines to come, change nothing of how a run stands.
pub stands_alike : (g : GameLists) (at : Prompt) (path : List Frame) (w : World) (m : OpenTables) (p : PendingLine)
    (pieces pieces' : Texts) (traces traces' : List (List StepRow)) (lines lines' : Lines)
    → StandsRightly g at path (run_with w m p pieces traces lines) → StandsRightly g at path (run_with w m p pieces' traces' lines')
stands_alike g at path w m p pieces pieces' traces traces' lines lines' k =
    record { world = k.world; frames = k.frames; line = k.line; pending = k.pending; earlier = k.earlier; piece = refl; read = refl }

-- At the end no table is open.
stands_over : (g : GameLists) (w : World) (m : OpenTables) (p : PendingLine) (pieces : Texts) (traces : List (List StepRow)) → IsClosed m
    → StandsRightly g prompt.Over [] (run_with w m p pieces traces []) → StandRightly g prompt.Over w m p
stands_over g w m p pieces traces closed k =
    record {
      world = k.world;
      frames = (reversed m.frames closed.frames, closed.turning);
      line = λ e. k.line refl;
      pending = k.pending;
      earlier = k.earlier;
      piece = refl;
      read = refl;
    }

stands_at : {F : Type 0} (g : Story) (whole : Lines → Ending) (s : Step) (p : PlayerView F) (pieces : Texts) (traces : List (List StepRow))
    → StandsClosed s p.machine
    → PlaysTo g whole s p pieces traces → StopsRightly g.game (whole []) → IsStanding s → StandRightly g.game (prompt_at s) p.world p.machine p.pending
stands_at g whole (step.Waits q) p pieces traces stands plays rightly standing =
    let r = run_at p (pieces ++ p.piece ∷ []) (traces ++ plays.0 ∷ []) [] in
    let is = plays.1.1 [] ∙ waits_on g q (reverse p.machine.frames) r (may_wait q p.machine stands) refl in
    let at = subst (StopsRightly g.game) is rightly in
    stands_alike g.game q (reverse p.machine.frames) p.world p.machine p.pending (pieces ++ p.piece ∷ []) [] (traces ++ plays.0 ∷ []) [] [] [] at.1
stands_at g whole step.Ended p pieces traces closed plays rightly standing =
    let at = subst (StopsRightly g.game) (plays.1.1 []) rightly in
    stands_over g.game p.world p.machine p.pending (pieces ++ p.piece ∷ []) (traces ++ plays.0 ∷ []) closed at
stands_at g whole s p pieces traces closed plays rightly standing = absurd standing

-- A player that was started.
pub started : {F : Type 0} (g : Story) (seed : Seed) (s : Step) (p : PlayerView F) → ValidStory g → StandsClosed s p.machine → PlaysTo g (reading g seed) s p [] []
    → IsStanding s → StandRightly g.game (prompt_at s) p.world p.machine p.pending
started g seed s p v stands plays =
    stands_at g (reading g seed) s p [] [] stands plays (readings_stop_rightly g seed [] v (λ k d low. absurd (omega arith)))

one_line : (line : Line) → IsLine line → All IsLine (line ∷ [])
one_line line is zero d low = is
one_line line is (suc k) d low = absurd (omega arith)

-- A player that took a line where it stood at a prompt.
pub taken_on : {F : Type 0} (g : Story) (old new : PlayerView F) (line : Line) (q : Prompt) (s : Step) → ValidStory g → old.game ≡ g.game → IsSeated old
    → old.last ≡ step.Waits q → IsLine line
    → StandsClosed s new.machine → PlaysTo g (λ lines. going_on_from g q (reverse old.machine.frames) (run_at old [] [] (line ∷ lines))) s new [] []
    → IsStanding s → StandRightly g.game (prompt_at s) new.world new.machine new.pending
taken_on g old new line q s v game seated waits is stands plays =
    let standing : IsStanding old.last = subst IsStanding (sym waits) tt in
    let at : StandRightly g.game q old.world old.machine old.pending =
    subst (λ h. StandRightly h q old.world old.machine old.pending) game
    (subst (λ t. StandRightly old.game (prompt_at t) old.world old.machine old.pending) waits (seated.rightly standing)) in
    stands_at g (λ lines. going_on_from g q (reverse old.machine.frames) (run_at old [] [] (line ∷ lines))) s new [] [] stands plays
    (going_on_stops_rightly g q (reverse old.machine.frames) (run_at old [] [] (line ∷ [])) v (one_line line is)
    (stands_alike g.game q (reverse old.machine.frames) old.world old.machine old.pending [] [] [] [] [] (line ∷ []) at))

-- ---- a player that is seated still ----

-- It is where it stands rightly in a game that is its own.
seated_so : {F : Type 0} (g own : GameLists) (routines : Routines F) (mid h : PlayState) (s : Step) → own ≡ g → Valid g → h ≡ state_settled s mid
    → StandsClosed s mid.machine
    → (StandsClosed s h.machine → IsStanding s → StandRightly g (prompt_at s) h.surroundings.world h.machine h.surroundings.pending)
    → IsSeated (seat_of own routines h s)
seated_so g own routines mid h s game valid settled stopped rightly =
    let stands = subst (λ (t : PlayState). StandsClosed s t.machine) (sym settled) stopped in
    subst (λ k. IsSeated (seat_of k routines h s)) (sym game) (record { valid = valid; machine = stands; rightly = rightly stands })

pub start_seated : {F : Type 0} (calls : Shared F (ℕ × (ℕ × Unit {0})) ℕ) (routines : Routines F) (old : PlayerView F) (own : GameLists) (mid h : PlayState)
    (s : Step)
    (X : RoutineAnswers) → AreAnswersOf calls old.routines X → IsSeated old → own ≡ old.game → h ≡ state_settled s mid → StandsClosed s mid.machine
    → PlaysTo (story_of old.game X) (reading (story_of old.game X) old.world.seed) s (seat_of own routines h s) [] []
    → IsSeated (seat_of own routines h s)
start_seated calls routines old own mid h s X answers seated game settled stopped plays =
    seated_so old.game own routines mid h s game seated.valid settled stopped
    (λ stands. started (story_of old.game X) old.world.seed s (seat_of own routines h s)
    (valid_story calls old.routines old.game X seated.valid answers) stands plays)

pub take_seated : {F : Type 0} (calls : Shared F (ℕ × (ℕ × Unit {0})) ℕ) (routines : Routines F) (old : PlayerView F) (own : GameLists) (mid h : PlayState)
    (s : Step)
    (X : RoutineAnswers) (q : Prompt) (line : Line) → AreAnswersOf calls old.routines X → IsSeated old → own ≡ old.game → h ≡ state_settled s mid
    → StandsClosed s mid.machine → old.last ≡ step.Waits q → IsLine line
    → PlaysTo (story_of old.game X) (λ lines. going_on_from (story_of old.game X) q (reverse old.machine.frames) (run_at old [] [] (line ∷ lines))) s
    (seat_of own routines h s) [] []
    → IsSeated (seat_of own routines h s)
take_seated calls routines old own mid h s X q line answers seated game settled stopped waits is plays =
    seated_so old.game own routines mid h s game seated.valid settled stopped
    (λ stands. taken_on (story_of old.game X) old (seat_of own routines h s) line q s (valid_story calls old.routines old.game X seated.valid answers) refl
    seated waits is stands plays)
