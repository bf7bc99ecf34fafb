-- Players that are seated with parts.
use Rattle.std.proofs.Common.{◌≡◌, ℕ, zero, suc, ◌<◌, Bool, true, false, List, [], ◌∷◌, Option, Some}
use Rattle.std.proofs.Common.{None, take, reverse, slice_get, refl, sym, ap, ◌∙◌, subst, arith}
use Rattle.std.specs.Prelude.{if◌then◌else◌, nat_lt}
use Rattle.std.specs.Option.{option_or}
use Rattle.std.proofs.lemmas.Bool.{eqb-true, ltb-true}
use Rattle.std.proofs.lemmas.List.{reverse-reverse}
use Rattle.paw_base.specs.Bytes.{Seed}
use Rattle.paw_base.specs.declared.limits.TheConstants.{READ_LIMIT, STEP_LIMIT}
use Rattle.paw_base.specs.inner.Steps.{KeptSteps}
use Rattle.paw_base.specs.inner.Steps.{no_steps, steps_only_counted}
use Rattle.paw_base.specs.declared.words.TheConstants.{NO_WORD}
use Rattle.paw_base.specs.declared.codes.TheConstants.{QUIT, END, ANYKEY}
use Rattle.paw_game.specs.Game.{GameLists}
use Rattle.paw_routines.specs.declared.routines.Routines.{Routines}
use Rattle.paw_world.specs.World.{World}
use Rattle.paw_game.specs.Valid.{Valid}
use Rattle.paw_effects.specs.declared.act.Prompt.{Prompt}
use Rattle.paw_effects.specs.declared.act.Prompt.TheVariants as prompt
use Rattle.paw_effects.specs.Worlds.{IsOf}
use Rattle.paw_effects.specs.inner.Opening.{opening_world}
use Rattle.paw_effects.proofs.Worlds.{world_is, start_so}
use Rattle.paw_reading.specs.declared.frames.Frame.{Frame}
use Rattle.paw_reading.specs.declared.frames.OpenLoop.{OpenLoop}
use Rattle.paw_reading.specs.Turn.{first_table}
use Rattle.paw_reading.specs.inner.Waits.{AreFramesAndLoop, IsLoopOf}
use Rattle.paw_phrase.specs.Pending.{PendingLine}
use Rattle.paw_process.specs.inner.OpenTables.{OpenTables}
use Rattle.paw_process.specs.inner.OpenTables.{IsWaiting, IsClosed, new_machine, only_counting, refilled_to_keep}
use Rattle.paw_process.specs.inner.Kept.{machine_kept, is_that_table}
use Rattle.paw_process.specs.inner.Kept.{first_frame_fault, loop_stands, loop_fault}
use Rattle.paw_process.specs.Kept.{count_fits, waiting_code}
use Rattle.paw_process.specs.inner.Kept.{fault_at, frames_fault}
use Rattle.paw_process.specs.inner.Kept.{machine_restored, waiting_at}
use Rattle.paw_process.specs.inner.Kept.{WaitsAtPrompt as MachineStandsAt}
use Rattle.paw_process.specs.declared.machine.TheConstants.{MOST_FRAMES}
use Rattle.paw_process.specs.declared.kept.Frames.{Frames}
use Rattle.paw_process.proofs.Restored.{first_of, second, no_first}
use Rattle.paw_process.proofs.OpenFrames.{table_of}
use Rattle.paw_process.proofs.Again.{restored_again}
use Rattle.paw_process.proofs.Fitting.{frames_fit, kept_frames_of_run}
use Rattle.paw_turn.specs.declared.Step.{Step}
use Rattle.paw_turn.specs.declared.Step.TheVariants as step
use Rattle.paw_turn.specs.inner.Player.{PlayerView, WaitsIn, StandsClosed, StandRightly, IsSeated, IsNew, only_counting_player}
use Rattle.paw_turn.specs.inner.Phases.{MayGoOn, HasReadSome, seat_of}
use Rattle.paw_turn.specs.declared.turn.PlayState.{PlayState}
use Rattle.paw_turn.proofs.Standing.{unreversed}
use Rattle.paw_turn.proofs.Falling.{none_yet}
use Rattle.paw_turn.specs.inner.Parts.{prompt_step, prompt_at, IsStanding, Fits, seat_at, seated_again, RestoredFits}

-- ---- a restored machine ----

first_is : (rows : List Frame) (count t : ℕ) → 0 < count → is_that_table (table_of (slice_get rows 0)) t ≡ true → t ≡ first_table (take count rows)
first_is [] count t some h = cc
first_is (f ∷ fs) zero t some h = absurd (omega arith)
first_is (f ∷ fs) (suc n) t some h = eqb-true t f.table h

-- A loop that follows its rule belongs to the table of its level.
first_loop : (g : GameLists) (k : Frames) (o : Option OpenLoop) → loop_fault g k o ≡ None → IsLoopOf (first_table (take k.count k.rows)) o
first_loop g k None h = tt
first_loop g k (Some l) h = go (loop_stands g k l) refl h
  where
    go : (b : Bool) → loop_stands g k l ≡ b → ◌≡◌ {A = Option ℕ} (if b then None else Some MOST_FRAMES) None
        → l.level ≡ 0 → l.table ≡ first_table (take k.count k.rows)
    go true e q = λ outermost.
        let low = ltb-true l.level k.count (first_of (nat_lt l.level k.count) _ e) in
        let own = first_of (is_that_table (table_of (slice_get k.rows l.level)) l.table) _ (second (nat_lt l.level k.count) _ e) in
        first_is k.rows k.count l.table (omega arith) (rw outermost at own)
    go false e q = cc

kept_loop : (g : GameLists) (code : ℕ) (k : Frames) → fault_at g (Some code) k ≡ None
    → IsLoopOf (first_table (reverse (reverse (take k.count k.rows)))) k.turning
kept_loop g code k h = go (count_fits (Some code) k.count) refl h
  where
    go : (b : Bool) → count_fits (Some code) k.count ≡ b
        → ◌≡◌ {A = Option ℕ} (if b then option_or (first_frame_fault g code None k.count 0 k.rows) (loop_fault g k k.turning) else Some 0) None
        → IsLoopOf (first_table (reverse (reverse (take k.count k.rows)))) k.turning
    go true e q = rw (reverse-reverse (take k.count k.rows)) (first_loop g k k.turning (no_first _ (loop_fault g k k.turning) q).1)
    go false e q = cc

waits_again : (g : GameLists) (p : Prompt) (code : ℕ) (k : Frames) (m : OpenTables) → m ≡ machine_restored k (Some p) → IsWaiting p m
    → fault_at g (Some code) k ≡ None → WaitsIn p m
waits_again g p code k m is stands sound =
    record { tables = stands; loop = subst (λ (n : OpenTables). IsLoopOf (first_table (reverse n.frames)) n.turning) (sym is) (kept_loop g code k sound) }

stands_again : (g : GameLists) (at : Prompt) (k : Frames) (m : OpenTables) → m ≡ machine_restored k (waiting_at at) → MachineStandsAt at m
    → frames_fault g at k ≡ None → StandsClosed (prompt_step at) m
stands_again g prompt.Main k m is stands sound = stands
stands_again g prompt.Quit k m is stands sound = waits_again g prompt.Quit QUIT k m is stands sound
stands_again g prompt.Again k m is stands sound = waits_again g prompt.Again END k m is stands sound
stands_again g prompt.Key k m is stands sound = waits_again g prompt.Key ANYKEY k m is stands sound
stands_again g prompt.Over k m is stands sound = stands

pub restored_fits : RestoredFits
restored_fits g at k w m p world pending size is stands sound = record {
  machine = stands_again g at k m is stands sound;
  rightly = record {
    world = world;
    frames = subst (λ (n : OpenTables). AreFramesAndLoop g at (reverse n.frames) n.turning) (sym is) (kept_frames_of_run g at k size sound);
    line = λ none. pending.taken (unreversed m.frames none);
    pending = pending.bytes;
    earlier = pending.earlier;
    piece = refl;
    read = refl;
  };
}

-- ---- a player that stands ----

-- It stands at its prompt.
step_again : (s : Step) (m : OpenTables) → StandsClosed s m → IsStanding s → prompt_step (prompt_at s) ≡ s
step_again (step.Waits prompt.Main) m stands standing = refl
step_again (step.Waits prompt.Quit) m stands standing = refl
step_again (step.Waits prompt.Again) m stands standing = refl
step_again (step.Waits prompt.Key) m stands standing = refl
step_again (step.Waits prompt.Over) m stands standing = absurd stands
step_again step.Ended m stands standing = refl
step_again s m stands standing = absurd standing

machine_stands : (s : Step) (m : OpenTables) → StandsClosed s m → IsStanding s → MachineStandsAt (prompt_at s) m
machine_stands (step.Waits prompt.Main) m stands standing = stands
machine_stands (step.Waits prompt.Quit) m stands standing = stands.tables
machine_stands (step.Waits prompt.Again) m stands standing = stands.tables
machine_stands (step.Waits prompt.Key) m stands standing = stands.tables
machine_stands (step.Waits prompt.Over) m stands standing = absurd stands
machine_stands step.Ended m stands standing = stands
machine_stands s m stands standing = absurd standing

module _ {F : Type 0} (p : PlayerView F) (seated : IsSeated p) (standing : IsStanding p.last) where
  -- Its parts fit its game.
  pub parts_fit : Fits p.game p.world p.machine p.pending (prompt_at p.last)
  parts_fit = record {
    machine = subst (λ s. StandsClosed s p.machine) (sym (step_again p.last p.machine seated.machine standing)) seated.machine;
    rightly = seated.rightly standing;
  }

  -- Its frames are never refused.
  pub frames_accepted : frames_fault p.game (prompt_at p.last) (machine_kept p.machine) ≡ None
  frames_accepted =
      frames_fit p.game (waiting_code (prompt_at p.last)) (reverse p.machine.frames) p.machine.turning (seated.rightly standing).frames

  -- And a player that stands with them is the same but for the piece.
  pub same_seat : seat_at p.game p.routines p.world p.machine p.pending (prompt_at p.last) ≡ record p { piece = [] }
  same_seat =
      ap (λ (s : Step). record { game = p.game; routines = p.routines; world = p.world; pending = p.pending; machine = p.machine; piece = []; last = s })
      (step_again p.last p.machine seated.machine standing)

  pub seated_as : seated_again p ≡ record p { piece = []; machine = refilled_to_keep STEP_LIMIT p.machine }
  seated_as =
      ap (λ (m : OpenTables). seat_at p.game p.routines p.world m p.pending (prompt_at p.last))
      (restored_again (prompt_at p.last) p.machine (machine_stands p.last p.machine seated.machine standing))
      ∙ ap (λ (s : Step). record {
        game = p.game;
        routines = p.routines;
        world = p.world;
        pending = p.pending;
        machine = refilled_to_keep STEP_LIMIT p.machine;
        piece =
            [];
        last = s;
      })
      (step_again p.last p.machine seated.machine standing)

-- A player that is seated with parts.
pub fits_seated : {F : Type 0} (g : GameLists) (routines : Routines F) (w : World) (m : OpenTables) (p : PendingLine) (at : Prompt) → Valid g
    → Fits g w m p at → IsSeated (seat_at g routines w m p at)
fits_seated g routines w m p at v fits = record { valid = v; machine = fits.machine; rightly = λ standing. same at (fits.rightly) }
  where
    same : (q : Prompt) → StandRightly g q w m p → StandRightly g (prompt_at (prompt_step q)) w m p
    same prompt.Main k = k
    same prompt.Quit k = k
    same prompt.Again k = k
    same prompt.Key k = k
    same prompt.Over k = k

-- The budget and the steps change nothing of how a machine stands.
closed_alike : (m : OpenTables) (left : ℕ) (steps : KeptSteps) → IsClosed m → IsClosed (record m { left = left; steps = steps })
closed_alike m left steps k = record { frames = k.frames; turning = k.turning; waiting = k.waiting }

waits_alike : (p : Prompt) (m : OpenTables) (left : ℕ) (steps : KeptSteps) → WaitsIn p m → WaitsIn p (record m { left = left; steps = steps })
waits_alike p m left steps k =
    record { tables = record { tables = k.tables.tables; condacts = k.tables.condacts; waiting = k.tables.waiting }; loop = k.loop }

machine_alike : (at : Prompt) (m : OpenTables) (left : ℕ) (steps : KeptSteps) → StandsClosed (prompt_step at) m
    → StandsClosed (prompt_step at) (record m { left = left; steps = steps })
machine_alike prompt.Main m left steps k = closed_alike m left steps k
machine_alike prompt.Quit m left steps k = waits_alike prompt.Quit m left steps k
machine_alike prompt.Again m left steps k = waits_alike prompt.Again m left steps k
machine_alike prompt.Key m left steps k = waits_alike prompt.Key m left steps k
machine_alike prompt.Over m left steps k = closed_alike m left steps k

-- A machine that only counts its steps stands as it did.
pub counting_stands : (s : Step) (m : OpenTables) → StandsClosed s m → StandsClosed s (only_counting m)
counting_stands (step.Waits prompt.Main) m k = closed_alike m m.left (steps_only_counted m.steps) k
counting_stands (step.Waits prompt.Quit) m k = waits_alike prompt.Quit m m.left (steps_only_counted m.steps) k
counting_stands (step.Waits prompt.Again) m k = waits_alike prompt.Again m m.left (steps_only_counted m.steps) k
counting_stands (step.Waits prompt.Key) m k = waits_alike prompt.Key m m.left (steps_only_counted m.steps) k
counting_stands (step.Waits prompt.Over) m k = k
counting_stands s m k = closed_alike m m.left (steps_only_counted m.steps) k

pub counting_seated : {F : Type 0} (p : PlayerView F) → IsSeated p → IsSeated (only_counting_player p)
counting_seated p k =
    record { valid = k.valid; machine = counting_stands p.last p.machine k.machine; rightly = λ standing. same (k.rightly standing) }
  where
    same : StandRightly p.game (prompt_at p.last) p.world p.machine p.pending
        → StandRightly p.game (prompt_at p.last) p.world (only_counting p.machine) p.pending
    same r = record { world = r.world; frames = r.frames; line = r.line; pending = r.pending; earlier = r.earlier; piece = r.piece; read = r.read }

pub counting_new : {F : Type 0} (p : PlayerView F) (seed : Seed) → IsNew p seed → IsNew (only_counting_player p) seed
counting_new p seed k = record { world = k.world; pending = k.pending; machine = ap (λ (m : OpenTables). only_counting m) k.machine; piece = k.piece }

-- With its own parts, and a machine that was restored from what is kept of its own, a player fits its game.
pub taken_fits : {F : Type 0} (p : PlayerView F) (m : OpenTables) → IsSeated p → IsStanding p.last → m
    ≡ machine_restored (machine_kept p.machine) (waiting_at (prompt_at p.last))
    → Fits p.game p.world m p.pending (prompt_at p.last)
taken_fits p m seated standing is =
    let fits = parts_fit p seated standing in
    let k = fits.rightly in
    subst (λ (n : OpenTables). Fits p.game p.world n p.pending (prompt_at p.last))
    (sym (is ∙ restored_again (prompt_at p.last) p.machine (machine_stands p.last p.machine seated.machine standing)))
    (record {
      machine = machine_alike (prompt_at p.last) p.machine READ_LIMIT (no_steps STEP_LIMIT) fits.machine;
      rightly = record { world = k.world; frames = k.frames; line = k.line; pending = k.pending; earlier = k.earlier; piece = refl; read = refl };
    })

-- So do parts that are the same as its own.
pub same_fits : {F : Type 0} (p : PlayerView F) (g : GameLists) (w : World) (m : OpenTables) (q : PendingLine) (at : Prompt) → IsSeated p → IsStanding p.last
    → g ≡ p.game → w ≡ p.world → m ≡ machine_restored (machine_kept p.machine) (waiting_at at) → q ≡ p.pending → at ≡ prompt_at p.last → Fits g w m q at
same_fits p g w m q at seated standing game world machine pending prompt_is =
    let fits = taken_fits p m seated standing (subst (λ (a : Prompt). m ≡ machine_restored (machine_kept p.machine) (waiting_at a)) prompt_is machine) in
    subst (λ (h : GameLists). Fits h w m q at) (sym game) (subst (λ (v : World). Fits p.game v m q at) (sym world)
    (subst (λ (l : PendingLine). Fits p.game p.world m l at) (sym pending) (subst (λ (a : Prompt). Fits p.game p.world m p.pending a) (sym prompt_is) fits)))

-- ---- a player that starts anew ----

pub begun : {F : Type 0} (p : PlayerView F) (seed : Seed) (most : ℕ) → Valid p.game → p.world ≡ opening_world p.game seed
    → p.pending ≡ record { bytes = []; earlier = NO_WORD }
    → p.machine ≡ new_machine most → p.last ≡ step.Waits prompt.Main → IsSeated p
begun p seed most valid world pending machine last = record {
  valid = valid;
  machine = rw (last, machine) (record { frames = refl; turning = refl; waiting = refl });
  rightly = λ standing. rw (last, world, pending, machine) (record {
    world = world_is p.game seed 0 (opening_world p.game seed) (start_so p.game valid seed);
    frames = (refl, refl);
    line = λ none. refl;
    pending = record { short = omega arith; bytes = λ k d low. absurd (omega arith) };
    earlier = omega arith;
    piece = refl;
    read = refl;
  });
}

pub renewed : {F : Type 0} (p q : PlayerView F) (seed : Seed) (most : ℕ) → IsSeated p → q.game ≡ p.game → q.world ≡ opening_world q.game seed
    → q.pending ≡ record { bytes = []; earlier = NO_WORD } → q.machine ≡ new_machine most
    → q.last ≡ step.Waits prompt.Main → IsSeated q
renewed p q seed most seated game = begun q seed most (subst Valid (sym game) seated.valid)

-- A new player may play its first piece.
pub new_ready : {F : Type 0} (g : GameLists) (routines : Routines F) (h : PlayState) (last : Step) → Valid g
    → IsNew (seat_of g routines h last) h.surroundings.world.seed → MayGoOn g h
new_ready g routines h last v fresh =
    let left : h.machine.left ≡ READ_LIMIT = ap (λ (m : OpenTables). m.left) fresh.machine in
    let draws : h.surroundings.world.draws ≡ 0 = ap (λ (w : World). w.draws) fresh.world in
    record {
      playable = record {
        world = subst (IsOf g) (sym fresh.world) (start_so g v h.surroundings.world.seed).of;
        budget = omega (arith, left);
        draws = omega (arith, left, draws);
      };
      closed = subst IsClosed (sym fresh.machine) (record { frames = refl; turning = refl; waiting = refl });
    }

pub new_read : {F : Type 0} (g : GameLists) (routines : Routines F) (h : PlayState) (last : Step)
    → IsNew (seat_of g routines h last) h.surroundings.world.seed → HasReadSome h.machine
new_read g routines h last fresh =
    ([], none_yet h.machine fresh.machine)
