-- What the bytes of a store show.
use Rattle.paw_play.proofs.Names.{◌≡◌, ℕ, ◌+◌, [], Option, Some, None, refl, sym, ap, ◌∙◌, subst, length, take, arith, IfNone, Bytes, Text, GameLists, Valid, Position, IsSavedFor, Prompt, Story, StandsIn, MayBePosition, IsWorldOf, OpenTables, machine_kept, machine_restored, waiting_at, WaitsAtPrompt, restored_kept, Fits, IsPending, prompt_step, StandsClosed, Digests, Shown, recover, state_length, shown_long, State, IsValidState, FitsFields, HoldsBytes, state_of, state_bytes, Restored, IsRead, state_read, each_of, bytes_give_the_state, long_state, IsKept, ShowsState, going_on, from_state, waiting_code, stands_at, restored_fits, piece_told, kept_bytes}
use Rattle.paw_effects.specs.declared.act.Prompt.TheVariants as prompt
use Rattle.paw_play.proofs.{Resuming.ComesTo, Resuming.goes_on_from, Resuming.comes_there, Written.same_shown}

-- A buffer begins with the bytes of a state.
pub shows_kept : (digests : Digests) (bytes buffer piece : Bytes) (st : State) →
    recover bytes ≡ Shown digests (take state_length buffer) piece → take state_length buffer ≡ state_bytes st →
    recover bytes ≡ Shown digests (kept_bytes st) piece
unfolding kept_bytes
shows_kept digests bytes buffer piece st e k = e ∙ ap (λ b. Shown digests b piece) k

bytes_same : (s t : State) → kept_bytes s ≡ kept_bytes t → state_bytes s ≡ state_bytes t
unfolding kept_bytes
bytes_same s t e = e

-- The bytes show one state and one piece, in one session.
pub one_state : (g : Story) (d e : Digests) (bytes name : Bytes) (s t : State) (p q : Text) → Valid g.game →
    ShowsState g.game d bytes s p → ShowsState g.game e bytes t q → from_state g s p d name ≡ from_state g t q e name
one_state g d e bytes name s t p q valid h k =
    let one = same_shown d e (kept_bytes s) p (kept_bytes t) q (sym h.shown ∙ k.shown) in
    let state : s ≡ t = bytes_give_the_state g.game s t valid h.valid h.fits k.valid k.fits (bytes_same s t one.1) in
    ap (λ x. from_state g x p d name) state ∙ ap (λ x. from_state g t x d name) one.2 ∙ ap (λ x. from_state g t q x name) one.0

-- ---- parts that were read fit a player ----

position_from : (g : GameLists) (n : ℕ) (o : Option Position) → n ≡ length g.objects → IsSavedFor n o → StandsIn g o → HoldsBytes o → MayBePosition g o
position_from g n None same alike placed holds = tt
position_from g n (Some q) same alike placed holds = record { flags = alike.flags; bytes = holds.0; each = alike.places ∙ same; places = placed }

-- The world of a state that follows the rules is one of the game.
world_of : (g : GameLists) (s : State) → IsValidState g s → FitsFields s → IsWorldOf g s.world
world_of g s k fits =
    let places = (each_of g s k).places in
    record {
      of = k.world;
      flags = fits.flags;
      places = places.0;
      saved = position_from g (length s.world.places) s.world.saved k.world.places k.sound.saved places.1.0 fits.saved;
      four = k.sound.kept.four;
      kept = λ i d low. position_from g (length s.world.places) _ k.world.places (k.sound.kept.each i d low) (places.1.1 i d low) (fits.kept i d low);
    }

closed_line : (at : Prompt) (m : OpenTables) (bytes : Bytes) → WaitsAtPrompt at m → IfNone (waiting_code at) (bytes ≡ []) → m.frames ≡ [] → bytes ≡ []
closed_line prompt.Main m bytes s p e = p
closed_line prompt.Quit m bytes s p e = absurd (omega (arith, s.tables.some, ap length e))
closed_line prompt.Again m bytes s p e = absurd (omega (arith, s.tables.some, ap length e))
closed_line prompt.Key m bytes s p e = absurd (omega (arith, s.tables.some, ap length e))
closed_line prompt.Over m bytes s p e = p

-- What is pending in it may be pending at its prompt.
pending_of : (g : GameLists) (s : State) (m : OpenTables) → IsValidState g s → FitsFields s → WaitsAtPrompt s.prompt m → IsPending m s.pending
pending_of g s m k fits stands =
    record {
      bytes = record { short = k.line; bytes = fits.line };
      taken = closed_line s.prompt m s.pending.bytes stands (each_of g s k).pending;
      earlier = fits.earlier;
    }

pub read_fits : (g : GameLists) (bytes : Bytes) (r : Restored) → IsRead g bytes r → Fits g r.world r.machine r.pending r.prompt
read_fits g bytes r is =
    restored_fits g r.prompt (machine_kept r.machine) r.world r.machine r.pending (world_of g (state_read r) is.valid is.fits)
    (pending_of g (state_read r) r.machine is.valid is.fits is.stands)
    is.valid.rows is.machine is.stands (each_of g (state_read r) is.valid).frames

-- ---- a state that bytes show ----

module _ (g : Story) (digests : Digests) (bytes : Bytes) (st : State) (piece : Text) (valid : Valid g.game)
    (shows : ShowsState g.game digests bytes st piece) where
  -- A machine that is restored from the state.
  machine : OpenTables
  machine = machine_restored st.frames (waiting_at st.prompt)

  state_is : st ≡ state_of st.world machine st.pending st.prompt st.events st.piece
  unfolding machine
  state_is = ap (λ k. record { world = st.world; frames = k; pending = st.pending; prompt = st.prompt; events = st.events; piece = st.piece })
      (sym (restored_kept g.game st.prompt (waiting_at st.prompt) st.frames shows.valid.rows (each_of g.game st shows.valid).frames))

  stands : StandsClosed (prompt_step st.prompt) machine
  unfolding machine
  stands =
      let at : WaitsAtPrompt st.prompt (machine_restored st.frames (waiting_at st.prompt)) =
      stands_at g.game st.prompt st.frames valid shows.valid.rows (each_of g.game st shows.valid).frames in
      (restored_fits g.game st.prompt st.frames st.world (machine_restored st.frames (waiting_at st.prompt)) st.pending
      (world_of g.game st shows.valid shows.fits)
      (pending_of g.game st (machine_restored st.frames (waiting_at st.prompt)) shows.valid shows.fits at) shows.valid.rows refl at
      (each_of g.game st shows.valid).frames).machine

  long : length piece ≡ st.piece
  unfolding kept_bytes
  long =
      let told = piece_told st (long_state g.game st valid shows.valid shows.fits) shows.fits.piece in
      shown_long bytes digests (state_bytes st) piece shows.shown (omega (arith, told, shows.fits.piece)) ∙ told

  -- What is known of the reading that goes on from it, with no line.
  pub state_comes : ComesTo digests g.game st piece (going_on g st piece [])
  state_comes =
      subst (λ s. ComesTo digests g.game s piece (going_on g s piece [])) (sym state_is)
      (subst (ComesTo digests g.game (state_of st.world machine st.pending st.prompt st.events st.piece) piece)
      (sym (goes_on_from g st.world machine st.pending st.prompt st.events st.piece piece []))
      (comes_there digests g st.world machine st.pending st.events st.piece piece long st.prompt stands))

  pub state_kept : IsKept digests (st.events + 0) (going_on g st piece []) (recover bytes)
  state_kept = subst (IsKept digests (st.events + 0) (going_on g st piece [])) (sym shows.shown) state_comes.keeps
