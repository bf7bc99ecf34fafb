-- Where a reading stops its state follows the rules.
use Rattle.paw_play.proofs.Names.{◌≡◌, ℕ, suc, ◌+◌, ◌*◌, ◌^◌, ◌<◌, ◌≤◌, List, [], ◌∷◌, Option, Some, None, sym, ap, ◌∙◌, subst, length, arith, IfNone, All, length-map, Lines, Texts, ObjectPlaces, Seed, EVENT_LIMIT, READ_LIMIT, PIECE_LIMIT, GameLists, Valid, World, Position, IsSavedFor, IsWorld, Prompt, Story, ArePlacesOf, StandsIn, AreBytes, MayBePosition, IsWorldOf, Frame, Run, Ending, WaitsAt, Halted, reading, IsBounded, Counted, AreOpenAt, StandsRightly, StopsRightly, StopsBounded, pieces_of_lines, readings_stop_rightly, readings_are_bounded, last_piece, state_at, HoldsBytes, IsValidState, FitsFields, valid_of, IsPlayedWith, ObjectRow, few_objects, place_small, waiting_code, frames_fit, eleven_frames}
use Rattle.paw_effects.specs.declared.act.Prompt.TheVariants as prompt
use Rattle.paw_reading.specs.declared.halt.Halt.TheVariants as halt
use Rattle.paw_play.proofs.Going.{Settles, IsSettled}

-- No line is left where no table is open.
closed_line : (g : GameLists) (p : Prompt) (path : List Frame) (r : Run) → StandsRightly g p path r → IfNone (waiting_code p) (r.pending ≡ [])
closed_line g p path r k = at (waiting_code p) k.frames
  where
    at : (code : Option ℕ) → AreOpenAt g code path r.turning → IfNone code (r.pending ≡ [])
    at None frames = k.line frames.0
    at (Some n) frames = tt

-- The last piece is as short as each.
last_short : (pieces : Texts) → All (λ piece. length piece ≤ PIECE_LIMIT) pieces
    → length (last_piece pieces) ≤ PIECE_LIMIT
last_short [] all = omega arith
last_short (p ∷ []) all = all 0 [] (omega arith)
last_short (p ∷ q ∷ pieces) all = last_short (q ∷ pieces) (λ k d low. all (suc k) d (omega arith))

-- ---- worlds ----

places_are_bytes : (g : GameLists) → Valid g → (places : ObjectPlaces) → ArePlacesOf g places → AreBytes places
places_are_bytes g v places at = λ k d low. place_small g v _ (at k d low)

saved_stands : (g : GameLists) (saved : Option Position) → MayBePosition g saved → StandsIn g saved
saved_stands g None k = tt
saved_stands g (Some q) k = k.places

saved_fits : (g : GameLists) → Valid g → (saved : Option Position) → MayBePosition g saved → HoldsBytes saved
saved_fits g v None k = tt
saved_fits g v (Some q) k = (k.bytes, places_are_bytes g v q.places k.places)

saved_alike : (g : GameLists) (n : ℕ) (saved : Option Position) → n ≡ length g.objects → MayBePosition g saved → IsSavedFor n saved
saved_alike g n None same k = tt
saved_alike g n (Some q) same k = record { flags = k.flags; places = k.each ∙ sym same }

-- A world of the game has the sizes of a world.
world_sound : (g : GameLists) → Valid g → (w : World) → IsWorldOf g w → IsWorld w
world_sound g v w k = record {
  objects = omega (arith, k.of.places, few_objects g v);
  facts = ap length k.of.facts ∙ length-map g.objects (λ (o : ObjectRow). o.facts) ∙ sym k.of.places;
  flags = k.of.flags;
  saved = saved_alike g (length w.places) w.saved k.of.places k.saved;
  kept = record { four = k.four; each = λ i d low. saved_alike g (length w.places) _ k.of.places (k.kept i d low) };
}

-- ---- readings ----

-- Where a run stands as it may, within the bounds of a state, its state follows the rules.
pub state_follows : (g : GameLists) → Valid g → (n : ℕ) → n ≤ EVENT_LIMIT → (p : Prompt) (path : List Frame) (r : Run) → StandsRightly g p path r →
    r.world.seed < 2 ^ 64 → r.world.draws ≤ READ_LIMIT * (n + 1) → length (last_piece r.pieces) ≤ PIECE_LIMIT →
    IsValidState g (state_at n p path r) × FitsFields (state_at n p path r)
state_follows g v n few p path r k seeded drew short = (
  valid_of g (state_at n p path r) (record {
    world = k.world.of;
    sound = world_sound g v r.world k.world;
    places = (k.world.places, (saved_stands g r.world.saved k.world.saved, λ i d low. saved_stands g _ (k.world.kept i d low)));
    events = few;
    draws = drew;
    rows = eleven_frames g (waiting_code p) path r.turning k.frames;
    frames = frames_fit g (waiting_code p) path r.turning k.frames;
    line = k.pending.short;
    pending = closed_line g p path r k;
  }),
  record {
    flags = k.world.flags;
    places = places_are_bytes g v r.world.places k.world.places;
    saved = saved_fits g v r.world.saved k.world.saved;
    kept = λ i d low. saved_fits g v _ (k.world.kept i d low);
    seed = seeded;
    draws = omega (arith, drew, few);
    events = omega (arith, few);
    earlier = k.earlier;
    line = k.pending.bytes;
    piece = omega (arith, short);
  },
)

module _ (g : GameLists) (v : Valid g) (seed : Seed) (n : ℕ) (fits : seed < 2 ^ 64) (few : n ≤ EVENT_LIMIT) where
  -- One piece was closed for each line, and one before them.
  drawn : (r : Run) → IsBounded seed 0 r → length r.pieces + length r.events ≡ suc n → r.world.draws ≤ READ_LIMIT * (n + 1)
  drawn r bound count = let most : r.world.draws ≤ 0 + READ_LIMIT * length r.pieces = bound.draws in omega (arith, most, count)

  settles : (p : Prompt) (path : List Frame) (r : Run) → StandsRightly g p path r → IsBounded seed 0 r → length r.pieces + length r.events ≡ suc n →
      Settles g n p path r
  settles p path r k bound count =
      let state = state_follows g v n few p path r k (subst (λ s. s < 2 ^ 64) (sym bound.seeded) fits) (drawn r bound count)
      (last_short r.pieces bound.pieces) in
      record { valid = state.0; fits = state.1; current = k.piece; read = k.read; traced = bound.traced }

  ending_settles : (e : Ending) → StopsRightly g e → StopsBounded seed 0 e → Counted n e → IsSettled g n e
  ending_settles (WaitsAt p path r) at bound count = settles p path r at.1 bound count.1
  ending_settles (Halted halt.Over r) at bound count = settles prompt.Over [] r at bound count
  ending_settles _ at bound count = tt

pub reading_settles : (g : Story) (seed : Seed) (es : Lines) → IsPlayedWith g seed es → length es ≤ EVENT_LIMIT →
    IsSettled g.game (length es) (reading g seed es)
reading_settles g seed es played few =
    ending_settles g.game played.valid.game seed (length es) played.fits few (reading g seed es)
    (readings_stop_rightly g seed es played.valid played.lines)
    (readings_are_bounded g seed es played.valid played.lines)
    (pieces_of_lines g seed es)
