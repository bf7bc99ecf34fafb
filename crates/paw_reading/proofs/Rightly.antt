-- Each reading of a valid game stops rightly.
use Rattle.std.proofs.Common.{◌≡◌, ◌≢◌, ℕ, suc, ◌+◌, ◌*◌, ◌≤◌, Bool, true, false, List, [], ◌∷◌, Option, Some}
use Rattle.std.proofs.Common.{None, refl, sym, ap}
use Rattle.std.proofs.Common.{subst, length, arith, append-nil}
use Rattle.std.specs.Prelude.{All}
use Rattle.std.proofs.Math.ListN.{get_or}
use Rattle.paw_base.specs.Bytes.{Seed, Texts}
use Rattle.paw_base.specs.declared.limits.TheConstants.{READ_LIMIT, LEVEL_LIMIT}
use Rattle.paw_base.specs.declared.flags.TheConstants.{UNLIT_VIEW_FLAG, DARK_VIEW_FLAG}
use Rattle.paw_base.specs.declared.flags.TheConstants.{VIEW_FLAG, LAST_FRAME_FLAG, FIRST_FRAME_FLAG, UNLIT_FRAME_FLAG}
use Rattle.paw_base.specs.declared.flags.TheConstants.{DARK_FRAME_FLAG}
use Rattle.paw_base.specs.declared.codes.TheConstants.{QUIT, END, ANYKEY}
use Rattle.paw_base.specs.declared.tables.TheConstants.{FRAME_TABLE}
use Rattle.paw_game.specs.Game.{GameLists}
use Rattle.paw_game.specs.Valid.{Valid}
use Rattle.paw_world.specs.World.{World, Position, is_dark, is_unlit, flag_lowered, flag_lowered_if}
use Rattle.paw_effects.specs.inner.Worlds.{StandsIn}
use Rattle.paw_effects.specs.inner.Standing.{MayBePosition}
use Rattle.paw_effects.specs.Story.{Story}
use Rattle.paw_effects.specs.declared.act.Prompt.{Prompt}
use Rattle.paw_effects.specs.declared.act.Prompt.TheVariants as prompt
use Rattle.paw_effects.proofs.Asking.{AsksAt}
use Rattle.paw_effects.proofs.Placed.{IsPlaced, opened_placed}
use Rattle.paw_reading.specs.declared.frames.Frame.{Frame}
use Rattle.paw_reading.specs.declared.frames.OpenLoop.{OpenLoop}
use Rattle.paw_reading.specs.Run.{Run, StepRow}
use Rattle.paw_reading.specs.declared.halt.Halt.{Halt}
use Rattle.paw_reading.specs.declared.halt.Halt.TheVariants as halt
use Rattle.paw_reading.specs.Reading.{Redescribes, Restarts, Halts, Out, Left, Waits, Stopped, table_read}
use Rattle.paw_reading.specs.Turn.{AtDescribe, Ending, WaitsAt, Halted, reading, going_on_from, location_described, time_frame_passed}
use Rattle.paw_reading.specs.Turn.{phases_left, opening, first_table, goes_on}
use Rattle.paw_reading.specs.inner.Parts.{in_table}
use Rattle.paw_reading.specs.Bounds.{IsLine, ValidStory}
use Rattle.paw_reading.specs.inner.Bounds.{IsBounded}
use Rattle.paw_reading.specs.inner.Longer.{without_past, with_past, ending_with_past}
use Rattle.paw_reading.specs.inner.Waits.{LeadsTo, tables_of, AreOpenTo, AreFramesAndLoop, IsLineTaken, StandsRightly}
use Rattle.paw_reading.specs.inner.Waits.{StopsRightly, StopsBounded}
use Rattle.paw_reading.specs.inner.Waits.{ReadingsStopRightly, GoingOnStopsRightly, ReadingsAreBounded}
use Rattle.paw_reading.specs.inner.Waits.{GoingOnIsBounded}
use Rattle.paw_reading.proofs.RunInduction.{RunClaim, Ends, TurnEnds, TurnCarries, Between, turn_ends, path_goes_on, main_goes_on}
use Rattle.paw_reading.proofs.Held.{Sound, Held, none_open, table_held, path_held}
use Rattle.paw_reading.proofs.Past.{past_stays}
use Rattle.paw_effects.proofs.Worlds.{world_at, world_is}
use Rattle.paw_reading.proofs.Sounding.{IsResting, EndsSound, are_lines, reading_sounds, going_on_sounds}

-- ---- worlds ----

fallen_placed : (g : GameLists) (b : Bool) (n : ℕ) (w : World) → IsPlaced g w → IsPlaced g (flag_lowered_if b n w)
fallen_placed g true n w k = k
fallen_placed g false n w k = k

described_placed : (g : GameLists) (w : World) → IsPlaced g w → IsPlaced g (location_described w)
described_placed g w k =
    fallen_placed g (is_unlit w) UNLIT_VIEW_FLAG (flag_lowered_if (is_dark w) DARK_VIEW_FLAG (flag_lowered VIEW_FLAG w))
    (fallen_placed g (is_dark w) DARK_VIEW_FLAG (flag_lowered VIEW_FLAG w) k)

time_frame_placed : (g : GameLists) (w : World) → IsPlaced g w → IsPlaced g (time_frame_passed w)
time_frame_placed g w k =
    let first : World = flag_lowered LAST_FRAME_FLAG (flag_lowered 7 (flag_lowered 6 (flag_lowered FIRST_FRAME_FLAG w))) in
    fallen_placed g (is_unlit w) UNLIT_FRAME_FLAG (flag_lowered_if (is_dark w) DARK_FRAME_FLAG first) (fallen_placed g (is_dark w) DARK_FRAME_FLAG first k)

-- ---- waits in tables ----

open_to : (g : GameLists) (code t : ℕ) (path : List Frame) (w : World) (o : Option OpenLoop) → t ≤ FRAME_TABLE → length path ≤ suc LEVEL_LIMIT
    → first_table path ≡ t → LeadsTo g code path
    → Sound g (tables_of path) w o → AreOpenTo g code path o
open_to g code t path w o low few first leads k = record { few = few; outermost = subst (λ u. u ≤ FRAME_TABLE) (sym first) low; leads = leads; loop = k.loop }

-- A wait in tables.
waits_rightly : (g : GameLists) (t code : ℕ) (p : Prompt) (path : List Frame) (r : Run) → t ≤ FRAME_TABLE → AsksAt code p → length path ≤ suc LEVEL_LIMIT
    → first_table path ≡ t → LeadsTo g code path → Sound g (tables_of path) r.world r.turning → (p ≢ prompt.Over) × AreFramesAndLoop g p path r.turning
waits_rightly g t code prompt.Main path r low asks few first leads k = absurd asks
waits_rightly g t code prompt.Quit path r low asks few first leads k =
    (λ e. cc, open_to g QUIT t path r.world r.turning low few first (subst (λ c. LeadsTo g c path) asks leads) k)
waits_rightly g t code prompt.Again path r low asks few first leads k =
    (λ e. cc, open_to g END t path r.world r.turning low few first (subst (λ c. LeadsTo g c path) asks leads) k)
waits_rightly g t code prompt.Key path r low asks few first leads k =
    (λ e. cc, open_to g ANYKEY t path r.world r.turning low few first (subst (λ c. LeadsTo g c path) asks leads) k)
waits_rightly g t code prompt.Over path r low asks few first leads k = absurd asks

some_path : (g : GameLists) (code : ℕ) (path : List Frame) (r : Run) → LeadsTo g code path → IsLineTaken path r
some_path g code [] r leads = absurd leads
some_path g code (f ∷ path) r leads = λ e. cc

-- ---- turns ----

-- What a run that stops leaves of its frames and its line.
record IsPlacedRightly (g : GameLists) (p : Prompt) (path : List Frame) (r : Run) : Type 0 where
  frames : AreFramesAndLoop g p path r.turning
  line : IsLineTaken path r

-- Between tables the objects of the world stand at places of the game, and no loop is open.
record IsBetween (g : GameLists) (r : Run) : Type 0 where
  of : IsPlaced g r.world
  none : r.turning ≡ None

abbrev HaltsPlaced : GameLists → Halt → Run → Type 0
HaltsPlaced g halt.Over r = IsPlacedRightly g prompt.Over [] r
HaltsPlaced g _ r = Unit {0}

abbrev claim : GameLists → RunClaim
claim g = record {
  on = IsBetween g;
  acted = IsBetween g;
  closed = λ r lines. IsBetween g r × (r.pending ≡ []);
  wait = λ p path r. (p ≢ prompt.Over) × IsPlacedRightly g p path r;
  anew = IsBetween g;
  halt = HaltsPlaced g;
}

abbrev StopsPlaced : GameLists → Ending → Type 0
StopsPlaced g e = TurnEnds (claim g) e

placed : (g : GameLists) (r : Run) → Sound g [] r.world r.turning → IsBetween g r
placed g r k = record { of = k.of; none = none_open g r.world r.turning k }

table_placed : (g : GameLists) (t : ℕ) → t ≤ FRAME_TABLE → (x : Out) → Held g [] [] t x → Ends (claim g) x
table_placed g t low (Left a r) k = placed g r k
table_placed g t low (Waits p path r) k =
    let rightly = waits_rightly g t k.code p path r low k.asks (omega (arith, k.few)) k.first k.leads k.sound in
    (rightly.0, record { frames = rightly.1; line = some_path g k.code path r k.leads })
table_placed g t low (Stopped Redescribes r) k = placed g r k
table_placed g t low (Stopped Restarts r) k = placed g r k
table_placed g t low (Stopped (Halts halt.Over) r) k = record { frames = (refl, k.0); line = λ e. k.1.0 }
table_placed g t low (Stopped (Halts _) r) k = tt

module _ (g : Story) (v : Valid g.game) where
  turns : TurnCarries g (claim g.game)
  turns = record {
    begins = λ r k. k;
    described = λ r k. record { of = described_placed g.game r.world k.of; none = k.none };
    passed = λ r k. record { of = time_frame_placed g.game r.world k.of; none = k.none };
    went = λ r to k is. record { of = k.of; none = k.none };
    counted = λ r k. record { of = k.of; none = k.none };
    dropped = λ r k. record { of = k.of; none = k.none };
    set = λ r line lines k. record { of = k.0.of; none = k.0.none };
    awaits = λ r k. (λ e. cc, record { frames = (refl, k.0.none); line = λ e. k.1 });
  }

  tables : Between g (claim g.game)
  tables = record {
    printed = λ r text k is fit. record { of = k.of; none = k.none };
    too_long = λ r k. tt;
    sentence = λ r s left k is. record { of = k.of; none = k.none };
    asks = λ r text k. (record { of = k.of; none = k.none }, refl);
    ignored = λ r line lines k. (record { of = k.0.of; none = k.0.none }, k.1);
    heard = λ r line lines k. record { of = k.0.of; none = k.0.none };
    tables = λ t r low k. table_placed g.game t low (table_read g t r) (table_held g v t r k.of k.none);
  }

  -- ---- going on ----

  in_table_rightly : (n : ℕ) (p : Prompt) (code : ℕ) (path : List Frame) (r : Run) → IsPlaced g.game r.world → AsksAt code p →
      AreOpenTo g.game code path r.turning → StopsPlaced g.game (in_table g n p path r)
  in_table_rightly n p code [] r of asks at = absurd at.leads
  in_table_rightly n p code (f ∷ path) r of asks at =
      path_goes_on g (claim g.game) tables turns n f.table _
      (table_placed g.game f.table at.outermost _
      (path_held g v p code [] 0 f path r refl asks (omega (arith, at.few)) at.leads (record { of = of; loop = at.loop })))

  goes_on_rightly : (n : ℕ) (p : Prompt) (path : List Frame) (r : Run) → IsPlaced g.game r.world → IsPlacedRightly g.game p path r →
      StopsPlaced g.game (goes_on g n p path r)
  goes_on_rightly n prompt.Main path r of at =
      main_goes_on g (claim g.game) tables turns n r (record { of = of; none = at.frames.1 }, at.line at.frames.0)
  goes_on_rightly n prompt.Quit path r of at = in_table_rightly n prompt.Quit QUIT path r of refl at.frames
  goes_on_rightly n prompt.Again path r of at = in_table_rightly n prompt.Again END path r of refl at.frames
  goes_on_rightly n prompt.Key path r of at = in_table_rightly n prompt.Key ANYKEY path r of refl at.frames
  goes_on_rightly n prompt.Over path r of at = record { frames = (refl, at.frames.1); line = λ e. at.line at.frames.0 }

-- ---- all that holds ----

-- The frames, the line, and what is sound stand rightly.
stands : (g : Story) (valid : ValidStory g) (seed : Seed) (n : ℕ) (p : Prompt) (path : List Frame) (r : Run) → IsPlacedRightly g.game p path r →
    IsResting g.game seed n r
    → StandsRightly g.game p path r
stands g valid seed n p path r at k = record {
  world = world_is g.game seed (n + READ_LIMIT * length r.pieces + length r.read) r.world k.sound.world;
  frames = at.frames;
  line = at.line;
  pending = k.sound.line;
  earlier = k.sound.earlier;
  piece = k.current;
  read = k.read;
}

stop_rightly : (g : Story) (valid : ValidStory g) (seed : Seed) (n : ℕ) (e : Ending) → StopsPlaced g.game e → EndsSound g valid seed n e → StopsRightly g.game e
stop_rightly g valid seed n (WaitsAt p path r) at k = (at.0, stands g valid seed n p path r at.1 k)
stop_rightly g valid seed n (Halted halt.Over r) at k = stands g valid seed n prompt.Over [] r at k
stop_rightly g valid seed n _ at k = tt

bounded : (g : GameLists) (seed : Seed) (n : ℕ) (r : Run) → IsResting g seed n r → IsBounded seed n r
bounded g seed n r k = record {
  seeded = k.sound.world.seeded;
  draws = let none : length r.read ≡ 0 = ap length k.read in omega (arith, none, k.sound.world.draws);
  pieces = k.sound.pieces;
  traced = k.sound.traced;
}

stop_bounded : (g : Story) (valid : ValidStory g) (seed : Seed) (n : ℕ) (e : Ending) → EndsSound g valid seed n e → StopsBounded seed n e
stop_bounded g valid seed n (WaitsAt p path r) k = bounded g.game seed n r k
stop_bounded g valid seed n (Halted halt.Over r) k = bounded g.game seed n r k
stop_bounded g valid seed n _ k = tt

-- Each reading.
pub readings_stop_rightly : ReadingsStopRightly
readings_stop_rightly g seed es valid lines =
    stop_rightly g valid seed 0 (reading g seed es)
    (turn_ends g (claim g.game) (tables g valid.game) (turns g valid.game) (phases_left (opening g seed es)) AtDescribe (opening g seed es)
    (record { of = opened_placed g.game seed valid.game; none = refl }))
    (reading_sounds g valid seed 0 es (are_lines es lines))

pub readings_are_bounded : ReadingsAreBounded
readings_are_bounded g seed es valid lines = stop_bounded g valid seed 0 (reading g seed es) (reading_sounds g valid seed 0 es (are_lines es lines))

-- A run that stands rightly is sound.
pub rests : (g : GameLists) (seed : Seed) (n : ℕ) (p : Prompt) (path : List Frame) (r : Run) → StandsRightly g p path r → IsBounded seed n r → All IsLine r.events →
    IsResting g seed n r
rests g seed n p path r k bound lines = record {
  sound = record {
    world = world_at g seed (n + READ_LIMIT * length r.pieces + length r.read) r.world k.world bound.seeded (omega (arith, bound.draws));
    few = let none : length r.read ≡ 0 = ap length k.read in omega (arith, none);
    line = k.pending;
    earlier = k.earlier;
    text = let none : length r.current ≡ 0 = ap length k.piece in omega (arith, none);
    pieces = bound.pieces;
    lines = are_lines r.events lines;
    traced = bound.traced;
  };
  current = k.piece;
  read = k.read;
}

-- Going on.
pub going_on_is_bounded : GoingOnIsBounded
going_on_is_bounded g seed n p path r valid lines k bound =
    stop_bounded g valid seed n (going_on_from g p path r) (going_on_sounds g valid seed n p path r (rests g.game seed n p path r k bound lines))

-- Without what was closed before.
apart : (r : Run) → with_past r.pieces r.traces (without_past r) ≡ r
apart r = rw (append-nil r.pieces, append-nil r.traces) refl

placed_past : (g : GameLists) (ps : Texts) (ts : List (List StepRow)) (e : Ending) → StopsRightly g e → StopsRightly g (ending_with_past ps ts e)
placed_past g ps ts (WaitsAt p path r) k =
    (k.0, record { world = k.1.world; frames = k.1.frames; line = k.1.line; pending = k.1.pending; earlier = k.1.earlier; piece = k.1.piece; read = k.1.read })
placed_past g ps ts (Halted halt.Over r) k = record {
  world = k.world;
  frames = k.frames;
  line = k.line;
  pending = k.pending;
  earlier = k.earlier;
  piece = k.piece;
  read = k.read;
}
placed_past g ps ts _ k = tt

alone : (g : GameLists) (p : Prompt) (path : List Frame) (r : Run) → StandsRightly g p path r → StandsRightly g p path (without_past r)
alone g p path r k = record { world = k.world; frames = k.frames; line = k.line; pending = k.pending; earlier = k.earlier; piece = k.piece; read = k.read }

pub going_on_stops_rightly : GoingOnStopsRightly
going_on_stops_rightly g p path r valid lines k =
    let s : Run = without_past r in
    let at : StandsRightly g.game p path s = alone g.game p path r k in
    let resting : IsResting g.game r.world.seed r.world.draws s =
    rests g.game r.world.seed r.world.draws p path s at
    (record { seeded = refl; draws = omega arith; pieces = λ i d low. absurd (omega arith); traced = refl }) lines in
    let placed = goes_on_rightly g valid.game (phases_left s) p path s
    (k.world.of.facts, (k.world.of.locations, (k.world.places, (stands_in g.game r.world.saved k.world.saved, all_stand g.game r.world.kept k.world.kept))))
    (record { frames = at.frames; line = at.line }) in
    let sounds = going_on_sounds g valid r.world.seed r.world.draws p path s resting in
    let rightly = stop_rightly g valid r.world.seed r.world.draws (going_on_from g p path s) placed sounds in
    subst (λ x. StopsRightly g.game (going_on_from g p path x)) (apart r)
    (subst (StopsRightly g.game) (sym (past_stays g r.pieces r.traces p path s))
    (placed_past g.game r.pieces r.traces (going_on_from g p path s) rightly))
  where
    stands_in : (h : GameLists) (saved : Option Position) → MayBePosition h saved → StandsIn h saved
    stands_in h None at = tt
    stands_in h (Some q) at = at.places

    all_stand : (h : GameLists) (kept : List (Option Position)) → All (MayBePosition h) kept → All (StandsIn h) kept
    all_stand h kept all = λ k d low. stands_in h (get_or kept k d) (all k d low)
