-- The frames of a path that leads to a condact follow the rules of kept frames, and so does the loop of one of its
-- tables.
use Rattle.std.proofs.Common.{◌≡◌, ℕ, zero, suc, ◌-◌, ◌<◌, true, false, ◌&&◌, List, [], ◌∷◌, ◌++◌, Option, Some, None}
use Rattle.std.proofs.Common.{refl, ◌∙◌, length, replicate, slice_get}
use Rattle.std.proofs.Common.{arith}
use Rattle.std.specs.Prelude.{◌==◌, nat_lt, IfSome}
use Rattle.std.specs.Option.{option_or}
use Rattle.std.proofs.lemmas.Bool.Decides.{nat_tests}
use Rattle.paw_base.specs.declared.codes.TheConstants.{PROCESS, DOALL}
use Rattle.paw_base.specs.declared.parts.Condact.{Condact}
use Rattle.paw_game.specs.Game.{GameLists}
use Rattle.paw_game.specs.Tables.{condact_at}
use Rattle.paw_reading.specs.declared.frames.Frame.{Frame}
use Rattle.paw_reading.specs.declared.frames.OpenLoop.{OpenLoop}
use Rattle.paw_reading.specs.Turn.{first_table}
use Rattle.paw_reading.specs.inner.Waits.{LeadsTo, tables_of, IsLoopIn}
use Rattle.paw_process.specs.Kept.{has_code, may_open, parameter_of}
use Rattle.paw_process.specs.inner.Kept.{blank_frame}
use Rattle.paw_process.specs.inner.Kept.{condact_at_frame, frame_stands, first_frame_fault}
use Rattle.paw_process.specs.inner.Kept.{is_that_table}
use Rattle.paw_process.specs.inner.Kept.{loop_fault}
use Rattle.paw_process.proofs.OpenFrames.{table_of}

-- Frames that aren't used stand.
pub unused_stand : (g : GameLists) (code : ℕ) (caller : Option ℕ) (d k : ℕ) → first_frame_fault g code caller 0 d (replicate k blank_frame) ≡ None
unfolding first_frame_fault
unused_stand g code caller d zero = refl
unused_stand g code caller d (suc k) = unused_stand g code (Some (parameter_of (condact_at_frame g blank_frame))) (suc d) k

has : (code : ℕ) (c : Condact) (o : Option Condact) → o ≡ Some c → c.code ≡ code → has_code code o ≡ true
has code c o at is = rw (at, is) (grind (arith, nat_tests))

names : (c : Condact) (u : ℕ) (o : Option Condact) → o ≡ Some c → c.a ≡ u → may_open (Some (parameter_of o)) u ≡ true
names c u o at called = rw (at, called) (grind (arith, nat_tests))

frame_goes : (g : GameLists) (code : ℕ) (caller : Option ℕ) (n d : ℕ) (f : Frame) (fs : List Frame) → frame_stands g code caller (suc n) f ≡ true
    → first_frame_fault g code (Some (parameter_of (condact_at_frame g f))) n (suc d) fs ≡ None → first_frame_fault g code caller (suc n) d (f ∷ fs) ≡ None
unfolding first_frame_fault
frame_goes g code caller n d f fs stands later = let m : suc n - 1 ≡ n = omega arith in rw (stands, m) later

-- A frame before the last that is used.
pub frame_calls : (g : GameLists) (code : ℕ) (caller : Option ℕ) (n : ℕ) (f : Frame)
    → frame_stands g code caller (suc (suc n)) f ≡ (may_open caller f.table && has_code PROCESS (condact_at_frame g f))
frame_calls g code caller n f =
    let some : (suc (suc n) == 0) ≡ false = grind (arith, nat_tests) in
    let more : (suc (suc n) == 1) ≡ false = grind (arith, nat_tests) in
    rw (some, more) refl

pub path_stands : (g : GameLists) (code : ℕ) (caller : Option ℕ) (path : List Frame) (d k : ℕ) → LeadsTo g code path → may_open caller (first_table path) ≡ true
    → first_frame_fault g code caller (length path) d (path ++ replicate k blank_frame) ≡ None
path_stands g code caller [] d k leads opens = absurd leads
path_stands g code caller (f ∷ []) d k leads opens =
    frame_goes g code caller 0 d f (replicate k blank_frame) (rw (opens, has code leads.condact (condact_at_frame g f) leads.stands leads.is) refl)
    (unused_stand g code (Some (parameter_of (condact_at_frame g f))) (suc d) k)
path_stands g code caller (f ∷ h ∷ path) d k leads opens =
    frame_goes g code caller (suc (length path)) d f ((h ∷ path) ++ replicate k blank_frame)
    (frame_calls g code caller (length path) f ∙ rw (opens, has PROCESS leads.0.condact (condact_at_frame g f) leads.0.stands leads.0.process) refl)
    (path_stands g code (Some (parameter_of (condact_at_frame g f))) (h ∷ path) (suc d) k leads.1
    (names leads.0.condact h.table (condact_at_frame g f) leads.0.stands leads.0.called))

-- ---- and their loop ----

frame_of_table : (path rows : List Frame) (i t : ℕ) → slice_get (tables_of path) i ≡ Some t → is_that_table (table_of (slice_get (path ++ rows) i)) t ≡ true
frame_of_table [] rows i t h = cc
frame_of_table (f ∷ path) rows zero t h = let e : f.table ≡ t = cc in rw e (grind (arith, nat_tests))
frame_of_table (f ∷ path) rows (suc i) t h = frame_of_table path rows i t h

level_low : (path : List Frame) (i t : ℕ) → slice_get (tables_of path) i ≡ Some t → i < length path
level_low [] i t h = cc
level_low (f ∷ path) zero t h = omega arith
level_low (f ∷ path) (suc i) t h = let low : i < length path = level_low path i t h in omega arith

pub loop_fits : (g : GameLists) (path rows : List Frame) (count : ℕ) (o p : Option OpenLoop) → count ≡ length path → IfSome o (IsLoopIn g (tables_of path))
    → loop_fault g (record { count = count; rows = path ++ rows; turning = p }) o ≡ None
loop_fits g path rows count None p size k = refl
loop_fits g path rows count (Some l) p size k =
    let low : l.level < length path = level_low path l.level l.table k.level in
    let level : nat_lt l.level count ≡ true = grind (arith, nat_tests) in
    let last : nat_lt l.last (length g.objects) ≡ true = let few = k.last in grind (arith, nat_tests) in
    rw (
      level,
      frame_of_table path rows l.level l.table k.level,
      has DOALL k.doall.condact (condact_at g l.table l.entry l.at)
          k.doall.stands k.doall.is,
      k.place,
      last,
    ) refl

-- ---- the frames and the loop together ----

pub both_none : (a b : Option ℕ) → a ≡ None → b ≡ None → option_or a b ≡ None
both_none None b h k = k
both_none (Some d) b h k = cc
