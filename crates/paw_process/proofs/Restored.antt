-- Kept frames that follow their rules.
use Rattle.std.proofs.Common.{◌≡◌, ℕ, zero, suc, ◌-◌, ◌≤◌, ◌<◌, Bool, true, false, ◌&&◌, List, [], ◌∷◌}
use Rattle.std.proofs.Common.{Option, Some, None, refl, length, take, reverse, slice_get, arith}
use Rattle.std.specs.Prelude.{◌==◌, if◌then◌else◌, nat_lt}
use Rattle.std.specs.Option.{option_or}
use mathlib.Core.List.{reverse_aux}
use Rattle.std.proofs.lemmas.Bool.Decides.{nat_tests}
use Rattle.std.proofs.lemmas.Bool.{eqb-true, ltb-true, leb-true}
use Rattle.std.proofs.lemmas.List.{length-reverse, length-take}
use Rattle.paw_game.specs.Tables.{condact_at}
use Rattle.paw_base.specs.declared.codes.TheConstants.{QUIT, END, ANYKEY, PROCESS, DOALL}
use Rattle.paw_base.specs.declared.parts.Condact.{Condact}
use Rattle.paw_game.specs.Game.{GameLists}
use Rattle.paw_game.specs.Valid.{Valid}
use Rattle.paw_game.proofs.ValidGames.{condact-early, condact-small}
use Rattle.paw_effects.specs.declared.act.Prompt.{Prompt}
use Rattle.paw_effects.specs.declared.act.Prompt.TheVariants as prompt
use Rattle.paw_reading.specs.declared.frames.Frame.{Frame}
use Rattle.paw_reading.specs.declared.frames.OpenLoop.{OpenLoop}
use Rattle.paw_process.specs.Kept.{has_code, may_open, parameter_of}
use Rattle.paw_process.specs.inner.Kept.{is_that_table}
use Rattle.paw_process.specs.inner.Kept.{condact_at_frame, frame_stands, first_frame_fault}
use Rattle.paw_process.proofs.OpenFrames.{table_of}
use Rattle.paw_process.specs.Kept.{count_fits}
use Rattle.paw_process.specs.inner.Kept.{loop_stands, loop_fault, fault_at, frames_fault}
use Rattle.paw_process.specs.inner.Kept.{machine_restored, waiting_at, WaitsAtPrompt}
use Rattle.paw_process.specs.declared.machine.TheConstants.{MOST_FRAMES}
use Rattle.paw_process.specs.declared.kept.Frames.{Frames}
use Rattle.paw_process.specs.inner.OpenTables.{below, IsAtCondact, AtCondacts, InTable, IsLoopWithin, LoopFits}
use Rattle.paw_process.specs.inner.OpenTables.{IsWaiting, IsClosed}

-- The frames one by one.
pub no_frames : (g : GameLists) (code : ℕ) (caller : Option ℕ) (n d : ℕ) (rows : List Frame) → length rows ≡ 0 → None ≡ first_frame_fault g code caller n d rows
unfolding first_frame_fault
no_frames g code caller n d [] h = refl
no_frames g code caller n d (f ∷ fs) h = absurd (omega arith)

pub first_frame : (g : GameLists) (code : ℕ) (caller : Option ℕ) (n d : ℕ) (rows : List Frame) (f : Frame) (fs : List Frame) → rows ≡ f ∷ fs
    → frame_stands g code caller n f ≡ false → Some d ≡ first_frame_fault g code caller n d rows
unfolding first_frame_fault
first_frame g code caller n d rows f fs e h = rw (e, h) refl

pub later_frame : (g : GameLists) (code : ℕ) (caller : Option ℕ) (n d : ℕ) (rows : List Frame) (f : Frame) (fs : List Frame) → rows ≡ f ∷ fs
    → frame_stands g code caller n f ≡ true
    → first_frame_fault g code (Some (parameter_of (condact_at_frame g f))) (n - 1) (suc d) fs ≡ first_frame_fault g code caller n d rows
unfolding first_frame_fault
later_frame g code caller n d rows f fs e h = rw (e, h) refl

-- A frame that is used stands at a condact.
coded : (g : GameLists) (f : Frame) (code : ℕ) (o : Option Condact) → Valid g → condact_at_frame g f ≡ o → has_code code o ≡ true → IsAtCondact f
coded g f code None v e h = cc
coded g f code (Some c) v e h = record {
  at = condact-early g v f.table f.entry f.at c e;
  entry = condact-small g v f.table f.entry f.at c e;
}

pub first_of : (a b : Bool) → (a && b) ≡ true → a ≡ true
first_of true b h = refl
first_of false b h = cc

pub second : (a b : Bool) → (a && b) ≡ true → b ≡ true
second true b h = h
second false b h = cc

used_frame : (g : GameLists) (code : ℕ) (caller : Option ℕ) (n : ℕ) (f : Frame) → Valid g → frame_stands g code caller (suc n) f ≡ true → IsAtCondact f
used_frame g code caller n f v h =
    let t : (suc n == 0) ≡ false = grind (arith, nat_tests) in
    coded g f (if suc n == 1 then code else PROCESS) (condact_at_frame g f) v refl (second (may_open caller f.table) _ (rw t at h))

pub at_condacts : (g : GameLists) (code : ℕ) (caller : Option ℕ) (n d : ℕ) (rows : List Frame) → Valid g → first_frame_fault g code caller n d rows ≡ None
    → AtCondacts (take n rows)
unfolding first_frame_fault
at_condacts g code caller zero d [] v h = tt
at_condacts g code caller zero d (f ∷ fs) v h = tt
at_condacts g code caller (suc n) d [] v h = tt
at_condacts g code caller (suc n) d (f ∷ fs) v h =
    go (at_condacts g code (Some (parameter_of (condact_at_frame g f))) n (suc d) fs v) (frame_stands g code caller (suc n) f) refl h
  where
    go : (first_frame_fault g code (Some (parameter_of (condact_at_frame g f))) n (suc d) fs ≡ None → AtCondacts (take n fs)) → (b : Bool)
        → frame_stands g code caller (suc n) f ≡ b
        → ◌≡◌ {A = Option ℕ} (if b then first_frame_fault g code (Some (parameter_of (condact_at_frame g f))) (suc n - 1) (suc d) fs else Some d) None
        → IsAtCondact f × AtCondacts (take n fs)
    go later true e q =
        let m : suc n - 1 ≡ n = omega arith in (used_frame g code caller n f v e, later (rw m at q))
    go later false e q = cc

-- The frames in the other order.
onto_condacts : (fs gs : List Frame) → AtCondacts fs → AtCondacts gs → AtCondacts (reverse_aux fs gs)
onto_condacts [] gs h k = k
onto_condacts (f ∷ fs) gs h k = onto_condacts fs (f ∷ gs) h.1 (h.0, k)

pub reverse_condacts : (fs : List Frame) → AtCondacts fs → AtCondacts (reverse fs)
reverse_condacts fs h = onto_condacts fs [] h tt

-- ---- the machine ----

-- With no first fault there is none later.
pub no_first : (a b : Option ℕ) → option_or a b ≡ None → (a ≡ None) × (b ≡ None)
no_first None b h = (refl, h)
no_first (Some d) b h = cc

loop_in : (g : GameLists) (k : Frames) (o : Option OpenLoop) → Valid g → loop_fault g k o ≡ None → LoopFits k.count o
loop_in g k None v h = tt
loop_in g k (Some l) v h = go (loop_stands g k l) refl h
  where
    go : (b : Bool) → loop_stands g k l ≡ b → ◌≡◌ {A = Option ℕ} (if b then None else Some MOST_FRAMES) None →
        IsLoopWithin k.count l
    go true e q =
        let later = second (nat_lt l.level k.count) _ e in
        let coded_at = first_of (has_code DOALL (condact_at g l.table l.entry l.at)) _
        (second (is_that_table (table_of (slice_get k.rows l.level)) l.table) _ later) in
        let c = coded g (record { table = l.table; entry = l.entry; at = l.at; acted = false }) DOALL (condact_at g l.table l.entry l.at) v refl coded_at in
        record { at = c.at; entry = c.entry; level = ltb-true l.level k.count (first_of (nat_lt l.level k.count) _ e) }
    go false e q = cc

top_in : (fs : List Frame) → AtCondacts fs → InTable fs
top_in [] h = tt
top_in (f ∷ fs) h = λ some. h.0.entry

below_in : (fs : List Frame) → AtCondacts fs → AtCondacts (below fs)
below_in [] h = tt
below_in (f ∷ fs) h = h.1

-- Kept frames, one to eleven of them, are those of a machine that waits.
waits_at : (g : GameLists) (p : Prompt) (code : ℕ) (k : Frames) → Valid g → length k.rows ≡ MOST_FRAMES → fault_at g (Some code) k ≡ None
    → IsWaiting p (machine_restored k (Some p))
waits_at g p code k v size h = go (count_fits (Some code) k.count) refl h
  where
    go : (b : Bool) → count_fits (Some code) k.count ≡ b
        → ◌≡◌ {A = Option ℕ} (if b then option_or (first_frame_fault g code None k.count 0 k.rows) (loop_fault g k k.turning) else Some 0) None
        → IsWaiting p (machine_restored k (Some p))
    go true e q =
        let fits = no_first (first_frame_fault g code None k.count 0 k.rows) (loop_fault g k k.turning) q in
        let some : 0 < k.count = ltb-true 0 k.count (first_of (nat_lt 0 k.count) _ e) in
        let low : k.count ≤ MOST_FRAMES = leb-true k.count MOST_FRAMES (second (nat_lt 0 k.count) _ e) in
        let n : length (reverse (take k.count k.rows)) ≡ k.count = omega (arith, length-reverse (take k.count k.rows), length-take k.count k.rows) in
        let all : AtCondacts (reverse (take k.count k.rows)) = reverse_condacts (take k.count k.rows) (at_condacts g code None k.count 0 k.rows v fits.0) in
        record {
          tables = record {
            some = omega arith;
            depth = omega arith;
            top = top_in (reverse (take k.count k.rows)) all;
            below = below_in (reverse (take k.count k.rows)) all;
            loop = rw n (loop_in g k k.turning v fits.1);
          };
          condacts = all;
          waiting = refl;
        }
    go false e q = cc

-- Kept frames of which none is used are those of a machine with nothing open.
pub none_open : (g : GameLists) (k : Frames) → fault_at g None k ≡ None → IsClosed (machine_restored k None)
none_open g k h = go (count_fits None k.count) refl h
  where
    loop_gone : (o : Option OpenLoop) → k.count ≡ 0 → loop_fault g k o ≡ None → o ≡ None
    loop_gone None e q = refl
    loop_gone (Some l) e q =
        let t : nat_lt l.level k.count ≡ false = grind (arith, nat_tests) in
        let f : loop_stands g k l ≡ false = rw t refl in
        cc (rw f at q)

    go : (b : Bool) → count_fits None k.count ≡ b
        → ◌≡◌ {A = Option ℕ} (if b then option_or (first_frame_fault g 0 None k.count 0 k.rows) (loop_fault g k k.turning) else Some 0) None
        → IsClosed (machine_restored k None)
    go true e q =
        let fits = no_first (first_frame_fault g 0 None k.count 0 k.rows) (loop_fault g k k.turning) q in
        let z : k.count ≡ 0 = eqb-true k.count 0 e in
        record { frames = rw z refl; turning = loop_gone k.turning z fits.1; waiting = refl }
    go false e q = cc

pub stands_at : (g : GameLists) (p : Prompt) (k : Frames) → Valid g → length k.rows ≡ MOST_FRAMES → frames_fault g p k ≡ None →
    WaitsAtPrompt p (machine_restored k (waiting_at p))
stands_at g prompt.Main k v size h = none_open g k h
stands_at g prompt.Quit k v size h = waits_at g prompt.Quit QUIT k v size h
stands_at g prompt.Again k v size h = waits_at g prompt.Again END k v size h
stands_at g prompt.Key k v size h = waits_at g prompt.Key ANYKEY k v size h
stands_at g prompt.Over k v size h = none_open g k h
