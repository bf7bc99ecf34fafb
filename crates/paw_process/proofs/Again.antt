-- What is kept of a machine, and the machine of what is kept.
use Rattle.std.proofs.Common.{◌≡◌, ℕ, zero, suc, ◌-◌, ◌≤◌, Bool, true, false, List, [], ◌∷◌, ◌++◌, Option, Some}
use Rattle.std.proofs.Common.{None, length, take, replicate, reverse, refl, sym, ap, ◌∙◌, arith}
use Rattle.std.specs.Prelude.{◌==◌, if◌then◌else◌, not, nat_lt}
use Rattle.std.specs.Option.{option_or, unwrap_or}
use Rattle.std.proofs.Math.Seq.{take-append_seam}
use Rattle.std.proofs.lemmas.Bool.{eqb-true, leb-true}
use Rattle.std.proofs.lemmas.List.{reverse-reverse}
use Rattle.paw_base.specs.declared.limits.TheConstants.{READ_LIMIT, STEP_LIMIT}
use Rattle.paw_base.specs.inner.Steps.{no_steps}
use Rattle.paw_game.specs.Game.{GameLists}
use Rattle.paw_effects.specs.declared.act.Prompt.{Prompt}
use Rattle.paw_effects.specs.declared.act.Prompt.TheVariants as prompt
use Rattle.paw_reading.specs.declared.frames.Frame.{Frame}
use Rattle.paw_reading.specs.declared.frames.OpenLoop.{OpenLoop}
use Rattle.paw_process.specs.declared.machine.TheConstants.{MOST_FRAMES}
use Rattle.paw_process.specs.declared.kept.Frames.{Frames}
use Rattle.paw_process.specs.inner.OpenTables.{OpenTables}
use Rattle.paw_process.specs.inner.OpenTables.{refilled_to_keep}
use Rattle.paw_process.proofs.OpenFrames.{length_frames}
use Rattle.paw_process.proofs.Restored.{first_of, second, no_first}
use Rattle.paw_process.specs.Kept.{frames_at, parameter_of}
use Rattle.paw_process.specs.inner.Kept.{blank_frame, machine_kept}
use Rattle.paw_process.specs.inner.Kept.{is_unused, frame_stands, first_frame_fault, condact_at_frame}
use Rattle.paw_process.specs.Kept.{count_fits, waiting_code}
use Rattle.paw_process.specs.inner.Kept.{loop_fault, fault_at, frames_fault}
use Rattle.paw_process.specs.inner.Kept.{machine_restored, waiting_at, WaitsAtPrompt}

-- ---- the machine again ----

-- The frames of a path hold it.
pub path_again : (path : List Frame) (turning : Option OpenLoop) → take (length path) (frames_at path turning).rows ≡ path
path_again path turning = take-append_seam path (replicate (MOST_FRAMES - length path) blank_frame)

again_at : (m : OpenTables) (waiting : Option Prompt) → m.waiting ≡ waiting → machine_restored (machine_kept m) waiting ≡ refilled_to_keep STEP_LIMIT m
again_at m waiting is =
    ap (λ (fs : List Frame). record { frames = fs; turning = m.turning; waiting = waiting; left = READ_LIMIT; steps = no_steps STEP_LIMIT })
    (ap (λ (s : List Frame). reverse s) (path_again (reverse m.frames) m.turning) ∙ reverse-reverse m.frames)
    ∙ ap (λ (w : Option Prompt). record { frames = m.frames; turning = m.turning; waiting = w; left = READ_LIMIT; steps = no_steps STEP_LIMIT }) (sym is)

pub restored_again : (p : Prompt) (m : OpenTables) → WaitsAtPrompt p m → machine_restored (machine_kept m) (waiting_at p) ≡ refilled_to_keep STEP_LIMIT m
restored_again prompt.Main m stands = again_at m None stands.waiting
restored_again prompt.Quit m stands = again_at m (Some prompt.Quit) stands.waiting
restored_again prompt.Again m stands = again_at m (Some prompt.Again) stands.waiting
restored_again prompt.Key m stands = again_at m (Some prompt.Key) stands.waiting
restored_again prompt.Over m stands = again_at m None stands.waiting

pub kept_again : (p : Prompt) (k : Frames) (m : OpenTables) → k ≡ machine_kept m → WaitsAtPrompt p m
    → machine_restored k (waiting_at p) ≡ refilled_to_keep STEP_LIMIT m
kept_again p k m is stands = ap (λ (u : Frames). machine_restored u (waiting_at p)) is ∙ restored_again p m stands

-- ---- the same frames again ----

is_not : (b : Bool) → not b ≡ true → b ≡ false
is_not true h = cc
is_not false h = refl

none_of : (table entry at : ℕ) (acted : Bool) → table ≡ 0 → entry ≡ 0 → at ≡ 0 → acted ≡ false
    → ◌≡◌ {A = Frame} (record { table = table; entry = entry; at = at; acted = acted }) blank_frame
none_of table entry at acted t e k a = rw (t, e, k, a) refl

unused_is : (f : Frame) → is_unused f ≡ true → f ≡ blank_frame
unused_is f h =
    let later = second (f.table == 0) _ h in
    let last = second (f.entry == 0) _ later in
    none_of f.table f.entry f.at f.acted (eqb-true f.table 0 (first_of (f.table == 0) _ h)) (eqb-true f.entry 0 (first_of (f.entry == 0) _ later))
    (eqb-true f.at 0 (first_of (f.at == 0) _ last)) (is_not f.acted (second (f.at == 0) _ last))

-- With no frame in use each is unused.
none_used : (g : GameLists) (code : ℕ) (caller : Option ℕ) (d : ℕ) (rows : List Frame) → first_frame_fault g code caller 0 d rows ≡ None
    → rows ≡ replicate (length rows) blank_frame
unfolding first_frame_fault
none_used g code caller d [] h = refl
none_used g code caller d (f ∷ fs) h = go (none_used g code (Some (parameter_of (condact_at_frame g f))) (suc d) fs) (is_unused f) refl h
  where
    go : (first_frame_fault g code (Some (parameter_of (condact_at_frame g f))) 0 (suc d) fs ≡ None → fs ≡ replicate (length fs) blank_frame) →
        (b : Bool) → is_unused f ≡ b
        → ◌≡◌ {A = Option ℕ} (if b then first_frame_fault g code (Some (parameter_of (condact_at_frame g f))) (0 - 1) (suc d) fs else Some d) None
        → f ∷ fs ≡ replicate (length (f ∷ fs)) blank_frame
    go later true e q = let same = unused_is f e in let rest = later q in cc (same, rest)
    go later false e q = cc

-- Each frame after those in use is unused.
used_then_not : (g : GameLists) (code : ℕ) (caller : Option ℕ) (n d : ℕ) (rows : List Frame) → first_frame_fault g code caller n d rows ≡ None
    → rows ≡ take n rows ++ replicate (length rows - n) blank_frame
unfolding first_frame_fault
used_then_not g code caller zero d rows h = let m : length rows - 0 ≡ length rows = omega arith in rw m (none_used g code caller d rows h)
used_then_not g code caller (suc n) d [] h = let m : 0 - suc n ≡ 0 = omega arith in rw m refl
used_then_not g code caller (suc n) d (f ∷ fs) h =
    go (used_then_not g code (Some (parameter_of (condact_at_frame g f))) n (suc d) fs) (frame_stands g code caller (suc n) f) refl h
  where
    go : (first_frame_fault g code (Some (parameter_of (condact_at_frame g f))) n (suc d) fs ≡ None → fs ≡ take n fs ++ replicate (length fs - n) blank_frame)
        → (b : Bool) → frame_stands g code caller (suc n) f ≡ b
        → ◌≡◌ {A = Option ℕ} (if b then first_frame_fault g code (Some (parameter_of (condact_at_frame g f))) (suc n - 1) (suc d) fs else Some d) None
        → f ∷ fs ≡ take (suc n) (f ∷ fs) ++ replicate (length (f ∷ fs) - suc n) blank_frame
    go later true e q =
        let m : suc n - 1 ≡ n = omega arith in
        let l : length (f ∷ fs) - suc n ≡ length fs - n = omega arith in
        rw l (ap (λ (s : List Frame). f ∷ s) (later (rw m at q)))
    go later false e q = cc

kept_of : (count : ℕ) (rows : List Frame) (turning : Option OpenLoop) → count ≤ MOST_FRAMES → length rows ≡ MOST_FRAMES
    → rows ≡ take count rows ++ replicate (length rows - count) blank_frame
    → frames_at (reverse (reverse (take count rows))) turning ≡ record { count = count; rows = rows; turning = turning }
kept_of count rows turning low size split =
    let few : replicate (length rows - count) blank_frame ≡ replicate (MOST_FRAMES - count) blank_frame = ap (λ n. replicate (n - count) blank_frame) size in
    rw (reverse-reverse (take count rows), length_frames rows count (omega arith))
    (ap (λ (s : List Frame). record { count = count; rows = s; turning = turning }) (ap (λ (s : List Frame). take count rows ++ s) (sym few) ∙ sym split))

low_count : (code : Option ℕ) (n : ℕ) → count_fits code n ≡ true → n ≤ MOST_FRAMES
low_count None n h = let z = eqb-true n 0 h in omega arith
low_count (Some code) n h = leb-true n MOST_FRAMES (second (nat_lt 0 n) _ h)

kept_at : (g : GameLists) (code : Option ℕ) (waiting : Option Prompt) (k : Frames) → length k.rows ≡ MOST_FRAMES → fault_at g code k ≡ None
    → machine_kept (machine_restored k waiting) ≡ k
kept_at g code waiting k size h = go (count_fits code k.count) refl h
  where
    go : (b : Bool) → count_fits code k.count ≡ b
        → ◌≡◌ {A = Option ℕ}
        (if b then option_or (first_frame_fault g (unwrap_or code 0) None k.count 0 k.rows) (loop_fault g k k.turning) else Some 0) None
        → machine_kept (machine_restored k waiting) ≡ k
    go true e q =
        let fits = no_first (first_frame_fault g (unwrap_or code 0) None k.count 0 k.rows) (loop_fault g k k.turning) q in
        kept_of k.count k.rows k.turning (low_count code k.count e) size (used_then_not g (unwrap_or code 0) None k.count 0 k.rows fits.0)
    go false e q = cc

-- Frames with no fault are at most eleven.
pub few_frames : (g : GameLists) (p : Prompt) (k : Frames) → frames_fault g p k ≡ None → k.count ≤ MOST_FRAMES
few_frames g p k h = go (count_fits (waiting_code p) k.count) refl h
  where
    go : (b : Bool) → count_fits (waiting_code p) k.count ≡ b
        → ◌≡◌ {A = Option ℕ}
        (if b then option_or (first_frame_fault g (unwrap_or (waiting_code p) 0) None k.count 0 k.rows) (loop_fault g k k.turning) else Some 0) None
        → k.count ≤ MOST_FRAMES
    go true e q = low_count (waiting_code p) k.count e
    go false e q = cc

pub restored_kept : (g : GameLists) (p : Prompt) (waiting : Option Prompt) (k : Frames) → length k.rows ≡ MOST_FRAMES → frames_fault g p k ≡ None
    → machine_kept (machine_restored k waiting) ≡ k
restored_kept g p waiting k size h = kept_at g (waiting_code p) waiting k size h
