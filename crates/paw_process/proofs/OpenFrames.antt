-- The frames of the machine, as a list with the innermost first.
use Rattle.std.proofs.Common.{◌≡◌, ℕ, zero, suc, ◌-◌, ◌≤◌, ◌<◌, false, List, [], ◌∷◌, ◌++◌, Option, length}
use Rattle.std.proofs.Common.{take, drop, replicate, reverse, slice_set, refl, ap, ◌∙◌, subst, arith}
use Rattle.std.specs.Option.{option_map}
use Rattle.std.proofs.lemmas.List.{reverse-append, reverse-reverse, length-take}
use Rattle.std.proofs.Math.Seq.{take-suc, take-suc-set}
use Rattle.paw_base.specs.inner.Steps.{KeptSteps}
use Rattle.paw_effects.specs.declared.act.Prompt.{Prompt}
use Rattle.paw_reading.specs.declared.frames.Frame.{Frame}
use Rattle.paw_reading.specs.declared.frames.OpenLoop.{OpenLoop}
use Rattle.paw_process.specs.declared.machine.TheConstants.{MOST_FRAMES}
use Rattle.paw_process.specs.inner.Kept.{machine_kept, blank_frame}
use Rattle.paw_process.specs.inner.OpenTables.{OpenTables}
use Rattle.paw_process.specs.inner.OpenTables.{below}

-- The table of a frame that may be there.
abbrev pub table_of : Option Frame → Option ℕ
table_of o = option_map (λ f. f.table) o

-- What the machine's parts are seen as.
abbrev pub seen : List Frame → ℕ → Option OpenLoop → Option Prompt → ℕ → KeptSteps → OpenTables
seen rows n turning waiting left steps = record { frames = reverse (take n rows); turning = turning; waiting = waiting; left = left; steps = steps }

pop_frames : (rows : List Frame) (n : ℕ) → 0 < length (reverse (take n rows)) → n ≤ length rows → reverse (take (n - 1) rows) ≡ below (reverse (take n rows))
pop_frames rows zero h low = absurd (omega arith)
pop_frames rows (suc n) h low =
    let e : suc n - 1 ≡ n = omega arith in
    let x : Frame = record { table = 0; entry = 0; at = 0; acted = false } in
    let q : take (suc n) rows ≡ take n rows ++ _ = take-suc rows n x (omega arith) in
    rw (e, q, reverse-append (take n rows) _) refl

top_frames : (rows : List Frame) (n : ℕ) (f : Frame) → 0 < length (reverse (take n rows)) → n ≤ length rows
    → reverse (take n (slice_set rows (n - 1) f)) ≡ f ∷ below (reverse (take n rows))
top_frames rows zero f h low = absurd (omega arith)
top_frames rows (suc n) f h low =
    let e : suc n - 1 ≡ n = omega arith in
    let q : reverse (take (suc n) (slice_set rows n f)) ≡ f ∷ reverse (take n rows) =
    ap (λ (s : List Frame). reverse s) (take-suc-set rows n f (omega arith)) ∙ reverse-append (take n rows) (f ∷ []) in
    rw e (q ∙ ap (λ (s : List Frame). f ∷ s) (rw e at (pop_frames rows (suc n) h low)))

pub popped : (v : OpenTables) (rows : List Frame) (n : ℕ) (turning : Option OpenLoop) (waiting : Option Prompt) (left : ℕ) (steps : KeptSteps)
    → seen rows n turning waiting left steps ≡ v → 0 < length v.frames → n ≤ length rows
    → seen rows (n - 1) turning waiting left steps ≡ record v { frames = below v.frames }
popped v rows n turning waiting left steps e h low =
    subst (λ (u : OpenTables). 0 < length u.frames → seen rows (n - 1) turning waiting left steps ≡ record u { frames = below u.frames }) e
    (λ k. ap (λ (s : List Frame). record { frames = s; turning = turning; waiting = waiting; left = left; steps = steps }) (pop_frames rows n k low)) h

pub topped : (v : OpenTables) (rows : List Frame) (n : ℕ) (f : Frame)
    (turning : Option OpenLoop) (waiting : Option Prompt) (left : ℕ) (steps : KeptSteps)
    → seen rows n turning waiting left steps ≡ v → 0 < length v.frames → n ≤ length rows
    → seen (slice_set rows (n - 1) f) n turning waiting left steps ≡ record v { frames = f ∷ below v.frames }
topped v rows n f turning waiting left steps e h low =
    subst (λ (u : OpenTables). 0 < length u.frames → seen (slice_set rows (n - 1) f) n turning waiting left steps ≡ record u { frames = f ∷ below u.frames }) e
    (λ k. ap (λ (s : List Frame). record { frames = s; turning = turning; waiting = waiting; left = left; steps = steps }) (top_frames rows n f k low)) h

drop_replicate : (n m : ℕ) (f : Frame) → n ≤ m → drop n (replicate m f) ≡ replicate (m - n) f
drop_replicate zero m f low = let e : m - 0 ≡ m = omega arith in rw e refl
drop_replicate (suc n) zero f low = absurd (omega arith)
drop_replicate (suc n) (suc m) f low = let e : suc m - suc n ≡ m - n = omega arith in rw e (drop_replicate n m f (omega arith))

pub length_frames : (rows : List Frame) (n : ℕ) → n ≤ length rows → length (take n rows) ≡ n
length_frames rows n low = omega (arith, length-take n rows)

pub kept_frames : (v : OpenTables) (rows copied : List Frame) (n : ℕ)
    (turning : Option OpenLoop) (waiting : Option Prompt) (left : ℕ) (steps : KeptSteps)
    → seen rows n turning waiting left steps ≡ v → copied ≡ take n rows → n ≤ MOST_FRAMES → length rows ≡ MOST_FRAMES
    → record { count = n; rows = copied ++ drop n (replicate MOST_FRAMES blank_frame); turning = turning } ≡ machine_kept v
kept_frames v rows copied n turning waiting left steps e c low size =
    rw (← e, c, reverse-reverse (take n rows), length_frames rows n (omega arith), drop_replicate n MOST_FRAMES blank_frame low) refl
