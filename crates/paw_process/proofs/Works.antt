-- The measure of reading.
use Rattle.std.proofs.Common.{◌≡◌, suc, ◌+◌, ◌-◌, ◌*◌, ◌≤◌, ◌<◌, List, [], ◌∷◌, Option, Some, None, refl, ◌∙◌, length}
use Rattle.std.proofs.Common.{arith}
use Rattle.paw_base.specs.declared.limits.TheConstants.{ENTRY_LIMIT}
use Rattle.paw_reading.specs.declared.frames.Frame.{Frame}
use Rattle.paw_reading.specs.declared.frames.OpenLoop.{OpenLoop}
use Rattle.paw_process.specs.inner.OpenTables.{OpenTables}
use Rattle.paw_process.specs.inner.OpenTables.{below, IsReading}
use Rattle.paw_process.specs.inner.AfterCondact.{with_frame}
use Rattle.paw_process.specs.inner.Work.{frames_work, loop_work, machine_work, Progress, counts, falls}
use Rattle.paw_process.specs.inner.Work.{IsNoFurther, counted, stays}

-- The open loop takes a later object.
pub taking_falls : (old new : OpenTables) (f : Frame) (l l' : OpenLoop) → old.turning ≡ Some l
    → new.frames ≡ f ∷ below old.frames → new.turning ≡ Some l' → l.last < l'.last → l'.last < 256
    → machine_work new ≤ frames_work (below old.frames) + loop_work old.turning
taking_falls old new f l l' is ef et later low =
    let a : machine_work new ≡ (suc ENTRY_LIMIT - f.entry) + 1 + frames_work (below old.frames) + (256 - l'.last) * 5000 = rw (ef, et) refl in
    let b : loop_work old.turning ≡ (256 - l.last) * 5000 = rw is refl in
    omega arith

frames_bound : (fs : List Frame) → frames_work fs ≤ 4002 * length fs
frames_bound [] = omega arith
frames_bound (f ∷ fs) = omega (arith, frames_bound fs)

loop_bound : (o : Option OpenLoop) → loop_work o ≤ 1280000
loop_bound None = omega arith
loop_bound (Some l) = omega arith

-- Each step takes from the budget, or leaves less to do.
pub progresses : (old new : OpenTables) → IsReading new → Progress old new → new.left * 134217728 + machine_work new < old.left * 134217728 + machine_work old
progresses old new h (counts e) = omega (arith, frames_bound new.frames, loop_bound new.turning, h.tables.depth)
progresses old new h (falls e low) = omega arith

-- The entry that matches next leaves no more to do.
match_work : (fs : List Frame) (f f' : Frame) → f.entry ≤ f'.entry → frames_work (f' ∷ fs) ≤ frames_work (f ∷ fs)
match_work fs f f' low = omega arith

pub match_no_further : (m : OpenTables) (f f' : Frame) → f.entry ≤ f'.entry → IsNoFurther (with_frame f m) (with_frame f' m)
match_no_further m f f' low = stays refl (omega (arith, match_work (below m.frames) f f' low))

-- No further, and then on.
pub progress_on : (first now new : OpenTables) → IsNoFurther first now → Progress now new → Progress first new
progress_on first now new (counted e) (counts k) = counts (omega arith)
progress_on first now new (counted e) (falls k less) = counts (omega arith)
progress_on first now new (stays e low) (counts k) = counts (omega arith)
progress_on first now new (stays e low) (falls k less) = falls (k ∙ e) (omega arith)

pub no_further : (old new : OpenTables) → Progress old new → IsNoFurther old new
no_further old new (counts k) = counted k
no_further old new (falls k less) = stays k (omega arith)

pub no_further_on : (first now new : OpenTables) → IsNoFurther first now → IsNoFurther now new → IsNoFurther first new
no_further_on first now new (counted e) (counted k) = counted (omega arith)
no_further_on first now new (counted e) (stays k less) = counted (omega arith)
no_further_on first now new (stays e low) (counted k) = counted (omega arith)
no_further_on first now new (stays e low) (stays k less) = stays (k ∙ e) (omega arith)
