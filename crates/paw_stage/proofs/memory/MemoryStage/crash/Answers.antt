use Rattle.std.proofs.Common.{◌≡◌, subst, sym, ap}
use Rattle.std.specs.Prelude.{IsSome, IfOk}
use Rattle.std.proofs.lemmas.Result.{IfOk-weaker}
use Rattle.paw_stage.specs.Disk.{MayLeave}
use Rattle.paw_stage.specs.inner.Done.{fresh, after}
use Rattle.paw_stage.specs.inner.Crash.{bytes_after_crash}
use Rattle.paw_stage.proofs.Disks.{crash_leaves}
use Rattle.paw_stage.proofs.memory.MemoryStage.crash.Goals as goal

pub returns-clause-among : goal.returns-clause-among
returns-clause-among c =
    let calls = c.self.inside.log.calls in
    subst (λ ds. IsSome (after fresh ds).attached → IfOk c.crash.result (λ v. MayLeave (after fresh ds).disk v.items))
    (ap (λ m. m.log.calls) c.self.view_is) (λ attached.
    IfOk-weaker c.crash.result (λ v. v.items ≡ bytes_after_crash (after fresh calls).disk c.args.pick)
    (λ v. MayLeave (after fresh calls).disk v.items)
    (λ v is. subst (λ l. MayLeave (after fresh calls).disk l) (sym is) (crash_leaves calls c.args.pick))
    (c.crash.ensures.made attached))
