use Rattle.std.proofs.Common.{◌≡◌, subst, sym, ap, suc}
use Rattle.std.specs.Prelude.{IfOk, IfSome}
use Rattle.std.proofs.lemmas.Result.{IfOk-weaker}
use Rattle.std.proofs.lemmas.Option.{IfSome_then}
use Rattle.paw_stage.specs.Disk.{MayLeave}
use Rattle.paw_stage.specs.inner.Done.{right_after, first_calls}
use Rattle.paw_stage.specs.inner.Crash.{bytes_after_crash}
use Rattle.paw_stage.proofs.Disks.{crash_leaves}
use Rattle.paw_stage.proofs.memory.MemoryStage.crash_after.Goals as goal

pub returns-clause-among : goal.returns-clause-among
returns-clause-among c =
    let calls = c.self.inside.log.calls in
    let number = c.args.call in
    subst (λ ds. IfOk c.crash_after.result (λ left. IfSome left (λ v. MayLeave (right_after number ds).disk v.items)))
    (ap (λ m. m.log.calls) c.self.view_is)
    (IfOk-weaker c.crash_after.result (λ left. IfSome left (λ v. v.items ≡ bytes_after_crash (right_after number calls).disk c.args.pick))
    (λ left. IfSome left (λ v. MayLeave (right_after number calls).disk v.items))
    (λ left made. IfSome_then left {Q = λ v. MayLeave (right_after number calls).disk v.items} made
    (λ v is. subst (λ l. MayLeave (right_after number calls).disk l) (sym is) (crash_leaves (first_calls (suc number) calls) c.args.pick)))
    c.crash_after.ensures.made)
