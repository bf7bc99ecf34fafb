use Rattle.std.proofs.Common.{◌∙◌, sym, ap, arith}
use Rattle.paw_stage.specs.Disk.{stable}
use Rattle.paw_stage.specs.Stage.{Standing}
use Rattle.paw_journal.proofs.Calls.{writes_failed, writes_then}
use Rattle.paw_journal.proofs.Makes.{appends, appends_twice, blank_now, in_blank_sync}
use Rattle.paw_journal.proofs.making.write_slots.Goals as goal

pub returns-in_err-write : goal.returns-in_err-write
returns-in_err-write g c = record {
  call = writes_failed c.from_residual.ensures.1
      (appends _ _ c.in_err-write.ensures.call (omega (arith, c.start.ensures.value)) c.requires.blank
      (λ tells. c.start.ensures.value ∙ sym (c.requires.header tells))) (λ tells m i. i);
}

pub returns-in_err-write-2 : goal.returns-in_err-write-2
returns-in_err-write-2 g c = record {
  call = writes_failed c.from_residual-in_err-write-2.ensures.1
      (appends_twice _ _ _ c.in_ok-write.ensures.call c.in_err-write-2.ensures.call (omega (arith, c.start.ensures.value))
      c.requires.blank (λ tells. c.start.ensures.value ∙ sym (c.requires.header tells))
      (omega (arith, c.start.ensures.value, c.start-2.ensures.value, c.requires.slot))) (λ tells m i. i);
}

pub returns : goal.returns
returns g c = record {
  call = writes_then
      (appends_twice _ _ _ c.in_ok-write.ensures.call c.in_ok-write-2.ensures.call (omega (arith, c.start.ensures.value))
      c.requires.blank (λ tells. c.start.ensures.value ∙ sym (c.requires.header tells))
      (omega (arith, c.start.ensures.value, c.start-2.ensures.value, c.requires.slot)))
      c.sync.ensures.call (λ tells p synced. ap (λ (s : Standing). s.disk) synced ∙ ap stable p.bytes)
      (λ tells m i. i) (λ tells p beside m. in_blank_sync _ _ m beside (blank_now _ _ p));
}
