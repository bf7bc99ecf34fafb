use Rattle.std.proofs.Common.{◌≡◌, ◌<◌, ◌+◌, ◌++◌, [], length, refl, sym, ap, ◌∙◌, arith, subst, inl}
use Rattle.std.proofs.lemmas.List.{length-take, take-append-drop}
use Rattle.std.proofs.lemmas.Bool.Decides.{nat_tests}
use Rattle.paw_stage.specs.inner.Done.{call_of, end_done}
use Rattle.paw_stage.specs.inner.Memory.{Memory}
use Rattle.paw_stage.specs.inner.Log.{logged_in_spare_room}
use Rattle.paw_stage.specs.contracts.memory.MemoryStage.{the_view}
use Rattle.paw_stage.proofs.Time.{Passes_map}
use Rattle.paw_stage.proofs.Calls.{passed, passed_take}
use Rattle.paw_stage.proofs.memory.MemoryStageStage.ask.Goals.{then-self-len, else-self-len}
use Rattle.paw_stage.proofs.memory.MemoryStageStage.ask.Goals as goal

pub returns-in_default-clause-time : goal.returns-in_default-clause-time
returns-in_default-clause-time c = elim c.if-self-len.branch [
  | then-self-len w ↦ absurd (omega (arith, c.in_default.ensures.lookup.3, w.if-self-len.true, c.deref.ensures.len, c.len.ensures))
  | else-self-len w ↦
      let new = the_view (record { lines = c.self.inside.lines; next = c.self.inside.next; log = c.add.new.self; counts = c.self.inside.counts }) in
      let kept = subst (λ k. c.add.new.self ≡ logged_in_spare_room (call_of k [] []) c.self.inside.log) w.kind-is
      (c.if-not-add.ensures.kept refl) in
      Passes_map _ _ _ _ _ _ (passed c.args.self.now new c.self.inside.log end_done refl (ap (λ m. m.log) (sym c.self.view_is))
      kept (ap (λ m. m.taken) c.self.view_is) (ap (λ m. m.lines) c.self.view_is))
      (λ m e. inl e)
]

pub returns-clause-time : goal.returns-clause-time
returns-clause-time c = elim c.if-self-len.branch [
  | then-self-len w ↦
      let new = the_view (record { lines = c.self.inside.lines; next = c.self.inside.next + 1; log = c.add.new.self; counts = c.self.inside.counts }) in
      let items = c.self.inside.lines.items in
      let next = c.self.inside.next in
      let kept = subst (λ k. c.add.new.self ≡ logged_in_spare_room (call_of k [] []) c.self.inside.log) w.kind-is
      (c.if-not-add.ensures.kept refl) in
      let within : next < length items = omega (arith, w.if-self-len.true, ap length c.deref.ensures.value, c.deref.ensures.len, c.len.ensures) in
      passed_take c.args.self.now new c.self.inside.log (ap (λ m. m.log) (sym c.self.view_is)) kept
      (omega (arith, within, length-take (next + 1) items, length-take next items, ap (λ (m : Memory). length m.taken) c.self.view_is))
      (take-append-drop (next + 1) items ∙ sym (take-append-drop next items)
      ∙ ap (λ (m : Memory). m.taken ++ m.lines) c.self.view_is)
  | else-self-len w ↦ absurd
      (let h = c.in-Some.ensures.lookup.0 in let k = w.if-self-len.false in let l = c.len.ensures in let d = c.deref.ensures.len in
      grind (arith, nat_tests))
]
