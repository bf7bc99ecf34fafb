use Rattle.std.proofs.Common.{◌≡◌, ◌∷◌, ◌++◌, [], true, false, refl, subst, sym, ◌∙◌}
use Rattle.std.specs.Prelude.{Some, slice_range}
use Rattle.std.proofs.lemmas.Slice.Eq.{bytes_eq-Decides}
use Rattle.paw_stage.specs.inner.Log.{done_in}
use Rattle.paw_stage.specs.inner.Seen.{FindsStore}
use Rattle.paw_stage.proofs.Stores.{saved_here, saved_other}
use Rattle.paw_stage.proofs.replay.store_filed.Goals as goal

pub returns-then-eq : goal.returns-then-eq
returns-then-eq c = record {
  found = λ ds count h w.
      let room = c.args.room.now in
      let call = c.args.call in
      let s = c.in-Some.s in
      let found : FindsStore room ds (Some s) = subst (λ o. FindsStore room ds o) c.in-Some.is h in
      let same : slice_range room call.from call.mid ≡ slice_range room s.opened.from s.opened.mid =
      sym c.slice_of.ensures.value ∙ ((bytes_eq-Decides c.slice_of.result.now c.name_of.result.now).0 (sym c.if-eq.ensures)
      ∙ c.name_of.ensures.value) in
      subst (λ o. FindsStore room (ds ++ done_in room call ∷ []) o) (sym (c.store_synced.ensures.some s refl)) (
        found.0,
        saved_here ds call.kind (slice_range room call.from call.mid)
            (slice_range room s.opened.from s.opened.mid) (slice_range room call.mid call.to) s.synced c.args.done same count w
            found.1,
      );
}

pub returns-else-eq : goal.returns-else-eq
returns-else-eq c = record {
  found = λ ds count h w.
      let room = c.args.room.now in
      let call = c.args.call in
      let s = c.in-Some.s in
      let found : FindsStore room ds (Some s) = subst (λ o. FindsStore room ds o) c.in-Some.is h in (
        found.0,
        saved_other ds call.kind (slice_range room s.opened.from s.opened.mid)
            (slice_range room call.from call.mid) (slice_range room call.mid call.to) s.synced w
            (λ e. let f : false ≡ true = c.if-eq.ensures
            ∙ (bytes_eq-Decides c.slice_of.result.now c.name_of.result.now).1 (c.slice_of.ensures.value ∙ (e
            ∙ sym c.name_of.ensures.value)) in cc)
            found.1,
      );
}
