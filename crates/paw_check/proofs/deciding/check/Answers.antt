use Rattle.std.proofs.Common.{◌≡◌, ◌∙◌, sym, ap}
use Rattle.paw_game.specs.Game.{GameLists}
use Rattle.paw_check.specs.Verdicts.{bounds}
use Rattle.paw_check.specs.declared.spots.Sought.TheVariants as sought
use Rattle.paw_check.specs.inner.Verdicts.{bound_or_cause}
use Rattle.paw_check.proofs.DecidingLaws.{bounds_calls, bounds_described, bounds_counted, found_in, any_found}
use Rattle.paw_check.proofs.deciding.check.Goals as goal

pub returns-in-Some : goal.returns-in-Some
returns-in-Some c =
    let g = c.parts-parts.result.now in
    let tables = c.as_slice-tables.ensures.value ∙ ap (λ (h : GameLists). h.tables) c.parts.view_is in
    let deep = found_in g sought.Call _ _ _ _ c.in-Some.ensures.value tables (c.as_slice.ensures.value ∙ c.in_ok-reached.ensures.deepest) in
    record { value = sym (bounds_calls g c.in-Some.table c.in-Some.entry deep) ∙ ap bounds c.parts-parts.ensures.value }

pub returns-in-Some-spot : goal.returns-in-Some-spot
returns-in-Some-spot c =
    let g = c.parts-parts.result.now in
    let tables = c.as_slice-tables.ensures.value ∙ ap (λ (h : GameLists). h.tables) c.parts.view_is in
    let deep = found_in g sought.Call _ _ _ _ c.in_default.ensures.value tables (c.as_slice.ensures.value ∙ c.in_ok-reached.ensures.deepest) in
    let round = found_in g sought.Description _ _ _ _ c.in-Some-spot.ensures.value tables (c.as_slice-2.ensures.value ∙ c.in_ok-described.ensures.all) in
    record { value = sym (bounds_described g c.in-Some-spot.table c.in-Some-spot.entry deep round) ∙ ap bounds c.parts-parts.ensures.value }

pub bound_or_cause-requires-clause-changing : goal.bound_or_cause-requires-clause-changing
bound_or_cause-requires-clause-changing c =
    let tables = c.as_slice-tables.ensures.value ∙ ap (λ (h : GameLists). h.tables) c.parts.view_is in
    any_found c.parts-parts.result.now sought.VerbWriter _ _ _ c.is_in-changing.result c.is_in-changing.ensures.value tables
    (c.as_slice-3.ensures.value ∙ c.in_ok-reached.ensures.all)

pub returns : goal.returns
returns c =
    let g = c.parts-parts.result.now in
    let tables = c.as_slice-tables.ensures.value ∙ ap (λ (h : GameLists). h.tables) c.parts.view_is in
    let deep = found_in g sought.Call _ _ _ _ c.in_default.ensures.value tables (c.as_slice.ensures.value ∙ c.in_ok-reached.ensures.deepest) in
    let round = found_in g sought.Description _ _ _ _ c.in_default-spot.ensures.value tables (c.as_slice-2.ensures.value ∙ c.in_ok-described.ensures.all) in
    let same : bound_or_cause g c.in_ok-reached.reached.levels ≡ bounds c.args.game.now =
    ap (bound_or_cause g) c.in_ok-reached.ensures.levels ∙ sym (bounds_counted g deep round) ∙ ap bounds c.parts-parts.ensures.value in
    record { value = rw (sym same) c.bound_or_cause.ensures.value }
