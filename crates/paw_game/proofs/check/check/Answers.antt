use Rattle.std.proofs.Common.{◌≤◌, ◌∙◌, length, arith, sym, ap}
use Rattle.paw_base.specs.Bytes.{Texts}
use Rattle.paw_base.specs.declared.limits.TheConstants.{LOCATION_LIMIT}
use Rattle.paw_game.specs.Game.{GameLists}
use Rattle.paw_game.specs.declared.parts.GamePart.TheVariants as part
use Rattle.paw_game.specs.inner.Fault.{fault_in}
use Rattle.paw_game.proofs.Faults.{few_locations}
use Rattle.paw_game.proofs.check.check.Goals as goal

pub exits_fault-requires : goal.exits_fault-requires
exits_fault-requires c =
    let few : length c.as_slice-3.result.now ≤ LOCATION_LIMIT =
    few_locations _ (ap (fault_in part.Locations) (sym c.texts_fault-locations.ensures.value) ∙ sym c.in_ok-within-5.ensures.value) in
    let locations = λ (g : GameLists). length g.locations in
    record {
      locations = omega (
        arith,
        few,
        ap (λ (ts : Texts). length ts) c.as_slice-3.ensures.value,
        ap locations c.parts.view_is,
        ap locations c.new-inspector.ensures.value,
      );
    }
