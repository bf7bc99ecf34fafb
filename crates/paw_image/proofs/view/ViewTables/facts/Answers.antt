use Rattle.std.proofs.Common.{◌≤◌, IsTrue, length, sym, ◌∙◌}
use Rattle.paw_base.specs.declared.limits.TheConstants.{WEIGHT_LIMIT}
use Rattle.paw_base.specs.declared.parts.ObjectFacts.{ObjectFacts}
use Rattle.paw_game.specs.Valid.{is_place}
use Rattle.paw_game.proofs.ValidGames.{IfSome-from, facts-start, facts-weight}
use Rattle.paw_image.specs.inner.Views.{game_read}
use Rattle.paw_image.proofs.RowStartLaws.{facts_there, no_facts}
use Rattle.paw_image.proofs.ViewLaws.{fits_of, lists_of}
use Rattle.paw_image.proofs.view.ViewTables.facts.Goals as goal

pub returns-in_err-offset-clause-value : goal.returns-in_err-offset-clause-value
returns-in_err-offset-clause-value c = c.from_residual.ensures ∙ sym (no_facts (game_read c.args.self.now) c.args.object (sym c.in_err-offset.ensures.value))

pub returns : goal.returns
returns c =
    let bytes = c.args.self.now in
    let g = game_read bytes in
    let image = rw c.self.view_is at c.self.invariant.image in
    let read = rw c.self.view_is at c.facts_in.ensures.value in
    let offset = sym c.in_ok-offset.ensures.value in
    let is = read ∙ facts_there bytes g (lists_of bytes image) (fits_of bytes image) c.args.object c.in_ok-offset.offset offset in
    record {
      value = is;
      weight = IfSome-from (λ (f : ObjectFacts). f.weight ≤ WEIGHT_LIMIT) c.facts_in.result _ is
          (facts-weight g image.valid c.args.object);
      start = IfSome-from (λ (f : ObjectFacts). IsTrue (is_place (length g.locations) f.start)) c.facts_in.result _ is
          (facts-start g image.valid c.args.object);
    }
