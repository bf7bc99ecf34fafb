use Rattle.std.proofs.Common.{◌∙◌, sym}
use Rattle.paw_check.proofs.DecidingLaws.{too_many, too_long, in_bounds}
use Rattle.paw_check.proofs.deciding.bound_or_cause.Goals as goal

pub returns-then-condacts-gt-READ_LIMIT : goal.returns-then-condacts-gt-READ_LIMIT
returns-then-condacts-gt-READ_LIMIT c = record {
  value = c.nowhere.ensures.value
      ∙ sym (too_many c.args.parts.now c.args.levels c.in_ok-condacts.condacts c.in_ok-condacts.ensures.value c.if-condacts-gt-READ_LIMIT.true);
}

pub returns-then-text-gt-PIECE_LIMIT : goal.returns-then-text-gt-PIECE_LIMIT
returns-then-text-gt-PIECE_LIMIT c = record {
  value = c.nowhere-then-text-gt-PIECE_LIMIT.ensures.value
      ∙ sym (too_long c.args.parts.now c.args.levels c.in_ok-condacts.condacts c.in_ok-text.text c.in_ok-condacts.ensures.value
      c.if-condacts-gt-READ_LIMIT.false c.in_ok-text.ensures.value c.if-text-gt-PIECE_LIMIT.true);
}

pub returns : goal.returns
returns c = record {
  value = sym (in_bounds c.args.parts.now c.args.levels c.in_ok-condacts.condacts c.in_ok-text.text c.in_ok-condacts.ensures.value
      c.if-condacts-gt-READ_LIMIT.false c.in_ok-text.ensures.value c.if-text-gt-PIECE_LIMIT.false);
}
