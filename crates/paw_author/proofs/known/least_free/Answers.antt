use Rattle.std.proofs.Common.{◌+◌, not, sym, ap, ◌∙◌}
use Rattle.paw_author.specs.Known.{is_in_use}
use Rattle.paw_author.proofs.FreeNumbers.{passes_on}
use Rattle.paw_author.proofs.known.least_free.Goals as goal

pub loop-number-preserved : goal.loop-number-preserved
loop-number-preserved c =
    passes_on (λ n. not (is_in_use c.args.taken.now n)) c.loop-number.number (c.args.from + c.args.count) c.loop-number-test.true
    (ap not (sym c.is_in_use.ensures.value ∙ c.if-not-is_in_use.false)) ∙ c.loop-number.invariant
