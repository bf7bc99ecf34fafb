use Rattle.std.proofs.Common.{refl, rules}
use Rattle.std.specs.Prelude.{count_by}
use Rattle.paw_check.specs.Calls.{is_call_of}
use Rattle.paw_check.proofs.Rows.{holds_none, every_more}
use Rattle.paw_check.proofs.sums.every_calls.Goals as goal

pub loop-entry-init : goal.loop-entry-init
loop-entry-init c = holds_none _ (λ u. refl)

pub loop-entry-preserved : goal.loop-entry-preserved
loop-entry-preserved c =
    every_more c.args.changing (λ u. count_by (is_call_of u)) c.args.entries.now c.loop-entry.entry-index c.entry-item.result _
    c.loop-entry-test.true (search rules) (c.count_every.ensures.value _ c.loop-entry.invariant)
