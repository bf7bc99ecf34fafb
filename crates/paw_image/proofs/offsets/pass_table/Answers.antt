use Rattle.std.proofs.Common.{◌<◌, ℕ, get_or, arith}
use Rattle.paw_base.specs.declared.limits.TheConstants.{ENTRY_LIMIT}
use Rattle.paw_image.proofs.EndLaws.{within_end}
use Rattle.paw_image.proofs.offsets.pass_table.Goals as goal

pub returns-clause-marked : goal.returns-clause-marked
returns-clause-marked c = λ at.
    let all = c.args.all.now in
    let fits : (i : ℕ) → get_or all i 0 < 256 = λ i. omega (arith, c.type_inv.all i) in
    c.in_ok-entries.ensures.milestones
    (within_end all c.args.bytes.now c.in_ok-count.rest.now fits at 0 ENTRY_LIMIT c.in_ok-count.count c.in_ok-count.ensures.gives)
