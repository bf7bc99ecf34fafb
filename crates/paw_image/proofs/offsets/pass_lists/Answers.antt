use Rattle.std.proofs.Common.{◌<◌, ℕ, get_or, arith}
use Rattle.paw_image.proofs.EndLaws.{texts_end, objects_end, exits_end}
use Rattle.paw_image.proofs.offsets.pass_lists.Goals as goal

pub returns-clause-marked : goal.returns-clause-marked
returns-clause-marked c = λ at.
    let all = c.args.all.now in
    let d = c.args.rules.now in
    let lengths = c.lengths-lengths.result in
    let fits : (i : ℕ) → get_or all i 0 < 256 = λ i. omega (arith, c.type_inv.all i) in
    let messages_at = c.in_ok-system.rest.now in
    let objects_at = c.in_ok-messages.rest.now in
    let locations_at = c.in_ok-objects.rest.now in
    let exits_at = c.in_ok-locations.rest.now in
    let messages = texts_end all c.args.bytes.now messages_at fits at lengths.system c.in_ok-system.ensures.gives in
    let objects = texts_end all messages_at objects_at fits messages lengths.messages c.in_ok-messages.ensures.gives in
    let locations = objects_end all objects_at locations_at fits objects d lengths.objects c.in_ok-objects.ensures.gives in
    let exits = texts_end all locations_at exits_at fits locations lengths.locations c.in_ok-locations.ensures.gives in
    c.in_ok-tables.ensures.marked (exits_end all exits_at c.in_ok-exits.rest.now fits exits d lengths.locations c.in_ok-exits.ensures.gives)
