use Rattle.std.proofs.Common.{drop, length}
use Rattle.paw_image.proofs.CondactLaws.{milestones_of_entry, on_ok_then}
use Rattle.paw_image.proofs.milestones.pass_entry.Goals as goal

pub returns-clause-milestones : goal.returns-clause-milestones
returns-clause-milestones c =
    let milestones = drop (length c.args.milestones.now.items) c.pass_condacts.new.milestones.items in
    on_ok_then c.pass_condacts.result
    (λ h. milestones_of_entry milestones c.args.bytes.now c.in_ok-verb.nouns.now c.in_ok-noun.counts.now c.in_ok-count.rest.now
    c.in_ok-verb.verb c.in_ok-noun.noun
    c.in_ok-count.count c.in_ok-verb.ensures.gives c.in_ok-noun.ensures.gives c.in_ok-count.ensures.gives h)
    c.pass_condacts.ensures.milestones
