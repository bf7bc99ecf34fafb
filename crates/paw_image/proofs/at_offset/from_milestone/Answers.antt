use Rattle.std.proofs.Common.{◌≡◌, ℕ, List, suc, ◌-◌, ◌/◌, drop, Ok, sym, ap, ◌∙◌, arith, get_or}
use Rattle.std.proofs.lemmas.Option.{get_or_from_slice_get, slice_get_within}
use Rattle.paw_base.specs.Bytes.{Bytes}
use Rattle.paw_image.specs.inner.Milestones.{milestones_of}
use Rattle.paw_image.specs.inner.Rows.{past_condact}
use Rattle.paw_image.proofs.CondactLaws.{each_none, milestone_of}
use Rattle.paw_image.proofs.at_offset.from_milestone.Goals as goal

pub returns-then-eights-eq0 : goal.returns-then-eights-eq0
returns-then-eights-eq0 c = record { value = rw c.if-eights-eq0.true (each_none past_condact c.args.condacts.now) }

pub bounds-milestones-eights : goal.bounds-milestones-eights
bounds-milestones-eights c =
    let milestones = milestones_of c.args.milestones.now c.args.entry in
    let before = c.args.at / 8 - 1 in
    let is : c.args.at / 8 ≡ suc before = omega (arith, c.if-eights-eq0.false) in
    let m = milestone_of milestones c.args.condacts.now c.args.count c.args.at before c.requires.milestones c.requires.within is in
    rw c.from_entry-milestones.ensures.value (slice_get_within milestones before m.0 m.1)

pub returns : goal.returns
returns c =
    let milestones = milestones_of c.args.milestones.now c.args.entry in
    let condacts = c.args.condacts.now in
    let before = c.args.at / 8 - 1 in
    let is : c.args.at / 8 ≡ suc before = omega (arith, c.if-eights-eq0.false) in
    let m = milestone_of milestones condacts c.args.count c.args.at before c.requires.milestones c.requires.within is in
    let kept = ap (λ (ms : List ℕ). drop (get_or ms before 0) condacts) c.from_entry-milestones.ensures.value in
    let there = ap (λ (n : ℕ). drop n condacts) (get_or_from_slice_get milestones before m.0 0 m.1) in
    record { value = m.2 ∙ ap (λ (l : Bytes). Ok l) (sym (c.from_offset.ensures.value ∙ (kept ∙ there))) }
