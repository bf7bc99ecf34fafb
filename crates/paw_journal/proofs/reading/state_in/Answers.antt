use Rattle.std.proofs.Common.{refl}
use Rattle.std.specs.Prelude.{Some}
use Rattle.paw_journal.proofs.Slots.{too_many, few_changes, records_are, broken_many, broken_record, whole_slot}
use Rattle.paw_journal.proofs.Slots.{whole_state}
use Rattle.paw_journal.proofs.reading.state_in.Goals as goal

pub returns-then-count-gt-MOST_CHANGES-clause-broken : goal.returns-then-count-gt-MOST_CHANGES-clause-broken
returns-then-count-gt-MOST_CHANGES-clause-broken c =
    broken_many c.args.slot.now c.number_at-count.result c.number_at-count.ensures.value c.if-count-gt-MOST_CHANGES.true

pub returns-then-count-gt-MOST_CHANGES-clause-damaged : goal.returns-then-count-gt-MOST_CHANGES-clause-damaged
returns-then-count-gt-MOST_CHANGES-clause-damaged c digests =
    too_many digests c.args.slot.now c.number_at-count.result c.number_at-count.ensures.value
    c.if-count-gt-MOST_CHANGES.true

pub returns-in-Some-clause-broken : goal.returns-in-Some-clause-broken
returns-in-Some-clause-broken c = broken_record c.args.slot.now _ c.number_at-count.result c.in-Some.number
    c.number_at-count.ensures.value (records_are c.number_at-count.result c.args.slot.now _ refl)
    c.in-Some.ensures.unsound

pub returns-in-Some-clause-damaged : goal.returns-in-Some-clause-damaged
returns-in-Some-clause-damaged c digests =
    few_changes digests c.args.slot.now _ c.number_at-count.result (Some c.in-Some.number) c.number_at-count.ensures.value c.if-count-gt-MOST_CHANGES.false
    (records_are c.number_at-count.result c.args.slot.now _ refl) c.in-Some.ensures.unsound

pub returns-in-None-clause-whole : goal.returns-in-None-clause-whole
returns-in-None-clause-whole c =
    whole_slot c.args.slot.now _ c.number_at-count.result c.number_at-count.ensures.value
    c.if-count-gt-MOST_CHANGES.false (records_are c.number_at-count.result c.args.slot.now _ refl)
    c.in-None.ensures.unsound

pub returns-in-None-clause-value : goal.returns-in-None-clause-value
returns-in-None-clause-value c =
    whole_state c.args.slot.now _ _ _ c.number_at-count.result c.number_at-count.ensures.value
    (records_are c.number_at-count.result c.args.slot.now _ refl) c.copy_from_slice.ensures.after
    (c.in-None.ensures.applied refl)
