use Rattle.std.proofs.Common.{sym, ap, ◌∙◌, ◌-◌, ◌++◌, take}
use Rattle.paw_journal.specs.Session.{is_current, form_length, slot_version, base_length, zeros}
use Rattle.paw_journal.proofs.Slots.{taken_shows, brought_shows, brought_kept}
use Rattle.paw_journal.proofs.room.Room.take_slot.Goals as goal

pub returns-then-is_current-clause-shown : goal.returns-then-is_current-clause-shown
returns-then-is_current-clause-shown c digests =
    let current = ap is_current (sym c.slot.ensures.value) ∙ (sym c.is_current.ensures.value ∙ c.if-is_current.true) in
    taken_shows c.args.which c.args.kept c.args.self.now c.show.new.self c.keep.new.self c.requires.whole
    c.requires.sound c.requires.taken digests current c.show.ensures.value c.keep.ensures.value

pub returns-else-is_current-clause-shown : goal.returns-else-is_current-clause-shown
returns-else-is_current-clause-shown c digests =
    let brought = c.brought_up-state.ensures.value
    ∙ ap (λ l. take (form_length (slot_version l)) c.args.kept.state ++ zeros (base_length - form_length (slot_version l)))
    c.slot-else-is_current.ensures.value in
    brought_shows c.args.which c.args.kept c.args.self.now c.show-else-is_current.new.self
    c.keep-else-is_current.new.self c.requires.whole c.requires.sound c.requires.taken digests c.brought_up-state.result brought
    c.show-else-is_current.ensures.value c.keep-else-is_current.ensures.value

pub returns-else-is_current-clause-kept : goal.returns-else-is_current-clause-kept
returns-else-is_current-clause-kept c =
    let older = ap is_current (sym c.slot.ensures.value) ∙ (sym c.is_current.ensures.value ∙ c.if-is_current.false) in
    brought_kept c.args.which c.args.kept c.args.self.now c.show-else-is_current.new.self
    c.keep-else-is_current.new.self c.requires.whole c.requires.sound c.requires.taken c.brought_up-state.result older
    c.show-else-is_current.ensures.value c.keep-else-is_current.ensures.value
