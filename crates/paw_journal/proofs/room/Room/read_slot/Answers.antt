use Rattle.std.proofs.Common.{◌≡◌, ◌∙◌}
use Rattle.std.specs.Vec.{vec_len}
use Rattle.std.proofs.lemmas.Result.{on_ok_weaker}
use Rattle.paw_journal.specs.Session.{slot_length}
use Rattle.paw_journal.proofs.Chooses.{slot_small}
use Rattle.paw_journal.proofs.Slots.{read_slot}
use Rattle.paw_journal.proofs.room.Room.read_slot.Goals as goal

pub returns-clause-read : goal.returns-clause-read
returns-clause-read g c tells =
    let whole : vec_len c.resize.new.self ≡ slot_length = rw c.unwrap.ensures at c.resize.ensures.len in
    on_ok_weaker c.read.result
    (read_slot _ c.start.result _ _ c.read.new.into _ _ (slot_small c.args.which) c.start.ensures.value whole
    (c.as_mut_slice.ensures.len ∙ whole) (c.requires.whole tells))
    (c.read.ensures.read tells)
