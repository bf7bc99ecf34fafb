use Rattle.paw_journal.proofs.Slots.{brought_is}
use Rattle.paw_journal.proofs.reading.brought_up.Goals as goal

pub returns : goal.returns
returns c = record { value = brought_is _ c.form_length-length.result _ _ c.form_length-length.ensures.value c.copy_from_slice.ensures.after }
