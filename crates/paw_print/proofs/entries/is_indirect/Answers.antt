use Rattle.paw_print.proofs.Indirect.{is_indirect_from}
use Rattle.paw_print.proofs.entries.is_indirect.Goals as goal

pub returns : goal.returns
returns c =
    record { value = is_indirect_from c.args.condact.code c.requires.known }
