use Rattle.paw_state.proofs.Pieces.{bytes_each}
use Rattle.paw_state.proofs.writing.put_filled.Goals as goal

pub returns-clause-bytes : goal.returns-clause-bytes
returns-clause-bytes c = bytes_each c.args.bytes.now (λ i. (c.type_inv.bytes i).fits)
