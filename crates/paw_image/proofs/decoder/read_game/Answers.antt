use Rattle.std.proofs.Common.{arith}
use Rattle.paw_image.proofs.ImageLaws.{fault_is_none, invalid_is_none, read_is_image}
use Rattle.paw_image.proofs.decoder.read_game.Goals as goal

pub returns-in-Ok-new-clause-found : goal.returns-in-Ok-new-clause-found
returns-in-Ok-new-clause-found c =
    read_is_image c.args.bytes.now c.in-Ok.parts c.in-Ok-new.game (λ i. omega (arith, c.type_inv.bytes i))
    c.requires.short c.in-Ok.ensures.gives c.in-Ok-new.ensures.game c.in-Ok-new.ensures.valid

pub returns-in-Err-clause-none : goal.returns-in-Err-clause-none
returns-in-Err-clause-none c = λ _. invalid_is_none c.args.bytes.now c.in-Ok.parts c.in-Ok.ensures.gives c.in-Err.ensures.refused

pub returns-in-Err-Fault-clause-none : goal.returns-in-Err-Fault-clause-none
returns-in-Err-Fault-clause-none c =
    λ _. fault_is_none c.args.bytes.now c.in-Err-Fault.field-0-0
    (rw c.in-Err-Fault.field-0-is at c.in-Err-Fault.ensures.gives)
