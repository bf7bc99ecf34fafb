use Rattle.paw_image.proofs.HereLaws.{parameter_is, parameter_there}
use Rattle.paw_image.proofs.at_offset.parameter_in.Goals as goal

pub byte_from-requires : goal.byte_from-requires
byte_from-requires c = record { there = parameter_there c.args.kind c.args.offset c.args.bytes.now c.in_default.not-Absent c.requires.there }

pub returns-in_default : goal.returns-in_default
returns-in_default c =
    let byte = c.byte_from in
    record { value = rw byte.ensures.next (parameter_is c.args.kind c.args.offset c.args.bytes.now byte.result.0 c.in_default.not-Absent byte.ensures.value) }
