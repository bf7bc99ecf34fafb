use Rattle.std.proofs.Common.{◌+◌, arith}
use Rattle.paw_image.proofs.TextLaws.{from_there, length_there, text_is, text_there}
use Rattle.paw_image.proofs.at_offset.text_in.Goals as goal

pub prove-unreachable-requires : goal.prove-unreachable-requires
prove-unreachable-requires c =
    let long = length_there c.args.offset c.args.bytes.now c.requires.there in
    omega (arith, long, c.if-prove.true)

pub prove-unreachable-requires-2 : goal.prove-unreachable-requires-2
prove-unreachable-requires-2 c =
    let bytes = c.args.bytes.now in
    let long = length_there c.args.offset bytes c.requires.there in
    let fits = text_there c.args.offset bytes long _ _ c.from_le_bytes-length.ensures (from_there (c.args.offset + 2) bytes) c.requires.there in
    omega (arith, fits, c.if-prove-2.true)

pub returns : goal.returns
returns c =
    let bytes = c.args.bytes.now in
    let long = length_there c.args.offset bytes c.requires.there in
    let rest = from_there (c.args.offset + 2) bytes in
    let is = c.from_le_bytes-length.ensures in
    record { value = text_is c.args.offset bytes long _ _ is rest (text_there c.args.offset bytes long _ _ is rest c.requires.there) }
