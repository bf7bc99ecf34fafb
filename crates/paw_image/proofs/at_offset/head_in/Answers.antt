use Rattle.std.proofs.Common.{◌+◌, get_or, arith}
use Rattle.std.proofs.lemmas.Option.{slice_get_past, slice_get-get_or}
use Rattle.paw_image.proofs.HereLaws.{head_is, no_head}
use Rattle.paw_image.proofs.at_offset.head_in.Goals as goal

pub prove-unreachable-requires : goal.prove-unreachable-requires
prove-unreachable-requires c =
    c.requires.there (no_head c.args.offset c.args.bytes.now (slice_get_past c.args.bytes.now (c.args.offset + 2) c.if-prove.true))

pub returns : goal.returns
returns c =
    let bytes = c.args.bytes.now in
    let count = slice_get-get_or bytes (c.args.offset + 2) 0 (omega (arith, c.if-prove.false)) in
    record { value = head_is c.args.offset bytes (get_or bytes (c.args.offset + 2) 0) count }
