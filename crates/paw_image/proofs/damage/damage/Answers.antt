use Rattle.std.proofs.Common.{arith}
use Rattle.paw_image.proofs.WholeLaws.{whole_is_image}
use Rattle.paw_image.proofs.damage.damage.Goals as goal

pub unreachable-requires : goal.unreachable-requires
unreachable-requires c =
    let image = whole_is_image c.args.bytes.now (λ i. omega (arith, c.type_inv.bytes i)) c.in-Ok.ensures.whole in
    c.requires.none image.0 image.1
