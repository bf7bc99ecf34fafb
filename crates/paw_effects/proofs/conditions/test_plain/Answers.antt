use Rattle.std.proofs.Common.{◌≡◌, true, subst, arith}
use Rattle.paw_effects.specs.Meanings.{meaning_of, is_test}
use Rattle.paw_effects.proofs.Carried.{plain_itself}
use Rattle.paw_effects.proofs.Meant.{tests_low}
use Rattle.paw_effects.proofs.conditions.test_plain.Goals as goal

pub unreachable-requires : goal.unreachable-requires
unreachable-requires g c =
    let kind = subst (λ k. is_test (meaning_of k) ≡ true) (plain_itself c.args.c.code c.requires.code) c.requires.kind in
    let low = tests_low c.args.c.code c.requires.code kind in omega (arith, low)
