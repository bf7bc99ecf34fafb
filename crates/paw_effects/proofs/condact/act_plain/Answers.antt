use Rattle.std.proofs.Common.{◌≡◌, false, subst, arith}
use Rattle.paw_effects.specs.Meanings.{meaning_of, is_test}
use Rattle.paw_base.proofs.Table.{code_within}
use Rattle.paw_effects.proofs.Carried.{plain_itself}
use Rattle.paw_effects.proofs.Meant.{acts_high}
use Rattle.paw_effects.proofs.Moves.{Alike-all_dropped, IsOf-alike}
use Rattle.paw_effects.proofs.condact.act_plain.Goals as goal

pub unreachable-requires : goal.unreachable-requires
unreachable-requires g c =
    let kind = subst (λ k. is_test (meaning_of k) ≡ false) (plain_itself c.args.c.code c.requires.code) c.requires.kind in
    let high = acts_high c.args.c.code c.requires.code kind in
    let within = code_within c.args.c.code c.requires.code in
    omega (arith, high, within)

pub returns-in-42-clause-game : goal.returns-in-42-clause-game
returns-in-42-clause-game g c =
    IsOf-alike _ c.args.world.now c.drop_all.new.world (Alike-all_dropped _ _ c.drop_all.ensures.value) c.requires.game

pub returns-in-42-clause-draws : goal.returns-in-42-clause-draws
returns-in-42-clause-draws g c =
    let same = (Alike-all_dropped c.args.world.now c.drop_all.new.world c.drop_all.ensures.value).draws in omega (arith, same)
