use Rattle.std.proofs.Common.{arith, ◌+◌, ◌*◌, ◌/◌, ℕ, List, ap, ◌∙◌, subst, []}
use Rattle.std.proofs.lemmas.List.{get_or_default}
use Rattle.paw_world.specs.inner.ObjectSet.{IsLeastFrom}
use Rattle.paw_world.specs.inner.Places.{least_at}
use Rattle.paw_world.proofs.Least.{least_of_set, left_of_all, left_of_some}
use Rattle.paw_world.proofs.places.Places.first_at.Goals as goal
use Rattle.paw_world.proofs.places.Places.first_at.Goals.{in-None, in-Some}

pub returns : goal.returns
returns c =
    let Least : List ℕ → Type 0 = λ words. IsLeastFrom words c.match-above.from (64 * (c.self.inside.count / 64 + 1)) c.least_from.result in
    let read = get_or_default c.self.inside.sets c.args.p c.index-self-p.result [] (omega (arith, c.self.invariant.for_each)) in
    record {
      least = least_of_set c.self.inside.sets c.self.inside.count c.self.inside.places c.args.self.now c.self.invariant c.self.view_is
          c.args.p (omega arith) c.match-above.from (64 * (c.self.inside.count / 64 + 1)) c.least_from.result (omega arith) (subst Least read c.least_from.ensures.least)
          ∙ ap (least_at c.args.self.now c.args.p) (elim c.match-above.branch [
            | in-None w ↦ left_of_all c.args.self.now c.match-above.from c.args.above w.from-is w.in-None.is
            | in-Some w ↦ left_of_some c.args.self.now c.match-above.from w.in-Some.o c.args.above w.from-is w.in-Some.is
          ]);
    }
