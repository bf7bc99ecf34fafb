use Rattle.std.proofs.Common.{arith, ◌<◌, ◌∙◌, ap, set}
use Rattle.std.proofs.Math.Seq.{take-set-lt}
use Rattle.paw_world.proofs.Listed.{count_is}
use Rattle.paw_world.proofs.Sets.{relocated_at}
use Rattle.paw_world.proofs.places.Places.set_place.Goals as goal

pub invariant_of-self : goal.invariant_of-self
invariant_of-self c =
    relocated_at c.self.inside.sets c.self.inside.count c.self.inside.places c.args.o c.args.p c.index-self-old.result c.index-self-p.result c.remove.new.self
    c.insert.new.self c.self.invariant (omega arith) (omega arith)
    (omega (
      arith,
      count_is c.self.inside.count c.self.inside.places c.args.self.now c.self.view_is
          (omega (arith, c.self.invariant.few, c.self.invariant.room)),
    ))
    c.remove.ensures.removes c.insert.ensures.inserts

pub returns : goal.returns
returns c =
    let less : c.args.o < c.self.inside.count = (omega (
      arith,
      count_is c.self.inside.count c.self.inside.places c.args.self.now
          c.self.view_is (omega (arith, c.self.invariant.few, c.self.invariant.room)),
    )) in
    record {
      sets = take-set-lt c.self.inside.count c.self.inside.places c.args.o c.args.p less
          ∙ ap (λ l. set l c.args.o c.args.p) c.self.view_is;
    }
