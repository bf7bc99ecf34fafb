use Rattle.std.proofs.Common.{arith}
use Rattle.paw_image.proofs.CursorLaws.{left_in, stands_in, stands_nowhere}
use Rattle.paw_image.proofs.view.View.condacts_from.Goals as goal

pub condacts_in-requires : goal.condacts_in-requires
condacts_in-requires c = record { milestones = rw (← c.self.view_is) at c.in-Some.ensures.milestones }

pub returns-in-Some : goal.returns-in-Some
returns-in-Some c =
    let read = rw c.self.view_is at c.condacts_in.ensures.value in
    record {
      value = stands_in c.args.self.now c.args.table c.args.entry c.args.at c.condacts_in.result.0 c.condacts_in.result.1 c.in-Some.offset
          c.in-Some.ensures.stands read;
      there = left_in c.args.self.now c.args.table c.args.entry c.args.at c.condacts_in.result.0 c.in-Some.offset c.in-Some.ensures.count
          (rw c.self.view_is at c.condacts_in.ensures.few);
    }

pub returns-in-None : goal.returns-in-None
returns-in-None c = record { value = stands_nowhere c.args.self.now c.args.table c.args.entry c.args.at 0 c.in-None.ensures.none; there = λ some. omega (arith, some) }
