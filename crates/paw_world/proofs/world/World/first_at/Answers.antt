use Rattle.std.proofs.Common.{◌≡◌, ap, ◌∙◌}
use Rattle.paw_world.specs.World.{World}
use Rattle.paw_world.specs.inner.World.{first_at}
use Rattle.paw_world.proofs.Contents.{found_known, found_stands, found_above}
use Rattle.paw_world.proofs.world.World.first_at.Goals as goal

value : (c : goal.After-first_at) → c.first_at.result ≡ first_at c.args.self.now c.args.p c.args.above
value c = c.first_at.ensures.least ∙ ap (λ (w : World). first_at w c.args.p c.args.above) c.self.view_is

pub returns-clause-bound : goal.returns-clause-bound
returns-clause-bound c = found_known c.args.self.now.places c.args.p c.args.above c.first_at.result (value c)

pub returns-clause-stands : goal.returns-clause-stands
returns-clause-stands c = found_stands c.args.self.now.places c.args.p c.args.above c.first_at.result (value c)

pub returns-clause-rises : goal.returns-clause-rises
returns-clause-rises c = found_above c.args.self.now.places c.args.p c.args.above c.first_at.result (value c)
