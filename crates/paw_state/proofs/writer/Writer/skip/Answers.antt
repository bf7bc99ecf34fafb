use Rattle.std.proofs.Common.{◌+◌, ◌≤◌, length, ap, ◌∙◌, arith}
use Rattle.paw_state.specs.declared.fields.TheConstants.{STATE_ROOM}
use Rattle.paw_state.proofs.Written.{zeros_left, zeros_more, count_of}
use Rattle.paw_state.proofs.writer.Writer.skip.Goals as goal

pub invariant_of-self : goal.invariant_of-self
invariant_of-self c =
    let n = count_of c.self.inside.bytes c.args.self.now c.self.inside.count c.self.invariant.0 c.self.told c.self.view_is in
    let room : c.self.inside.count + c.args.count ≤ STATE_ROOM = omega (arith, n, c.requires.room) in
    (room, zeros_left c.self.inside.bytes c.self.inside.count c.args.count room c.self.invariant.1)

pub returns : goal.returns
returns c = record {
  writes =
      let n = count_of c.self.inside.bytes c.args.self.now c.self.inside.count c.self.invariant.0 c.self.told c.self.view_is in
      let room : c.self.inside.count + c.args.count ≤ STATE_ROOM = omega (arith, n, c.requires.room) in
      let e = zeros_more c.self.inside.bytes c.args.self.now c.self.inside.count c.args.count room c.self.told c.self.view_is c.self.invariant.1 in
      record { puts = e.puts; long = e.long };
}
