use Rattle.std.proofs.Common.{◌+◌, ◌≤◌, length, ap, ◌∙◌, arith}
use Rattle.std.proofs.lemmas.List.{length-append}
use Rattle.paw_state.specs.declared.fields.TheConstants.{STATE_ROOM}
use Rattle.paw_state.proofs.Written.{zeros_behind, one_more, count_of}
use Rattle.paw_state.proofs.writer.Writer.put.Goals as goal

pub invariant_of-self : goal.invariant_of-self
invariant_of-self c =
    let n = count_of c.self.inside.bytes c.args.self.now c.self.inside.count c.self.invariant.0 c.self.told c.self.view_is in
    let room : c.self.inside.count + length c.args.field.now ≤ STATE_ROOM = omega (arith, n, c.requires.room) in
    (room, rw c.copy_from_slice.ensures.after (zeros_behind c.self.inside.bytes c.args.field.now c.self.inside.count room c.self.told c.self.invariant.1))

pub returns : goal.returns
returns c = record {
  writes =
      let n = count_of c.self.inside.bytes c.args.self.now c.self.inside.count c.self.invariant.0 c.self.told c.self.view_is in
      let room : c.self.inside.count + length c.args.field.now ≤ STATE_ROOM = omega (arith, n, c.requires.room) in
      let e = one_more c.self.inside.bytes c.args.field.now c.args.self.now c.self.inside.count room c.self.told c.self.view_is in
      record {
        puts = rw c.copy_from_slice.ensures.after e;
        long = rw c.copy_from_slice.ensures.after (ap length e ∙ length-append c.args.self.now c.args.field.now);
      };
}
