use Rattle.std.proofs.Common.{◌≤◌, arith, length, ap, ◌∙◌}
use Rattle.paw_base.specs.declared.limits.TheConstants.{PIECE_LIMIT}
use Rattle.paw_journal.proofs.Slots.{room_for_body, room_behind}
use Rattle.paw_journal.proofs.room.Room.fill_new_slot.Goals as goal

pub add_body-requires : goal.add_body-requires
add_body-requires c = record {
  fits =
      let few : length c.self.inside.piece.items ≤ PIECE_LIMIT =
      omega (arith, ap (λ r. length r.piece) c.self.view_is, c.requires.short) in
      let head = c.add_head.ensures.value in
      room_for_body c.add_zeros.new.self c.add_head.new.self c.self.inside.piece.items (ap (λ r. r.slot) head)
      (ap (λ r. r.piece) head) c.add_zeros.ensures.value few;
}

pub add_zeros-requires-2 : goal.add_zeros-requires-2
add_zeros-requires-2 c = record {
  fits =
      let few : length c.self.inside.piece.items ≤ PIECE_LIMIT =
      omega (arith, ap (λ r. length r.piece) c.self.view_is, c.requires.short) in
      let head = c.add_head.ensures.value in
      room_behind c.add_body.new.self c.add_zeros.new.self c.add_head.new.self c.self.inside.state c.self.inside.piece.items _
      (ap (λ r. r.slot) head) (ap (λ r. r.state) head) (ap (λ r. r.piece) head) c.add_zeros.ensures.value c.self.told few
      c.add_body.ensures.value (c.len.ensures ∙ c.self.inside.piece.ok.0);
}
