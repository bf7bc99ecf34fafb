use Rattle.std.proofs.Common.{◌≡◌, ◌+◌, ◌++◌, ap, ◌∙◌}
use Rattle.paw_base.specs.Bytes.{Bytes}
use Rattle.paw_journal.specs.inner.Room.{Room}
use Rattle.paw_journal.specs.Session.{zeros}
use Rattle.paw_journal.proofs.Slots.{added_zeros}
use Rattle.paw_journal.proofs.room.Room.add_zeros.Goals as goal

pub returns : goal.returns
returns c =
    let longer : c.resize.new.self.items ≡ c.self.inside.slot.items ++ zeros c.args.count =
    added_zeros _ _ _ _ c.args.count c.self.inside.slot.ok.0 (ap (λ n. n + c.args.count) c.len.ensures) c.unwrap.ensures
    c.resize.ensures.items in
    let with_slot : Bytes → Room = λ l.
    record {
      slot = l;
      state = c.self.inside.state;
      piece = c.self.inside.piece.items;
      first =
          c.self.inside.first;
      second = c.self.inside.second;
    } in
    let add : Room → Room = λ r. record r { slot = r.slot ++ zeros c.args.count } in
    record {
      value =
          ap with_slot longer
          ∙ ap add c.self.view_is;
    }
