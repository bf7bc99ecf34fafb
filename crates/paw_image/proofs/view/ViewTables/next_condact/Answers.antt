use Rattle.std.proofs.Common.{◌<◌, sym, arith}
use Rattle.paw_game.proofs.ValidGames.{condact-early, condact-small, condact_follows}
use Rattle.paw_image.specs.inner.Views.{game_read}
use Rattle.paw_image.proofs.CursorLaws.{left_there, left_next, stands_none, stands_read, stands_next}
use Rattle.paw_image.proofs.view.ViewTables.next_condact.Goals as goal

pub returns-then-cursor-eq0-clause-value : goal.returns-then-cursor-eq0-clause-value
returns-then-cursor-eq0-clause-value c =
    let cursor = c.args.cursor.now in
    sym (stands_none c.args.self.now cursor.table cursor.entry cursor.at cursor.left cursor.offset c.requires.stands.condacts c.if-cursor-eq0.true)

pub condact_at-next-requires : goal.condact_at-next-requires
condact_at-next-requires c =
    let cursor = c.args.cursor.now in
    let there = left_there c.args.self.now cursor.table cursor.entry cursor.at cursor.left cursor.offset c.requires.stands.condacts
    c.requires.stands.there (omega (arith, c.if-cursor-eq0.false)) in
    record { there = rw (← c.self.view_is) at there }

pub overflow_add-cursor : goal.overflow_add-cursor
overflow_add-cursor c =
    let cursor = c.args.cursor.now in
    let condact = c.condact_at-next.result.0 in
    let is = stands_read c.args.self.now cursor.table cursor.entry cursor.at cursor.left cursor.offset c.condact_at-next.result.1 condact
    c.requires.stands.condacts (omega (arith, c.if-cursor-eq0.false)) (rw c.self.view_is at c.condact_at-next.ensures.value) in
    let image = rw c.self.view_is at c.self.invariant.image in
    omega (arith, condact-early (game_read c.args.self.now) image.valid cursor.table cursor.entry cursor.at condact is)

pub returns-clause-stands : goal.returns-clause-stands
returns-clause-stands c =
    let cursor = c.args.cursor.now in
    let some : 0 < cursor.left = omega (arith, c.if-cursor-eq0.false) in
    record {
      condacts = stands_next c.args.self.now cursor.table cursor.entry cursor.at cursor.left cursor.offset c.condact_at-next.result.1
          c.condact_at-next.result.0 c.requires.stands.condacts some (rw c.self.view_is at c.condact_at-next.ensures.value);
      there = left_next c.args.self.now cursor.table cursor.entry cursor.at cursor.left c.requires.stands.there some;
    }

pub returns-clause-value : goal.returns-clause-value
returns-clause-value c =
    let cursor = c.args.cursor.now in
    sym (stands_read c.args.self.now cursor.table cursor.entry cursor.at cursor.left cursor.offset c.condact_at-next.result.1 c.condact_at-next.result.0
    c.requires.stands.condacts (omega (arith, c.if-cursor-eq0.false)) (rw c.self.view_is at c.condact_at-next.ensures.value))

pub returns-clause-small : goal.returns-clause-small
returns-clause-small c =
    let cursor = c.args.cursor.now in
    let condact = c.condact_at-next.result.0 in
    let is = stands_read c.args.self.now cursor.table cursor.entry cursor.at cursor.left cursor.offset c.condact_at-next.result.1 condact
    c.requires.stands.condacts (omega (arith, c.if-cursor-eq0.false)) (rw c.self.view_is at c.condact_at-next.ensures.value) in
    let image = rw c.self.view_is at c.self.invariant.image in
    condact-small (game_read c.args.self.now) image.valid cursor.table cursor.entry cursor.at condact is

pub returns-clause-early : goal.returns-clause-early
returns-clause-early c =
    let cursor = c.args.cursor.now in
    let condact = c.condact_at-next.result.0 in
    let is = stands_read c.args.self.now cursor.table cursor.entry cursor.at cursor.left cursor.offset c.condact_at-next.result.1 condact
    c.requires.stands.condacts (omega (arith, c.if-cursor-eq0.false)) (rw c.self.view_is at c.condact_at-next.ensures.value) in
    let image = rw c.self.view_is at c.self.invariant.image in
    condact-early (game_read c.args.self.now) image.valid cursor.table cursor.entry cursor.at condact is

pub returns-clause-right : goal.returns-clause-right
returns-clause-right c =
    let cursor = c.args.cursor.now in
    let condact = c.condact_at-next.result.0 in
    let is = stands_read c.args.self.now cursor.table cursor.entry cursor.at cursor.left cursor.offset c.condact_at-next.result.1 condact
    c.requires.stands.condacts (omega (arith, c.if-cursor-eq0.false)) (rw c.self.view_is at c.condact_at-next.ensures.value) in
    let image = rw c.self.view_is at c.self.invariant.image in
    condact_follows (game_read c.args.self.now) image.valid cursor.table cursor.entry cursor.at condact is
