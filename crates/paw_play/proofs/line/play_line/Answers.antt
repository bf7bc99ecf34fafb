use Rattle.paw_play.proofs.Names.{writing_calls, ◌<◌, None, refl, ap, arith, inl, inr, ◌+◌, EVENT_LIMIT, Standing, Passes_map, Passes_on, serves_done, serves_among, serves_then, in_front, walk_calls, InPlay, end_failed_or}
use Rattle.paw_stage.specs.declared.Asked.TheVariants as asked
use Rattle.paw_play.proofs.{Doing.done_by, Doing.done_then, Playing.in_show, Playing.in_ask, Playing.shown_ends, Playing.none_left, Playing.none_asked, Playing.in_take, Playing.open_still, Playing.comes_to, Playing.keeps_standing, Playing.holds_since}
use Rattle.paw_play.proofs.line.play_line.Goals as goal

pub take-requires-clause-kept : goal.take-requires-clause-kept
take-requires-clause-kept g c = λ tells.
    let mid = c.ask.ensures.tells.1 tells in
    let before = c.show_last_piece.ensures.serves.tells.1 mid in
    keeps_standing c.args.session.journal c.args.room.now _ _ _ (c.requires.kept before) (c.in_default.ensures.meaning before).2 (c.in-Line.ensures.answer mid).3

pub returns-in-Some-clause-serves : goal.returns-in-Some-clause-serves
returns-in-Some-clause-serves g c = c.in-Some.ensures.serves

pub returns-in-End-clause-serves : goal.returns-in-End-clause-serves
returns-in-End-clause-serves g c =
    serves_then g.S.Stage _ _ None _ _ _ c.in_default.ensures.serves
    (record { tells = c.ask.ensures.tells; counts_failure = c.in-End.ensures.counts_failure; among = tt })

pub returns-in-Failed-clause-serves : goal.returns-in-Failed-clause-serves
returns-in-Failed-clause-serves g c =
    serves_then g.S.Stage _ _ _ _ _ _ c.in_default.ensures.serves
    (record { tells = c.ask.ensures.tells; counts_failure = c.in-Failed.ensures.counts_failure; among = inr (inr (inl refl)) })

pub returns-in-Line-clause-serves : goal.returns-in-Line-clause-serves
returns-in-Line-clause-serves g c =
    serves_then g.S.Stage _ _ (end_failed_or c.take.result) _ _ _ c.in_default.ensures.serves
    (serves_then g.S.Stage _ _ (end_failed_or c.take.result) _ _ _
    (serves_done g.S.Stage _ _ c.ask.ensures.tells c.in-Line.ensures.counts_failure)
    (serves_among g.S.Stage _ _ (end_failed_or c.take.result) _ _ (in_front writing_calls walk_calls) c.take.ensures.serves))

pub returns-in-Line-clause-holds : goal.returns-in-Line-clause-holds
returns-in-Line-clause-holds g c = holds_since c.take.result (c.args.session.events + 1) c.take.new.room (g.S.Stage.standing c.take.new.stage)
    (λ tells. c.ask.ensures.tells.0 (c.show_last_piece.ensures.serves.tells.0 tells)) c.take.ensures.holds

pub returns-in-Some-clause-promises : goal.returns-in-Some-clause-promises
returns-in-Some-clause-promises g c = λ tells X answers s n first w events.
    done_by (shown_ends w _ c.args.session.events c.requires.may.seated events c.in-Some.end (c.in-Some.ensures.meaning tells))
    (c.in-Some.ensures.time tells) (in_show w)

pub returns-in-End-clause-promises : goal.returns-in-End-clause-promises
returns-in-End-clause-promises g c = λ tells X answers s n first w events.
    let shown = c.in_default.ensures.meaning tells in
    let then = c.show_last_piece.ensures.serves.tells.0 tells in
    let few : s.before + n < EVENT_LIMIT = omega (arith, shown.1, events) in
    let a = c.in-End.ensures.answer then in
    done_then _ (none_left w _ shown.2 c.requires.may.seated few _ shown.0 _ a)
    (Passes_map _ _ _ _ _ (InPlay s first) (c.in_default.ensures.time tells) (in_show w)) (c.in-End.ensures.time then)
    (in_ask w _ shown.2 c.requires.may.seated few _ asked.End c.ask.new.into a)

pub returns-in-Failed-clause-promises : goal.returns-in-Failed-clause-promises
returns-in-Failed-clause-promises g c = λ tells X answers s n first w events.
    let shown = c.in_default.ensures.meaning tells in
    let then = c.show_last_piece.ensures.serves.tells.0 tells in
    let few : s.before + n < EVENT_LIMIT = omega (arith, shown.1, events) in
    let a = c.in-Failed.ensures.answer then in
    done_then _ (none_asked w _ shown.2 c.requires.may.seated few _ shown.0 _ a)
    (Passes_map _ _ _ _ _ (InPlay s first) (c.in_default.ensures.time tells) (in_show w)) (c.in-Failed.ensures.time then)
    (in_ask w _ shown.2 c.requires.may.seated few _ asked.Failed c.ask.new.into a)

pub returns-in-Line-clause-promises : goal.returns-in-Line-clause-promises
returns-in-Line-clause-promises g c = λ tells X answers s n first w events.
    let shown = c.in_default.ensures.meaning tells in
    let then = c.show_last_piece.ensures.serves.tells.0 tells in
    let now = c.ask.ensures.tells.0 then in
    let a = c.in-Line.ensures.answer then in
    let few : s.before + n < EVENT_LIMIT = omega (arith, shown.1, events) in
    let seated = c.requires.may.seated in
    let mid : Standing = g.S.Stage.standing c.show_last_piece.new.stage in
    let asking : Standing = g.S.Stage.standing c.ask.new.self in
    let p = c.take.ensures.promises now X answers s n _ _ (open_still w mid shown.2 seated few asking a.0 _ a.1 a.2.same a.3) events in
    done_then _
    (comes_to w mid shown.2 seated few asking a.0 _ a.1 a.2.same a.3 _ c.take.new.player c.take.new.room.piece (c.take.ensures.beside now) _ shown.0
    c.take.result p.meaning (c.args.session.events + 1) c.take.new.room c.take.ensures.holds now c.take.ensures.still (ap g.S.Stage.standing))
    (Passes_on _ _ _ _ _ _ (InPlay s first) _
    (Passes_map _ _ _ _ _ (InPlay s first) (c.in_default.ensures.time tells) (in_show w))
    (c.in-Line.ensures.time then) (in_ask w mid shown.2 seated few asking (asked.Line c.in-Line.n) c.ask.new.into a))
    p.any_moment (in_take w mid shown.2 seated few asking a.0 _ a.1 a.2.same a.3)
