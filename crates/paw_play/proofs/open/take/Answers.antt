use Rattle.paw_play.proofs.Names.{OpenSession, refl, ◌+◌, Standing, beside_none, serves_none, story_of}
use Rattle.paw_play.proofs.{Opened.stops_taking, Opened.in_taking, Opened.takes_to, Doing.done_none, Doing.done_by}
use Rattle.paw_play.proofs.open.take.Goals as goal

pub commit-requires-clause-seated : goal.commit-requires-clause-seated
commit-requires-clause-seated g c = c.in_default.ensures.may.seated

pub commit-requires-clause-standing : goal.commit-requires-clause-standing
commit-requires-clause-standing g c = c.in_default.ensures.may.standing

pub returns-in-Some-clause-serves : goal.returns-in-Some-clause-serves
returns-in-Some-clause-serves g c = rw c.in-Some.ensures.fine (serves_none g.S.Stage _ _)

pub returns-in-Some-clause-beside : goal.returns-in-Some-clause-beside
returns-in-Some-clause-beside g c = λ tells. beside_none (g.S.Stage.standing c.args.stage.now)

pub returns-in-Some-clause-promises : goal.returns-in-Some-clause-promises
returns-in-Some-clause-promises g c = λ tells X answers s n taken earlier opened count.
    let old : Standing = g.S.Stage.standing c.args.stage.now in
    done_none (stops_taking OpenSession (story_of c.args.player.now.game X) s n c.args.session.events taken c.args.line.now old old c.play_next.new.player
    c.args.room.now.piece c.in-Some.end c.in-Some.ensures.fine count (c.in-Some.ensures.meaning X answers s.whole taken earlier _ opened.played))

pub returns-in-Err-clause-promises : goal.returns-in-Err-clause-promises
returns-in-Err-clause-promises g c = λ tells X answers s n taken earlier opened count.
    done_by c.in-Err.ensures.call.serves.among (c.commit.ensures.call.crash tells)
    (in_taking c.args.line.now (g.S.Stage.standing c.args.stage.now) opened count
    (c.in_default.ensures.meaning X answers s.whole taken earlier c.args.room.now.piece opened.played))

pub returns-in-Ok-clause-promises : goal.returns-in-Ok-clause-promises
returns-in-Ok-clause-promises g c = λ tells X answers s n taken earlier opened count.
    let old : Standing = g.S.Stage.standing c.args.stage.now in
    let brings = c.in_default.ensures.meaning X answers s.whole taken earlier c.args.room.now.piece opened.played in
    done_by
    (takes_to c.args.line.now old opened count brings OpenSession (record { journal = c.in-Ok.journal; events = c.args.session.events + 1 })
    (g.S.Stage.standing c.commit.new.stage) c.commit.new.room.piece c.in-Ok.ensures.piece (c.in-Ok.ensures.call.post tells))
    (c.commit.ensures.call.crash tells) (in_taking c.args.line.now old opened count brings)

pub returns-in-Ok-clause-holds : goal.returns-in-Ok-clause-holds
returns-in-Ok-clause-holds g c = record { events = refl; kept = c.in-Ok.ensures.kept }
