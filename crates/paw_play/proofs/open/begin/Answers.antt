use Rattle.paw_play.proofs.Names.{OpenSession, refl, subst, arith, Standing, Digests, beside_none, serves_none, Story, story_of, PlayedSession, session_begun, InMake, MakesPlayer, valid_story}
use Rattle.paw_play.proofs.{Opened.stops_beginning, Opened.in_beginning, Opened.begins_to, Opened.same_digests, Following.first_follows, Doing.done_none, Doing.done_by}
use Rattle.paw_play.proofs.open.begin.Goals as goal

pub returns-in-Some-clause-serves : goal.returns-in-Some-clause-serves
returns-in-Some-clause-serves g c = rw c.in-Some.ensures.fine (serves_none g.S.Stage _ _)

pub returns-in-Some-clause-beside : goal.returns-in-Some-clause-beside
returns-in-Some-clause-beside g c = λ tells. beside_none (g.S.Stage.standing c.args.stage.now)

pub returns-in-Some-clause-promises : goal.returns-in-Some-clause-promises
returns-in-Some-clause-promises g c = λ tells X answers name.
    let story : Story = story_of c.args.player.now.game X in
    done_none (stops_beginning OpenSession story (session_begun story c.args.seed name) (g.S.Stage.standing c.args.stage.now) c.play_first.new.player
    c.args.room.now.piece c.in-Some.end c.in-Some.ensures.fine (c.in-Some.ensures.meaning X answers))

pub returns-in-Err-clause-promises : goal.returns-in-Err-clause-promises
returns-in-Err-clause-promises g c = λ tells X answers name.
    let story : Story = story_of c.args.player.now.game X in
    let own = same_digests c.requires.player.digests.digest (c.requires.player.digests.measured X answers) in
    done_by c.in-Err.ensures.call.serves.among (c.make.ensures.call.crash tells)
    (λ m i. in_beginning {g = story} (session_begun story c.args.seed name) refl (c.in_default.ensures.meaning X answers) _ m
    (subst (λ (d : Digests). InMake d c.play_first.new.player (g.S.Stage.standing c.args.stage.now) m) own i))

pub returns-in-Ok-clause-promises : goal.returns-in-Ok-clause-promises
returns-in-Ok-clause-promises g c = λ tells X answers name.
    let story : Story = story_of c.args.player.now.game X in
    let s : PlayedSession = session_begun story c.args.seed name in
    let old : Standing = g.S.Stage.standing c.args.stage.now in
    let new : Standing = g.S.Stage.standing c.make.new.stage in
    let own = same_digests c.requires.player.digests.digest (c.requires.player.digests.measured X answers) in
    let brings = c.in_default.ensures.meaning X answers in
    let valid = valid_story g.F.Fn c.args.player.now.routines c.args.player.now.game X c.requires.player.seated.valid answers in
    done_by
    (begins_to {g = story} s refl brings OpenSession (record { journal = c.in-Ok.journal; events = 0 }) old new c.make.new.room.piece
    (first_follows story c.args.seed valid (omega (arith, c.ranges.seed.fits))) c.in-Ok.ensures.piece
    (subst (λ (d : Digests). MakesPlayer d c.play_first.new.player old new) own (c.in-Ok.ensures.call.post tells)))
    (c.make.ensures.call.crash tells)
    (λ m i. in_beginning {g = story} s refl brings old m (subst (λ (d : Digests). InMake d c.play_first.new.player old m) own i))

pub returns-in-Ok-clause-holds : goal.returns-in-Ok-clause-holds
returns-in-Ok-clause-holds g c = record { events = refl; kept = c.in-Ok.ensures.kept }
