use Rattle.paw_play.proofs.Names.{Name, ◌≡◌, ◌∙◌, refl, sym, ap, subst, arith, Result, Ok, Err, IsOk, GameLists, Standing, Story, story_of, Fits, recover, kept_digests, piece_length, buffer_long, session_shown, Restored, IsRead, state_read, StateFault}
use Rattle.paw_play.proofs.{Showing.read_fits, Reopening.read_shows, Reopening.state_open, Reopening.seat_may, Reopening.of_story, Reopening.refused_story, Reopening.resumes_none, Reopening.stays_at}
use Rattle.paw_play.proofs.open.resume.Goals as goal

not_ok : (r : Result Restored StateFault) (e : StateFault) → r ≡ Err e → IsOk r → ⊥
not_ok (Ok x) e is h = cc
not_ok (Err f) e is h = cc

pub find-requires-clause-rests : goal.find-requires-clause-rests
find-requires-clause-rests g c = λ tells. (c.requires.attached tells).rests

pub find-requires-clause-attached : goal.find-requires-clause-attached
find-requires-clause-attached g c = λ tells. (c.requires.attached tells).long

pub returns-in-Err-clause-reads : goal.returns-in-Err-clause-reads
returns-in-Err-clause-reads g c = rw c.not_found.ensures.call c.in-Err.ensures.call

pub returns-in-Err-clause-meaning : goal.returns-in-Err-clause-meaning
returns-in-Err-clause-meaning g c = λ tells X answers.
    let story : Story = story_of c.args.player.now.game X in
    let own = c.requires.player.digests in
    rw c.not_found.ensures.value
    (resumes_none story (g.S.Stage.standing c.args.stage.now).disk.bytes c.args.player.now c.find.new.room.piece c.in-Err.refusal
    (refused_story story c.args.game.now c.args.rules.now _ c.in-Err.refusal own.digest (own.measured X answers) (c.in-Err.ensures.refused tells))
    c.in-Err.ensures.call.serves.among)

pub returns-in-Err-read_state-clause-meaning : goal.returns-in-Err-read_state-clause-meaning
returns-in-Err-read_state-clause-meaning g c = λ tells X answers.
    let story : Story = story_of c.args.player.now.game X in
    let own = c.requires.player.digests in
    let still = c.in-Ok.ensures.call.still tells in
    let fault = c.in-Err-read_state.fault in
    let of = rw still at (of_story story c.args.game.now c.args.rules.now (g.S.Stage.standing c.find.new.stage).disk.bytes own.digest
    (own.measured X answers) (c.in-Ok.ensures.belongs tells)) in
    let shown = rw still at ((c.in-Ok.ensures.kept tells).shown) in
    let read = c.in-Err-read_state.ensures in
    let unfit = rw (← c.requires.same, c.state.ensures.value) at read.fault in
    (of, c.find.new.room.state, c.find.new.room.piece, shown, λ fit. not_ok (Err fault) fault refl (read.fit.1 (rw (← c.requires.same, c.state.ensures.value) fit)), unfit)

pub seat-requires-clause-fits : goal.seat-requires-clause-fits
seat-requires-clause-fits g c =
    let r = c.in-Ok-read_state.restored in
    subst (λ (h : GameLists). Fits h r.world r.machine r.pending r.prompt) (sym c.requires.same)
    (read_fits (g.T.Tables.game c.args.tables.now) c.state.result.now r c.in-Ok-read_state.ensures.read)

pub returns-clause-stays : goal.returns-clause-stays
returns-clause-stays g c = stays_at _ _ _ _ c.args.player.now c.seat.new.player c.seat.ensures.seated c.seat.ensures.value

pub returns-clause-may : goal.returns-clause-may
returns-clause-may g c =
    let r = c.in-Ok-read_state.restored in
    let read = subst (λ (h : GameLists). IsRead h c.state.result.now r) (sym c.requires.same) c.in-Ok-read_state.ensures.read in
    seat_may (story_of c.args.player.now.game (c.requires.player.answers).0) r c.args.player.now.routines c.seat.new.player c.seat.ensures.value g.F.Fn
    c.seat.ensures.seated c.requires.player.answers read.valid

pub returns-clause-short : goal.returns-clause-short
returns-clause-short g c = λ tells.
    let old : Standing = g.S.Stage.standing c.args.stage.now in
    let piece = c.find.new.room.piece in
    let r = c.in-Ok-read_state.restored in
    let shown = subst (λ (q : Standing). recover q.disk.bytes ≡ session_shown (kept_digests q.disk.bytes) c.find.new.room.state piece)
    (c.in-Ok.ensures.call.still tells) (c.in-Ok.ensures.kept tells).shown in
    let long = buffer_long old.disk.bytes (kept_digests old.disk.bytes) c.find.new.room.state piece r.piece shown
    (ap piece_length (sym c.state.ensures.value) ∙ c.in-Ok-read_state.ensures.piece) c.in-Ok-read_state.ensures.read.fits.piece in
    omega (arith, long, c.in-Ok-read_state.ensures.read.fits.piece)

pub returns-clause-meaning : goal.returns-clause-meaning
returns-clause-meaning g c = λ tells X answers.
    let story : Story = story_of c.args.player.now.game X in
    let own = c.requires.player.digests in
    let old : Standing = g.S.Stage.standing c.args.stage.now in
    let piece = c.find.new.room.piece in
    let r = c.in-Ok-read_state.restored in
    let still = c.in-Ok.ensures.call.still tells in
    let shown = rw still at ((c.in-Ok.ensures.kept tells).shown) in
    let read = subst (λ (h : GameLists). IsRead h c.state.result.now r) (sym c.requires.same) c.in-Ok-read_state.ensures.read in
    let shows = read_shows c.args.player.now.game (kept_digests old.disk.bytes) old.disk.bytes c.find.new.room.state c.state.result.now piece r shown
    c.state.ensures.value read in
    let of = rw still at (of_story story c.args.game.now c.args.rules.now (g.S.Stage.standing c.find.new.stage).disk.bytes own.digest
    (own.measured X answers) (c.in-Ok.ensures.belongs tells)) in
    let opens = λ (name : Name). state_open story r c.args.player.now.routines c.seat.new.player c.seat.ensures.value old.disk.bytes name piece
    c.requires.player.seated.valid shows in
    (of, state_read r, shows, refl, opens)
