use Rattle.std.proofs.Common.{◌≡◌, ◌≤◌, ◌∙◌, ap, length}
use Rattle.std.specs.Prelude.{Result}
use Rattle.paw_base.specs.declared.limits.TheConstants.{PIECE_LIMIT}
use Rattle.paw_stage.specs.Disk.{Disk}
use Rattle.paw_stage.specs.Stage.{Standing}
use Rattle.paw_stage.specs.declared.StageCall.{StageCall}
use Rattle.paw_journal.specs.Session.{recover, kept_digests, slot_length, made_slot, made_session}
use Rattle.paw_journal.specs.inner.Session.{digests_of, with_made_mark, session_shown}
use Rattle.paw_journal.specs.inner.Store.{LeavesMade, LeavesMarked}
use Rattle.paw_journal.specs.inner.Writes.{MakesSession, MarksAsMade}
use Rattle.paw_journal.specs.inner.Calls.{WritesStore}
use Rattle.paw_journal.proofs.Calls.{writes_done, writes_failed, writes_then}
use Rattle.paw_journal.proofs.Moved.{beside_none}
use Rattle.paw_journal.proofs.Commits.{rests_on}
use Rattle.paw_journal.proofs.Sessions.{length_slot, laid_long, short_piece, marked_session, session_digests}
use Rattle.paw_journal.proofs.Sessions.{session_shows, made_keeps, in_unmade, in_unmade_or}
use Rattle.paw_journal.proofs.journal.Journal.create.Given.{Over}
use Rattle.paw_journal.proofs.journal.Journal.create.Goals.{After-slot, After-mark}
use Rattle.paw_journal.proofs.journal.Journal.create.Goals as goal

-- The bytes that are laid out in both slots.
module _ (g : Over) (c : After-slot g) where
  short : length c.args.piece.now ≤ PIECE_LIMIT
  short = short_piece c.args.state.now c.args.piece.now c.fits-state c.requires.piece_length

  slots : c.slot.result.now ≡ made_slot c.args.state.now c.args.piece.now
  slots = c.slot.ensures.value
      ∙ (ap (λ r. r.slot) c.fill_new_slot.ensures.value ∙ ap (λ r. made_slot r.state r.piece) c.hold.ensures.value)

  long : length c.slot.result.now ≡ slot_length
  long = ap length slots ∙ length_slot c.args.state.now c.args.piece.now c.told-state short

-- The session is laid out and then marked, whether or not that fails.
marks : (g : Over) (c : After-mark g) → length c.args.piece.now ≤ PIECE_LIMIT →
    c.slot.result.now ≡ made_slot c.args.state.now c.args.piece.now → {A : Type 0} {r : Result A StageCall} →
    WritesStore g.S.Stage r MarksAsMade LeavesMarked c.lay_out.new.stage c.mark.new.stage →
    let digests = digests_of c.args.game.now c.args.rules.now in
    WritesStore g.S.Stage r (MakesSession digests c.args.state.now c.args.piece.now) (LeavesMade digests c.args.state.now c.args.piece.now)
    c.args.stage.now c.mark.new.stage
marks g c few are call =
    let digests = digests_of c.args.game.now c.args.rules.now in
    let old : Standing = g.S.Stage.standing c.args.stage.now in
    let laid : Standing = g.S.Stage.standing c.lay_out.new.stage in
    let made : g.S.Stage.Tells c.args.stage.now → with_made_mark laid.disk.bytes ≡ made_session digests c.args.state.now c.args.piece.now =
    λ tells. marked_session digests c.slot.result.now _ _ laid.disk (c.in_ok-lay_out.ensures.call.post tells) are in
    let shows : recover (made_session digests c.args.state.now c.args.piece.now) ≡ session_shown digests c.args.state.now c.args.piece.now =
    session_shows digests c.args.state.now c.args.piece.now (c.told-game, c.told-rules) c.told-state few c.requires.piece_length in
    writes_then c.in_ok-lay_out.ensures.call call
    (λ tells p marked.
    let exact = ap (λ (d : Disk). d.bytes) marked ∙ made tells in
    record {
      exact = exact;
      shown = ap recover exact ∙ shows;
      digests = ap kept_digests exact ∙ session_digests digests c.args.state.now c.args.piece.now (c.told-game, c.told-rules);
    })
    (λ tells m. in_unmade old _ m (beside_none old))
    (λ tells p beside m. in_unmade_or old laid _ _ m beside (ap recover (made tells) ∙ shows))

pub lay_out-requires-clause-slot : goal.lay_out-requires-clause-slot
lay_out-requires-clause-slot g c = long g (goal.at.lay_out-requires-clause-slot g c).After-slot

pub mark-requires-clause-long : goal.mark-requires-clause-long
mark-requires-clause-long g c tells =
    ap (λ d. length d.bytes) (c.in_ok-lay_out.ensures.call.post (c.lay_out.ensures.call.serves.tells.1 tells))
    ∙ laid_long (digests_of c.args.game.now c.args.rules.now) c.slot.result.now (c.told-game, c.told-rules)
    (long g (goal.at.mark-requires-clause-long g c).After-slot)

pub returns-in_err-lay_out-clause-call : goal.returns-in_err-lay_out-clause-call
returns-in_err-lay_out-clause-call g c =
    let old : Standing = g.S.Stage.standing c.args.stage.now in
    writes_failed c.from_residual.ensures.1 c.in_err-lay_out.ensures.call (λ tells m. in_unmade old _ m (beside_none old))

pub returns-in_err-mark-clause-call : goal.returns-in_err-mark-clause-call
returns-in_err-mark-clause-call g c =
    let at = goal.at.returns-in_err-mark-clause-call g c in
    writes_failed c.from_residual-in_err-mark.ensures.1
    (marks g at.After-mark (short g at.After-slot) (slots g at.After-slot) c.in_err-mark.ensures.call) (λ tells m i. i)

pub returns-clause-call : goal.returns-clause-call
returns-clause-call g c =
    let at = goal.at.returns-clause-call g c in
    writes_done (marks g at.After-mark (short g at.After-slot) (slots g at.After-slot) c.in_ok-mark.ensures.call)

pub returns-clause-kept : goal.returns-clause-kept
returns-clause-kept g c tells =
    let at = goal.at.returns-clause-kept g c in
    let few = short g at.After-slot in
    let call = marks g at.After-mark few (slots g at.After-slot) c.in_ok-mark.ensures.call in
    made_keeps (digests_of c.args.game.now c.args.rules.now) _ _ _ _ _
    (rests_on _ _ _ (c.requires.rests tells) (call.beside tells) (c.in_ok-mark.ensures.call.post (c.lay_out.ensures.call.serves.tells.0 tells)))
    (call.post tells)
    (ap (λ r. r.state) c.keep_made.ensures.value ∙ (ap (λ r. r.state) c.fill_new_slot.ensures.value
    ∙ ap (λ r. r.state) c.hold.ensures.value))
    (ap (λ r. r.piece) c.keep_made.ensures.value ∙ (ap (λ r. r.piece) c.fill_new_slot.ensures.value
    ∙ ap (λ r. r.piece) c.hold.ensures.value))
    (ap (λ r. r.first) c.keep_made.ensures.value) (ap (λ r. r.second) c.keep_made.ensures.value)
    (c.told-game, c.told-rules) c.told-state few
