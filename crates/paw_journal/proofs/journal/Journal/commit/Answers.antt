use Rattle.std.proofs.Common.{◌≡◌, ◌-◌, ◌≤◌, ◌∙◌, length, ap}
use Rattle.std.specs.Prelude.{Some, Result}
use Rattle.paw_base.specs.declared.limits.TheConstants.{PIECE_LIMIT}
use Rattle.paw_stage.specs.Stage.{Standing}
use Rattle.paw_stage.specs.declared.StageCall.{StageCall}
use Rattle.paw_journal.specs.Session.{recover, recover_by, kept_digests, slot_in_use, slot, session_length}
use Rattle.paw_journal.specs.inner.Session.{session_shown}
use Rattle.paw_journal.specs.inner.Room.{kept_of, kept_slot, slot_number}
use Rattle.paw_journal.specs.inner.Written.{WritesLittle}
use Rattle.paw_journal.specs.inner.Store.{LeavesOldOr, LeavesSlot}
use Rattle.paw_journal.specs.inner.Writes.{Chooses, CommitsTo, Drafts, IsSpare, IsFilling, WritesSlot, written_slot}
use Rattle.paw_journal.specs.inner.Calls.{WritesStore}
use Rattle.paw_journal.proofs.Calls.{writes_done, writes_failed, writes_then}
use Rattle.paw_journal.proofs.Moved.{beside_none}
use Rattle.paw_journal.proofs.Chooses.{slot_small, selector_is, chosen_shown, chosen_digests, chosen_slot}
use Rattle.paw_journal.proofs.Fills.{filled_digests, filled_before, filled_other}
use Rattle.paw_journal.proofs.Sessions.{short_piece, in_first_of, in_either}
use Rattle.paw_journal.proofs.Commits.{keeps_of, drafts_as, committed_kept, committed_shows, committed_few}
use Rattle.paw_journal.proofs.Commits.{committed_part, committed_all, committed_keeps, committed_exact}
use Rattle.paw_journal.proofs.Commits.{spare_of, rests_on, written_filling, written_in, written_long}
use Rattle.paw_journal.proofs.journal.Journal.commit.Given.{Over}
use Rattle.paw_journal.proofs.journal.Journal.commit.Goals.{After-choose}
use Rattle.paw_journal.proofs.journal.Journal.commit.Goals as goal

-- What stands once the slot that isn't in use was written, and was to be chosen.
module _ (g : Over) (c : After-choose g) (tells : g.S.Stage.Tells c.args.stage.now) where
  abbrev old : Standing
  old = g.S.Stage.standing c.args.stage.now

  abbrev written : Standing
  written = g.S.Stage.standing c.write_slot.new.stage

  drafts : Drafts (kept_of c.other-slot.result c.args.room.now) c.args.state.now c.slot.result.now c.draft-draft.result
  drafts = drafts_as _ _ _ _ _ c.slot.ensures.value c.draft-draft.ensures.drafts

  short : length c.args.piece.now ≤ PIECE_LIMIT
  short = short_piece c.args.state.now c.args.piece.now c.fits-state c.requires.piece_length

  spare : IsSpare (slot_number c.other-slot.result) old.disk.bytes
  spare = spare_of c.args.self c.args.room.now old c.other-slot.result (c.requires.kept tells) c.other-slot.ensures.value

  filled : IsFilling (slot_number c.other-slot.result) old written
  filled = written_filling c.other-slot.result c.draft-draft.result (kept_of c.other-slot.result c.args.room.now)
      c.args.state.now c.slot.result.now c.args.piece.now old written spare drafts short
      (c.in_ok-write_slot.ensures.call.post tells) (c.in_ok-write_slot.ensures.call.beside tells)

  are : slot (slot_number c.other-slot.result) written.disk.bytes
      ≡ written_slot c.draft-draft.result c.slot.result.now c.args.piece.now (slot (slot_number c.other-slot.result) old.disk.bytes)
  are = written_in c.other-slot.result c.draft-draft.result (kept_of c.other-slot.result c.args.room.now)
      c.args.state.now c.slot.result.now c.args.piece.now old written spare drafts short
      (c.in_ok-write_slot.ensures.call.post tells)

  long : length written.disk.bytes ≡ session_length
  long = written_long c.other-slot.result c.draft-draft.result (kept_of c.other-slot.result c.args.room.now)
      c.args.state.now c.slot.result.now c.args.piece.now old written spare drafts short
      (c.in_ok-write_slot.ensures.call.post tells)

  keeps : kept_of c.other-slot.result c.args.room.now ≡ kept_slot (slot (slot_number c.other-slot.result) old.disk.bytes)
  keeps = keeps_of c.other-slot.result c.args.room.now old.disk.bytes (c.requires.kept tells).slots

  -- The slot shows the new state and piece.
  shows : recover_by (slot_number c.other-slot.result) written.disk.bytes
      ≡ session_shown (kept_digests old.disk.bytes) c.args.state.now c.args.piece.now
  shows = committed_shows (slot_number c.other-slot.result) c.draft-draft.result
      (kept_of c.other-slot.result c.args.room.now) c.args.state.now c.slot.result.now c.args.piece.now old written
      filled drafts keeps are short c.requires.piece_length

  -- And keeps that state.
  now_kept : kept_slot (slot (slot_number c.other-slot.result) written.disk.bytes)
      ≡ Some (record { records = c.draft-draft.result.records; state = c.args.state.now })
  now_kept = committed_kept (slot_number c.other-slot.result) c.draft-draft.result
      (kept_of c.other-slot.result c.args.room.now) c.args.state.now c.slot.result.now c.args.piece.now old written
      filled drafts keeps are short

  little : WritesLittle c.args.self.slot c.args.state.now c.args.piece.now old (g.S.Stage.standing c.choose.new.stage)
  little = committed_all _ _ _ _ _ _ (c.write_slot.ensures.few tells)
      (c.choose.ensures.few (c.write_slot.ensures.call.serves.tells.0 tells))
      (committed_few c.other-slot.result (1 - slot_number c.args.self.slot) c.args.room.now old.disk.bytes c.slot.result.now
      c.args.state.now c.args.piece.now c.draft-draft.result (c.requires.kept tells).slots c.other-slot.ensures.value drafts)

-- The slot is written and then chosen, whether or not that fails.
commits : (g : Over) (c : After-choose g) {A : Type 0} {r : Result A StageCall} →
    WritesStore g.S.Stage r (Chooses c.other-slot.result) (LeavesSlot c.other-slot.result) c.write_slot.new.stage c.choose.new.stage →
    WritesStore g.S.Stage r (CommitsTo c.args.state.now c.args.piece.now) (LeavesOldOr c.args.state.now c.args.piece.now)
    c.args.stage.now c.choose.new.stage
commits g c call =
    let w = c.other-slot.result in
    let s : Standing = g.S.Stage.standing c.args.stage.now in
    let t : Standing = g.S.Stage.standing c.write_slot.new.stage in
    writes_then {P = WritesSlot w c.draft-draft.result c.slot.result.now c.args.piece.now} c.in_ok-write_slot.ensures.call call
    (λ tells p chosen. record {
      exact =
          committed_exact w c.args.self.slot c.draft-draft.result (kept_of w c.args.room.now) c.args.state.now c.slot.result.now
          c.args.piece.now s t (g.S.Stage.standing c.choose.new.stage) (drafts g c tells) (keeps g c tells) c.other-slot.ensures.value
          (c.requires.kept tells).chosen p chosen;
      shown =
          ap (λ d. recover d.bytes) chosen
          ∙ (chosen_shown (slot_number w) t.disk.bytes (slot_small w) (long g c tells) ∙ shows g c tells);
      digests =
          ap (λ d. kept_digests d.bytes) chosen
          ∙ (chosen_digests (slot_number w) t.disk.bytes (long g c tells) ∙ filled_digests _ _ _ (filled g c tells));
    })
    (λ tells m. in_first_of s _ _ m (beside_none s))
    (λ tells p beside m. in_either s t _ _ _ _ m beside (filled_before (slot_number w) s t (filled g c tells)) (shows g c tells))

pub write_slot-requires-clause-rests : goal.write_slot-requires-clause-rests
write_slot-requires-clause-rests g c tells =
    (c.requires.kept tells).rests

pub write_slot-requires-clause-spare : goal.write_slot-requires-clause-spare
write_slot-requires-clause-spare g c tells =
    spare_of c.args.self c.args.room.now _ c.other-slot.result (c.requires.kept tells) c.other-slot.ensures.value

pub choose-requires-clause-rests : goal.choose-requires-clause-rests
choose-requires-clause-rests g c later =
    let tells = c.write_slot.ensures.call.serves.tells.1 later in
    rests_on _ _ _ (c.requires.kept tells).rests (c.in_ok-write_slot.ensures.call.beside tells) (c.in_ok-write_slot.ensures.call.post tells)

pub choose-requires-clause-long : goal.choose-requires-clause-long
choose-requires-clause-long g c later =
    let tells = c.write_slot.ensures.call.serves.tells.1 later in
    written_long c.other-slot.result c.draft-draft.result (kept_of c.other-slot.result c.args.room.now) c.args.state.now
    c.slot.result.now c.args.piece.now (g.S.Stage.standing c.args.stage.now) (g.S.Stage.standing c.write_slot.new.stage)
    (spare_of c.args.self c.args.room.now _ c.other-slot.result (c.requires.kept tells) c.other-slot.ensures.value)
    (drafts_as _ _ _ _ _ c.slot.ensures.value c.draft-draft.ensures.drafts)
    (short_piece c.args.state.now c.args.piece.now c.fits-state c.requires.piece_length)
    (c.in_ok-write_slot.ensures.call.post tells)

pub returns-in_err-write_slot-clause-few : goal.returns-in_err-write_slot-clause-few
returns-in_err-write_slot-clause-few g c tells =
    committed_part _ _ _ _ _ (c.write_slot.ensures.few tells)
    (committed_few c.other-slot.result (1 - slot_number c.args.self.slot) c.args.room.now
    (g.S.Stage.standing c.args.stage.now).disk.bytes c.slot.result.now c.args.state.now c.args.piece.now
    c.draft-draft.result (c.requires.kept tells).slots c.other-slot.ensures.value
    (drafts_as _ _ _ _ _ c.slot.ensures.value c.draft-draft.ensures.drafts))

pub returns-in_err-write_slot-clause-call : goal.returns-in_err-write_slot-clause-call
returns-in_err-write_slot-clause-call g c =
    let s : Standing = g.S.Stage.standing c.args.stage.now in
    writes_failed c.from_residual.ensures.1 c.in_err-write_slot.ensures.call (λ tells m. in_first_of s _ _ m (beside_none s))

pub returns-in_err-choose-clause-call : goal.returns-in_err-choose-clause-call
returns-in_err-choose-clause-call g c =
    writes_failed c.from_residual-in_err-choose.ensures.1
    (commits g (goal.at.returns-in_err-choose-clause-call g c).After-choose c.in_err-choose.ensures.call) (λ tells m i. i)

pub returns-in_err-choose-clause-few : goal.returns-in_err-choose-clause-few
returns-in_err-choose-clause-few g c tells = little g (goal.at.returns-in_err-choose-clause-few g c).After-choose tells

pub returns-clause-call : goal.returns-clause-call
returns-clause-call g c = writes_done (commits g (goal.at.returns-clause-call g c).After-choose c.in_ok-choose.ensures.call)

pub returns-clause-few : goal.returns-clause-few
returns-clause-few g c tells = little g (goal.at.returns-clause-few g c).After-choose tells

pub returns-clause-kept : goal.returns-clause-kept
returns-clause-kept g c tells =
    let a = (goal.at.returns-clause-kept g c).After-choose in
    let w = c.other-slot.result in
    let s = g.S.Stage.standing c.args.stage.now in
    let t = g.S.Stage.standing c.write_slot.new.stage in
    let later = c.write_slot.ensures.call.serves.tells.0 tells in
    let u = g.S.Stage.standing c.choose.new.stage in
    let call = commits g a c.in_ok-choose.ensures.call in
    let e = c.in_ok-choose.ensures.call.post later in
    committed_keeps w _ c.args.room.now c.draft-draft.new.self c.hold.new.self c.keep_state.new.self c.args.state.now
    c.args.piece.now s t u (c.requires.kept tells).slots c.draft-draft.ensures.same c.hold.ensures.value c.keep_state.ensures.value
    (rests_on _ s u (c.requires.kept tells).rests (call.beside tells) e)
    (ap (λ d. slot_in_use d.bytes) e ∙ selector_is (slot_number w) t.disk.bytes (slot_small w) (long g a tells))
    (call.post tells).shown (call.post tells).digests (filled_other (slot_number w) s t (filled g a tells)) (now_kept g a tells)
    (λ j low. ap (λ d. slot j d.bytes) e ∙ chosen_slot (slot_number w) j t.disk.bytes (long g a tells))
