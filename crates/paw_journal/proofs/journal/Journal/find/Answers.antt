use Rattle.std.proofs.Common.{◌≡◌, ◌∙◌, ap, sym, subst}
use Rattle.std.proofs.lemmas.Result.{err_from_is_err_and}
use Rattle.std.specs.Prelude.{None}
use Rattle.paw_journal.specs.Session.{BelongsTo, recover, slot_shows, slot, kept_digests}
use Rattle.paw_journal.specs.inner.Calls.{ReadsStore}
use Rattle.paw_journal.specs.inner.Room.{HasReadSlot, slot_number}
use Rattle.paw_journal.specs.inner.Writes.{header_digests}
use Rattle.paw_journal.proofs.Calls.{reads_named, reads_then}
use Rattle.paw_journal.proofs.Sessions.{introduced_shows, found_keeps, found_slots}
use Rattle.paw_journal.proofs.Sessions.{shown_stays}
use Rattle.paw_journal.proofs.journal.Journal.find.Given.{Over}
use Rattle.paw_journal.proofs.journal.Journal.find.Goals.{After-unpack, After-load_other_state}
use Rattle.paw_journal.proofs.journal.Journal.find.Goals as goal

-- What was found once the slot in use was read.
module _ (g : Over) (c : After-unpack g) where
  -- The calls up to there.
  reads : ReadsStore g.S.Stage None c.args.stage.now c.read_slot.new.stage
  reads = reads_then c.in_ok-header.ensures.call c.in-Ok.ensures.call

  held : g.S.Stage.Tells c.args.stage.now →
      HasReadSlot c.in_ok-header.header.slot (g.S.Stage.standing c.args.stage.now) c.read_slot.new.self
  held tells = c.in-Ok.ensures.read (c.read_header.ensures.call.serves.tells.0 tells)
      ∙ ap (λ s. slot (slot_number c.in_ok-header.header.slot) s.disk.bytes) (c.read_header.ensures.call.still tells)

  shows : g.S.Stage.Tells c.args.stage.now →
      recover (g.S.Stage.standing c.args.stage.now).disk.bytes
      ≡ slot_shows (header_digests c.in_ok-header.header) c.read_slot.new.self.slot
  shows tells = introduced_shows _ _ _ _ (c.in_ok-header.ensures.introduced tells) (held tells)

-- And once both were.
both : (g : Over) (c : After-load_other_state g) → ReadsStore g.S.Stage None c.args.stage.now c.read_slot.new.stage →
    ReadsStore g.S.Stage None c.args.stage.now c.read_slot-2.new.stage
both g c reads = reads_then reads c.in-Ok-read_slot.ensures.call

pub returns-in_err-header-clause-refused : goal.returns-in_err-header-clause-refused
returns-in_err-header-clause-refused g c tells =
    let p = err_from_is_err_and c.from_residual.result c.from_residual.ensures.1 in
    rw (p.1, p.2) (c.in_err-header.ensures.refused tells c.args.game.now c.args.rules.now)

pub returns-in-Err-clause-call : goal.returns-in-Err-clause-call
returns-in-Err-clause-call g c = reads_then c.in_ok-header.ensures.call c.in-Err.ensures.call

pub returns-in-Err-unpack-clause-refused : goal.returns-in-Err-unpack-clause-refused
returns-in-Err-unpack-clause-refused g c tells =
    shows g (goal.at.returns-in-Err-unpack-clause-refused g c).After-unpack tells
    ∙ c.in-Err-unpack.ensures.damaged (header_digests c.in_ok-header.header)

pub returns-in-Err-unpack-clause-call : goal.returns-in-Err-unpack-clause-call
returns-in-Err-unpack-clause-call g c = reads g (goal.at.returns-in-Err-unpack-clause-call g c).After-unpack

pub returns-in_err-belongs_to-clause-refused : goal.returns-in_err-belongs_to-clause-refused
returns-in_err-belongs_to-clause-refused g c tells =
    let p = err_from_is_err_and c.from_residual-in_err-belongs_to.result c.from_residual-in_err-belongs_to.ensures.1 in
    rw (p.1, p.2) (c.in_err-belongs_to.ensures.refused _ _ _
    (shows g (goal.at.returns-in_err-belongs_to-clause-refused g c).After-unpack tells
    ∙ c.in-Ok-unpack.ensures.shown (header_digests c.in_ok-header.header)))

pub returns-in_err-belongs_to-clause-call : goal.returns-in_err-belongs_to-clause-call
returns-in_err-belongs_to-clause-call g c =
    let p = err_from_is_err_and c.from_residual-in_err-belongs_to.result c.from_residual-in_err-belongs_to.ensures.1 in
    rw (p.1, p.2) (reads_named c.in_err-belongs_to.ensures.inside
    (reads g (goal.at.returns-in_err-belongs_to-clause-call g c).After-unpack))

pub returns-in-Err-read_slot-clause-call : goal.returns-in-Err-read_slot-clause-call
returns-in-Err-read_slot-clause-call g c =
    reads_then (reads g (goal.at.returns-in-Err-read_slot-clause-call g c).After-unpack) c.in-Err-read_slot.ensures.call

pub returns-clause-call : goal.returns-clause-call
returns-clause-call g c =
    let at = goal.at.returns-clause-call g c in
    both g at.After-load_other_state (reads g at.After-unpack)

pub returns-clause-kept : goal.returns-clause-kept
returns-clause-kept g c tells =
    let at = goal.at.returns-clause-kept g c in
    let first = reads g at.After-unpack in
    let whole = both g at.After-load_other_state first in
    let other = c.in-Ok-read_slot.ensures.read (first.serves.tells.0 tells)
    ∙ ap (λ s. slot (slot_number c.other-other.result) s.disk.bytes) (first.still tells) in
    let slots = found_slots c.in_ok-header.header.slot c.other-other.result _ _ _ c.read_slot.new.self c.unpack.new.self
    c.read_slot-2.new.self c.load_other_state.new.self _ _ c.other-other.ensures.value c.in-Ok-unpack.ensures.kept
    c.in-Ok-read_slot.ensures.same c.load_other_state.ensures.kept (held g at.After-unpack tells) other in
    let shown = shown_stays _ _ c.other-other.result _ c.unpack.new.self c.read_slot-2.new.self c.load_other_state.new.self
    (shows g at.After-unpack tells ∙ c.in-Ok-unpack.ensures.shown (header_digests c.in_ok-header.header))
    c.in-Ok-read_slot.ensures.same c.load_other_state.ensures.kept in
    found_keeps _ _ _ _ _ (c.requires.rests tells) (whole.still tells) (c.in_ok-header.ensures.introduced tells) shown slots

pub returns-clause-belongs : goal.returns-clause-belongs
returns-clause-belongs g c tells =
    let at = goal.at.returns-clause-belongs g c in
    subst (λ d. BelongsTo c.args.game.now c.args.rules.now d)
    ((c.in_ok-header.ensures.introduced tells).digests
    ∙ ap (λ s. kept_digests s.disk.bytes) (sym ((both g at.After-load_other_state (reads g at.After-unpack)).still tells)))
    c.in_ok-belongs_to.ensures.belongs
