use Rattle.paw_play.proofs.Names.{◌≡◌, ◌≤◌, ap, ◌∙◌, length, sym, subst, on_ok_weaker, PIECE_LIMIT, Standing, Recovered, recover, kept_digests, session_committed, InStore, CrashLeavesSuch, IsOldOrNew, writes_weaker, seat_base}
use Rattle.paw_play.proofs.States.{shown_as}
use Rattle.paw_play.proofs.line.commit.Goals as goal

pub returns-clause-call : goal.returns-clause-call
returns-clause-call g c =
    let old : Standing = g.S.Stage.standing c.args.stage.now in
    let same = shown_as (kept_digests old.disk.bytes) c.state_after-state.ensures.state c.piece.ensures.value in
    writes_weaker c.commit.ensures.call
    (λ tells done. record {
      exact =
          done.exact ∙ (ap (λ x. session_committed x c.piece.result.now old.disk.bytes) c.state_after-state.ensures.base
          ∙ ap (λ x. session_committed (seat_base c.args.events c.args.player.now) x old.disk.bytes) c.piece.ensures.value);
      shown = done.shown ∙ same;
      digests = done.digests;
    })
    (λ tells m. subst (λ (x : Recovered). InStore old (CrashLeavesSuch (IsOldOrNew (recover old.disk.bytes) x)) m) same)

pub returns-clause-short : goal.returns-clause-short
returns-clause-short g c =
    on_ok_weaker c.commit.result (λ (e : c.commit.new.room.piece ≡ c.piece.result.now). subst (λ p. length p ≤ PIECE_LIMIT) (sym e) c.piece.ensures.short) c.commit.ensures.piece
