use Rattle.paw_play.proofs.Names.{◌≡◌, ◌≤◌, ◌∙◌, length, sym, subst, on_ok_weaker, PIECE_LIMIT, Standing, Digests, Recovered, digests_of, InStore, CrashLeavesSuch, IsUnmadeOr, writes_weaker}
use Rattle.paw_play.proofs.{States.shown_as, Written.made_same}
use Rattle.paw_play.proofs.line.make.Goals as goal

pub create-requires-clause-rests : goal.create-requires-clause-rests
create-requires-clause-rests g c = λ tells. (c.requires.attached tells).rests

pub create-requires-clause-attached : goal.create-requires-clause-attached
create-requires-clause-attached g c = λ tells. (c.requires.attached tells).long

pub returns-clause-call : goal.returns-clause-call
returns-clause-call g c =
    let old : Standing = g.S.Stage.standing c.args.stage.now in
    let whose : Digests = digests_of c.args.game.now c.args.rules.now in
    let same = shown_as whose c.state_after-state.ensures.state c.piece.ensures.value in
    writes_weaker c.create.ensures.call
    (λ tells done. record {
      exact = done.exact ∙ made_same whose _ _ _ _ c.state_after-state.ensures.base c.piece.ensures.value;
      shown = done.shown ∙ same;
      digests = done.digests;
    })
    (λ tells m. subst (λ (x : Recovered). InStore old (CrashLeavesSuch (IsUnmadeOr x)) m) same)

pub returns-clause-short : goal.returns-clause-short
returns-clause-short g c =
    on_ok_weaker c.create.result (λ (e : c.create.new.room.piece ≡ c.piece.result.now). subst (λ p. length p ≤ PIECE_LIMIT) (sym e) c.piece.ensures.short) c.create.ensures.piece
