use Rattle.paw_host.proofs.Cited.{◌≡◌, ◌+◌, suc, None, Some, inl, inr, refl, sym, subst, arith, EVENT_LIMIT, now_inside, Passes_on, Passes_none, serves_none, serves_then, AreAnswersOf, story_of, host_failure, HasTaken, Answered, InHost, IsServing, ServesLine}
use Rattle.paw_host.proofs.{Leaving.promised, Leaving.promised_after, Staying.stays_same, Staying.stays_on, Staying.hosted_on, Hosting.serving_first, Hosting.at_first, Hosting.hosts_by, Hosting.taken_none, Hosting.taken_more, Hosting.ends_by}
use Rattle.paw_host.proofs.lines.Seats.serve_all.Goals as goal

pub loop-init : goal.loop-init
loop-init g c = record {
  stays = stays_same c.requires.hosted.prepared.seated;
  few = omega arith;
  serves = serves_none g.S.Stage _ _;
  synced = c.requires.synced;
  taken = λ tells. taken_none _;
  promises = λ tells X answers first b. record {
    meaning = serving_first _ _ first _ b
        (record { stable = c.requires.synced tells; files = λ name e. g.met.S.Stage.files_hold c.args.stage.now name tells e });
    any_moment = Passes_none _ _ _;
  };
}

pub returns-in-Some-clause-serves : goal.returns-in-Some-clause-serves
returns-in-Some-clause-serves g c = serves_then g.S.Stage _ _ (host_failure c.in-Some.outcome) _ _ _ c.loop.invariant.serves c.in-Some.ensures.serves

pub returns-in-Some-clause-ends : goal.returns-in-Some-clause-ends
returns-in-Some-clause-ends g c = λ tells.
    let i = c.loop.invariant in
    ends_by (g.S.Stage.standing c.args.stage.now) (g.S.Stage.standing c.loop.stage) (g.S.Stage.standing c.serve.new.stage) c.loop.counter c.in-Some.outcome
    (i.taken tells) c.loop-test.true (c.in-Some.ensures.takes (i.serves.tells.0 tells)) c.in-Some.ensures.serves.among

pub returns-clause-ends : goal.returns-clause-ends
returns-clause-ends g c = λ tells.
    let i = c.loop.invariant in
    let all : c.loop.counter ≡ EVENT_LIMIT = omega (arith, i.few, c.loop-test.false) in
    (refl, subst (HasTaken (g.S.Stage.standing c.args.stage.now) (g.S.Stage.standing c.loop.stage)) all (i.taken tells))

pub returns-in-Some-clause-promises : goal.returns-in-Some-clause-promises
returns-in-Some-clause-promises g c = λ tells X answers first b.
    let i = c.loop.invariant in
    let seed = c.args.hosted.now.seed in
    let start = g.S.Stage.standing c.args.stage.now in
    let story = story_of c.args.self.now.player.game X in
    let so_far = i.promises tells X answers first b in
    let here = i.serves.tells.0 tells in
    let served = subst (λ k. ServesLine g.S.Stage c.loop.stage c.serve.new.stage (story_of k X) seed (Some c.in-Some.outcome)) i.stays.game
    (c.in-Some.ensures.promises here X (subst (λ r. AreAnswersOf g.F.Fn r X) (sym i.stays.routines) answers))
    first start c.loop.counter (omega arith) b.lines so_far.meaning in
    let passes = Passes_on _ _ _ _ _ _ (InHost story seed first start) _ so_far.any_moment served.any_moment (λ m j. j) in
    record {
      meaning = hosts_by story seed first start (g.S.Stage.standing c.serve.new.stage) c.loop.counter c.in-Some.outcome served.meaning
          (elim (now_inside g.S.Stage g.met.S.Stage.only_now g.met.S.Stage.counts_now c.args.stage.now c.serve.new.stage
          (c.serve.ensures.serves.tells.0 here) (InHost story seed first start) tells passes) [
            | inl same ↦ at_first story seed first start b
                (record { stable = c.requires.synced tells; files = λ name e. g.met.S.Stage.files_hold c.args.stage.now name tells e }) _ same
            | inr inside ↦ inside
          ]);
      any_moment = passes;
    }

pub returns-clause-promises : goal.returns-clause-promises
returns-clause-promises g c = λ tells X answers first b.
    let i = c.loop.invariant in
    let all : c.loop.counter ≡ EVENT_LIMIT = omega (arith, i.few, c.loop-test.false) in
    promised (i.promises tells X answers first b) (λ s. (
      refl,
      subst (Answered (story_of c.args.self.now.player.game X) c.args.hosted.now.seed first (g.S.Stage.standing c.args.stage.now)
          (g.S.Stage.standing c.loop.stage)) all s.answered,
    )) (λ m j. j)

pub loop-preserved : goal.loop-preserved
loop-preserved g c =
    let i = c.loop.invariant in
    let seed = c.args.hosted.now.seed in
    let start = g.S.Stage.standing c.args.stage.now in
    let next = g.S.Stage.standing c.serve.new.stage in
    record {
      stays = stays_on i.stays c.serve.ensures.stays;
      few = omega (arith, c.loop-test.true);
      serves = serves_then g.S.Stage _ _ None _ _ _ i.serves c.in_default.ensures.serves;
      synced = λ tells. c.in_default.ensures.synced (c.serve.ensures.serves.tells.1 tells);
      taken = λ tells.
          taken_more start (g.S.Stage.standing c.loop.stage) next c.loop.counter (i.taken tells) (c.in_default.ensures.takes (i.serves.tells.0 tells));
      promises = λ tells X answers first b.
          let so_far = i.promises tells X answers first b in
          let served = subst (λ k. ServesLine g.S.Stage c.loop.stage c.serve.new.stage (story_of k X) seed None) i.stays.game
          (c.in_default.ensures.promises (i.serves.tells.0 tells) X (subst (λ r. AreAnswersOf g.F.Fn r X) (sym i.stays.routines) answers))
          first start c.loop.counter (omega arith) b.lines so_far.meaning in
          let n : suc c.loop.counter ≡ c.loop.counter + 1 = omega arith in
          promised_after served so_far.any_moment (λ s. subst (IsServing (story_of c.args.self.now.player.game X) seed first start next) n s) (λ m j. j);
    }

pub serve-requires-clause-hosted : goal.serve-requires-clause-hosted
serve-requires-clause-hosted g c = hosted_on c.requires.hosted c.loop.invariant.stays
