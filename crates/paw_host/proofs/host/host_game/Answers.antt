use Rattle.paw_host.proofs.Cited.{refl, sym, subst, AreAnswersOf, HaveAnswers, story_of, Passes_none, HostsWithMoments}
use Rattle.paw_host.proofs.Staying.{digests_on}
use Rattle.paw_host.proofs.host.host_game.Goals as goal

pub serve_all-requires-clause-hosted : goal.serve_all-requires-clause-hosted
serve_all-requires-clause-hosted g c = record {
  prepared = record {
    seated = c.in-Ok.ensures.seated;
    answers = subst (HaveAnswers g.F.Fn) (sym c.in-Ok.ensures.routines) c.requires.answers;
    digests = digests_on g.F.Fn _ _ _ _ _ _ (sym c.in-Ok.ensures.game) (sym c.in-Ok.ensures.routines) c.requires.digests;
  };
  same = c.in-Ok.ensures.game;
}

pub returns-in-Ok-clause-promises : goal.returns-in-Ok-clause-promises
returns-in-Ok-clause-promises g c = λ tells X answers.
    subst (λ k. HostsWithMoments g.S.Stage c.args.stage.now c.serve_all.new.stage (story_of k X) c.args.hosted.now.seed c.serve_all.result)
    c.in-Ok.ensures.game
    (c.serve_all.ensures.promises tells X (subst (λ r. AreAnswersOf g.F.Fn r X) (sym c.in-Ok.ensures.routines) answers))

pub returns-in-Err-clause-promises : goal.returns-in-Err-clause-promises
returns-in-Err-clause-promises g c = λ tells X answers first b. record { meaning = refl; any_moment = Passes_none _ _ _ }
