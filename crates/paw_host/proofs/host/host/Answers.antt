use Rattle.paw_host.proofs.Cited.{◌∙◌, sym, ap, subst, sha256, game_read, story_of, IsStable, Standing, Passes_map, Passes_on, in_front, behind, serves_among, serves_still, serves_then, session_calls, load_calls, host_failure, store_name, BeginsWith, InHost, holds_loaded, left_as_read}
use Rattle.paw_host.proofs.{Hosting.at_first, Loading.same_story, Loading.unloaded, Loading.undecoded, Loading.hosted}
use Rattle.paw_host.proofs.host.host.Goals as goal

pub host_game-requires-clause-digests : goal.host_game-requires-clause-digests
host_game-requires-clause-digests g c = record {
  digest = c.digest.ensures.value ∙ ap sha256 (c.bytes.ensures.value ∙ c.bytes.ensures.image.spelled);
  measured = c.measure.ensures.value;
}

pub host_game-requires-clause-synced : goal.host_game-requires-clause-synced
host_game-requires-clause-synced g c = λ tells.
    let before = c.load.ensures.serves.tells.1 tells in
    subst (λ (q : Standing). IsStable q.disk) (sym (c.in-Ok.ensures.some before).3) (c.requires.synced before)

pub returns-in-Err-clause-comes : goal.returns-in-Err-clause-comes
returns-in-Err-clause-comes g c = λ tells. rw c.in-Some.ensures.value
    (λ X answers. unloaded X c.in-Some.call.image.now c.in-Some.call.seed _ _ c.in-Err.outcome (c.in-Err.ensures.none tells))

pub returns-in-Err-view_in-clause-comes : goal.returns-in-Err-view_in-clause-comes
returns-in-Err-view_in-clause-comes g c = λ tells. rw c.in-Some.ensures.value
    (λ X answers. undecoded X c.in-Some.call.image.now _ _ c.in-Some.call.seed _ _ c.in-Err-view_in.outcome c.as_slice.ensures.value
    (c.in-Ok.ensures.some tells) c.in-Err-view_in.ensures.none)

pub returns-clause-comes : goal.returns-clause-comes
returns-clause-comes g c = λ tells. rw c.in-Some.ensures.value
    (λ X answers.
    let f = c.in-Ok.ensures.some tells in
    let game = game_read c.in-Ok-view_in.view in
    hosted X c.in-Some.call.image.now c.in-Some.call.seed _ _ _ c.host_game.result game
    (holds_loaded c.in-Some.call.image.now _ _ _ _ game c.as_slice.ensures.value f c.in-Ok-view_in.ensures.found) f.3
    (c.host_game.ensures.ends (c.load.ensures.serves.tells.0 tells))
    (λ first b. (c.host_game.ensures.promises (c.load.ensures.serves.tells.0 tells) X answers first b).meaning))

pub returns-in-Err-clause-moments : goal.returns-in-Err-clause-moments
returns-in-Err-clause-moments g c = λ tells. rw c.in-Some.ensures.value
    (λ X answers k first holds b.
    Passes_map _ _ _ _ _ _ (c.load.ensures.time tells) (at_first (story_of k X) c.in-Some.call.seed first _ b
    (record { stable = c.requires.synced tells; files = λ name e. g.met.S.Stage.files_hold c.args.stage.now name tells e })))

pub returns-in-Err-view_in-clause-moments : goal.returns-in-Err-view_in-clause-moments
returns-in-Err-view_in-clause-moments g c = λ tells. rw c.in-Some.ensures.value
    (λ X answers k first holds b.
    Passes_map _ _ _ _ _ _ (c.load.ensures.time tells) (at_first (story_of k X) c.in-Some.call.seed first _ b
    (record { stable = c.requires.synced tells; files = λ name e. g.met.S.Stage.files_hold c.args.stage.now name tells e })))

pub returns-clause-moments : goal.returns-clause-moments
returns-clause-moments g c = λ tells. rw c.in-Some.ensures.value
    (λ X answers k first holds b.
    let f = c.in-Ok.ensures.some tells in
    let old : Standing = g.S.Stage.standing c.args.stage.now in
    let seed = c.in-Some.call.seed in
    let game = game_read c.in-Ok-view_in.view in
    let same = same_story old c.in-Some.call.image.now game k X
    (holds_loaded c.in-Some.call.image.now _ _ _ _ game c.as_slice.ensures.value f c.in-Ok-view_in.ensures.found) holds in
    Passes_on _ _ _ _ _ _ (InHost (story_of k X) seed first old) _
    (Passes_map _ _ _ _ _ (InHost (story_of k X) seed first old) (c.load.ensures.time tells)
    (at_first (story_of k X) seed first old b
    (record { stable = c.requires.synced tells; files = λ name e. g.met.S.Stage.files_hold c.args.stage.now name tells e })))
    (c.host_game.ensures.promises (c.load.ensures.serves.tells.0 tells) X answers first
    (subst (λ q. BeginsWith (story_of game X) first q) (sym f.3) (subst (λ s. BeginsWith s first old) (sym same) b))).any_moment
    (λ m i. subst (λ s. InHost s seed first old m) same (subst (λ q. InHost (story_of game X) seed first q m) f.3 i)))

pub returns-in-None-clause-left : goal.returns-in-None-clause-left
returns-in-None-clause-left g c = λ tells name is.
    left_as_read g.S.Stage g.met.S.Stage.only_now g.met.S.Stage.counts_now g.met.S.Stage.may_stay g.met.S.Stage.files_hold c.args.stage.now (store_name name) tells

pub returns-in-Err-clause-left : goal.returns-in-Err-clause-left
returns-in-Err-clause-left g c = λ tells name is.
    left_as_read g.S.Stage g.met.S.Stage.only_now g.met.S.Stage.counts_now g.met.S.Stage.may_stay g.met.S.Stage.files_hold c.load.new.stage (store_name name) (c.load.ensures.serves.tells.0 tells)

pub returns-in-Err-view_in-clause-left : goal.returns-in-Err-view_in-clause-left
returns-in-Err-view_in-clause-left g c = λ tells name is.
    left_as_read g.S.Stage g.met.S.Stage.only_now g.met.S.Stage.counts_now g.met.S.Stage.may_stay g.met.S.Stage.files_hold c.load.new.stage (store_name name) (c.load.ensures.serves.tells.0 tells)

pub returns-clause-left : goal.returns-clause-left
returns-clause-left g c = λ tells name is.
    left_as_read g.S.Stage g.met.S.Stage.only_now g.met.S.Stage.counts_now g.met.S.Stage.may_stay g.met.S.Stage.files_hold c.host_game.new.stage (store_name name) (c.host_game.ensures.serves.tells.0 (c.load.ensures.serves.tells.0 tells))

pub returns-in-Err-clause-serves : goal.returns-in-Err-clause-serves
returns-in-Err-clause-serves g c = serves_among g.S.Stage _ _ (host_failure c.in-Err.outcome) _ _ (in_front load_calls session_calls) c.in-Err.ensures.serves

pub returns-in-Err-view_in-clause-serves : goal.returns-in-Err-view_in-clause-serves
returns-in-Err-view_in-clause-serves g c =
    serves_still g.S.Stage load_calls _ (host_failure c.in-Err-view_in.outcome) _ _ c.in-Err-view_in.ensures.fine c.in-Ok.ensures.serves

pub returns-clause-serves : goal.returns-clause-serves
returns-clause-serves g c =
    serves_then g.S.Stage load_calls _ (host_failure c.host_game.result) _ _ _ c.in-Ok.ensures.serves
    (serves_among g.S.Stage _ _ (host_failure c.host_game.result) _ _ (behind load_calls session_calls) c.host_game.ensures.serves)
