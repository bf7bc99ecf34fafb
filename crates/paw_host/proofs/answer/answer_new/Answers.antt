use Rattle.paw_host.proofs.Cited.{◌≡◌, ◌+◌, ◌++◌, ◌∙◌, [], sym, ap, subst, arith, length, Some, None, on_ok_weaker, option_copied, GameLists, Standing, Passes_map, AreAnswersOf, IsAtRest, failed_stage_call, beside_on, serves_then, Story, story_of, session_begun, OpenSession, Absent, At, Answer, answer, begun, InFile, LeftOf, TakesText}
use Rattle.paw_host.proofs.{Answering.not_begun, Answering.just_begun, Answering.begun_then, Answering.in_new_begun, Answering.in_new_taking, Leaving.on_ok_said, Leaving.grown_length, Leaving.promised, Leaving.promised_after, Played.first_refused, Played.first_answer, Played.first_stands, Played.first_in_file, Reaching.no_bytes, Staying.stays_on}
use Rattle.paw_host.proofs.answer.answer_new.Given.{Over}
use Rattle.paw_host.proofs.answer.answer_new.Goals.{After-push_piece}
use Rattle.paw_host.proofs.answer.answer_new.Goals as goal

-- ---- the piece before the first line ----

grows : (g : Over) (c : After-push_piece g) → c.push_piece.new.reply ≡ c.args.reply.now ++ c.begin.new.room.piece
grows g c = c.push_piece.ensures.value (omega (arith, c.requires.room, c.in-Ok.ensures.short))

grown_short : (g : Over) (c : After-push_piece g) → length c.push_piece.new.reply ≡ length c.args.reply.now + length c.begin.new.room.piece
grown_short g c = grown_length c.args.reply.now c.begin.new.room.piece c.push_piece.new.reply (grows g c)

pub answer_text-requires-clause-kept : goal.answer_text-requires-clause-kept
answer_text-requires-clause-kept g c = λ tells. c.in-Ok.ensures.holds.kept (c.begin.ensures.serves.tells.1 tells)

pub answer_text-requires-clause-room : goal.answer_text-requires-clause-room
answer_text-requires-clause-room g c =
    omega (arith, c.requires.room, c.in-Ok.ensures.short, grown_short g (goal.at.answer_text-requires-clause-room g c).After-push_piece)

-- ---- a text is taken ----

pub returns-in-Some-clause-stays : goal.returns-in-Some-clause-stays
returns-in-Some-clause-stays g c = stays_on c.begin.ensures.stays c.answer_text.ensures.stays

pub returns-in-Some-clause-short : goal.returns-in-Some-clause-short
returns-in-Some-clause-short g c =
    omega (arith, c.in-Ok.ensures.short, grown_short g (goal.at.returns-in-Some-clause-short g c).After-push_piece, c.answer_text.ensures.short)

pub returns-in-Some-clause-leaves : goal.returns-in-Some-clause-leaves
returns-in-Some-clause-leaves g c = record {
  serves = serves_then g.S.Stage _ _ (failed_stage_call c.answer_text.result) _ _ _ c.in-Ok.ensures.serves c.answer_text.ensures.leaves.serves;
  beside = λ tells.
      beside_on _ (g.S.Stage.standing c.begin.new.stage) _ (c.begin.ensures.beside tells)
      (c.answer_text.ensures.leaves.beside (c.begin.ensures.serves.tells.0 tells));
  left = λ tells. c.answer_text.ensures.leaves.left (c.begin.ensures.serves.tells.0 tells);
}

pub returns-in-Some-clause-promises : goal.returns-in-Some-clause-promises
returns-in-Some-clause-promises g c = λ tells X answers.
    let story : Story = story_of c.args.player.now.game X in
    let seed = c.args.hosted.now.seed in
    let text = c.in-Some.text.now in
    let old : Standing = g.S.Stage.standing c.args.stage.now in
    let made = c.in-Ok.ensures.promises tells X answers [] in
    let first = first_answer story seed made.meaning.0 in
    let at = ap (λ (a : Answer). a.session) first in
    let own = subst (λ r. AreAnswersOf g.F.Fn r X) (sym c.begin.ensures.stays.routines) answers in
    let taken = subst (λ (h : GameLists). TakesText g.S.Stage c.begin.new.stage c.answer_text.new.stage (story_of h X) c.in-Ok.session.events c.begin.new.player
    c.begin.new.room.piece text c.push_piece.new.reply c.answer_text.new.reply c.answer_text.result) c.begin.ensures.stays.game
    (c.answer_text.ensures.promises (c.begin.ensures.serves.tells.0 tells) X own)
    seed (At seed []) (session_begun story seed []) (begun seed []) (first_stands story seed made.meaning.0) c.in-Ok.ensures.holds.events made.meaning.0 in
    rw (ap option_copied c.in-Some.is) (promised_after taken
    (Passes_map _ _ _ _ _ (InFile (LeftOf story seed Absent (answer story seed Absent (Some text)).session) old) made.any_moment
    (λ m i. in_new_begun story seed (Some text) old m (first_in_file story seed old m i)))
    (on_ok_weaker c.answer_text.result (begun_then story seed text c.args.reply.now c.push_piece.new.reply c.answer_text.new.reply
    (g.S.Stage.standing c.answer_text.new.stage).disk.bytes at
    (grows g (goal.at.returns-in-Some-clause-promises g c).After-push_piece ∙ ap (λ (b : Answer). c.args.reply.now ++ b.body) (sym first))))
    (λ m i. in_new_taking story seed text old (g.S.Stage.standing c.begin.new.stage) m at (c.begin.ensures.beside tells) i))

-- ---- none is ----

pub returns-in-None-clause-short : goal.returns-in-None-clause-short
returns-in-None-clause-short g c =
    omega (arith, c.in-Ok.ensures.short, grown_short g (goal.at.returns-in-None-clause-short g c).After-push_piece)

pub returns-in-None-clause-leaves : goal.returns-in-None-clause-leaves
returns-in-None-clause-leaves g c =
    record { serves = c.in-Ok.ensures.serves; beside = c.begin.ensures.beside; left = λ tells. (c.in-Ok.ensures.holds.kept tells).rests }

pub returns-in-None-clause-promises : goal.returns-in-None-clause-promises
returns-in-None-clause-promises g c = λ tells X answers.
    let story : Story = story_of c.args.player.now.game X in
    let seed = c.args.hosted.now.seed in
    let old : Standing = g.S.Stage.standing c.args.stage.now in
    rw (ap option_copied c.in-None.is) (promised (c.in-Ok.ensures.promises tells X answers [])
    (λ made.
    let first = first_answer story seed made.0 in
    just_begun story seed c.args.reply.now c.push_piece.new.reply (g.S.Stage.standing c.begin.new.stage).disk.bytes (ap (λ (a : Answer). a.session) first)
    (grows g (goal.at.returns-in-None-clause-promises g c).After-push_piece ∙ ap (λ (b : Answer). c.args.reply.now ++ b.body) (sym first))
    (first_stands story seed made.0))
    (λ m i. in_new_begun story seed None old m (first_in_file story seed old m i)))

-- ---- the game isn't begun ----

pub returns-in-Err-clause-leaves : goal.returns-in-Err-clause-leaves
returns-in-Err-clause-leaves g c = record {
  serves = rw c.push_end.ensures.failed c.in-Err.ensures.serves;
  beside = c.begin.ensures.beside;
  left = λ tells. on_ok_said c.push_end.result c.push_end.ensures.says (λ none said.
      subst (λ q. IsAtRest (g.S.Stage.standing q)) (sym (c.in-Err.ensures.still (sym c.push_end.ensures.failed ∙ none))) (c.requires.attached tells).rests);
}

pub returns-in-Err-clause-promises : goal.returns-in-Err-clause-promises
returns-in-Err-clause-promises g c = λ tells X answers.
    let story : Story = story_of c.args.player.now.game X in
    let seed = c.args.hosted.now.seed in
    let text = option_copied c.args.text in
    let old : Standing = g.S.Stage.standing c.args.stage.now in
    promised (c.in-Err.ensures.promises tells X answers [])
    (λ made. on_ok_said c.push_end.result c.push_end.ensures.says (λ none said.
    let fine = sym c.push_end.ensures.failed ∙ none in
    let first = first_refused story seed OpenSession (g.S.Stage.standing c.begin.new.stage) c.begin.new.player c.begin.new.room.piece c.in-Err.end made fine in
    not_begun story seed text c.args.reply.now c.push_end.new.reply _ (ap (λ (a : Answer). a.session) first)
    (said ∙ ap (λ (a : Answer). c.args.reply.now ++ a.body) (sym first))
    (ap (λ q. (g.S.Stage.standing q).disk.bytes) (c.in-Err.ensures.still fine)
    ∙ no_bytes old.disk.bytes (sym (c.requires.attached tells).long ∙ c.requires.empty))))
    (λ m i. in_new_begun story seed text old m (first_in_file story seed old m i))
