use Rattle.std.proofs.Common.{◌≡◌, [], length, ap, ◌∙◌, refl, arith}
use Rattle.paw_effects.specs.Story.{story_of}
use Rattle.paw_phrase.specs.Pending.{PendingLine}
use Rattle.paw_turn.proofs.Phrasing.{sentence_moves, unknown_moves, none_moves, sentence_shorter, unknown_shorter}
use Rattle.paw_turn.proofs.Falling.{falls_up}
use Rattle.paw_turn.specs.inner.Phases.{with_world_and_line}
use Rattle.paw_turn.proofs.turn.PlayState.phrase.Goals as goal

pub returns-in-Sentence-clause-meaning : goal.returns-in-Sentence-clause-meaning
returns-in-Sentence-clause-meaning g c X =
    sentence_moves (story_of (g.T.Tables.game c.args.tables.now) X) c.args.self.now
    (with_world_and_line c.count_turn.new.world c.take_phrase.new.pending c.args.self.now)
    c.take_phrase.new.world c.in-Sentence.ensures.value c.count_turn.ensures.value refl refl

pub returns-in-Sentence-clause-falls : goal.returns-in-Sentence-clause-falls
returns-in-Sentence-clause-falls g c = omega (arith, sentence_shorter _ _ _ _ _ c.in-Sentence.ensures.value)

pub returns-in-Nothing-clause-meaning : goal.returns-in-Nothing-clause-meaning
returns-in-Nothing-clause-meaning g c X =
    let v = c.in-Nothing.ensures.value in
    unknown_moves (story_of (g.T.Tables.game c.args.tables.now) X) c.args.self.now c.say.new.self c.say.result _ c.take_phrase.new.world c.drop_line.new.self
    v.0 v.1 (c.drop_line.ensures.value ∙ ap (λ e. record { bytes = []; earlier = e }) v.2) (c.say.ensures.meaning X)

pub returns-in-Nothing-clause-falls : goal.returns-in-Nothing-clause-falls
returns-in-Nothing-clause-falls g c =
    let none : length c.drop_line.new.self.bytes ≡ 0 = ap (λ (p : PendingLine). length p.bytes) c.drop_line.ensures.value in
    falls_up _ _ c.say.result c.say.new.self (omega (arith, unknown_shorter _ _ _ _ _ c.in-Nothing.ensures.value)) c.say.ensures.falls

pub returns-in-Empty-clause-meaning : goal.returns-in-Empty-clause-meaning
returns-in-Empty-clause-meaning g c X =
    let v = c.in-Empty.ensures.value in
    none_moves (story_of (g.T.Tables.game c.args.tables.now) X)
    c.args.self.now c.prompt.new.self c.prompt.result c.take_phrase.new.world c.take_phrase.new.pending
    v.0 v.1 v.2 (c.prompt.ensures.meaning X)
