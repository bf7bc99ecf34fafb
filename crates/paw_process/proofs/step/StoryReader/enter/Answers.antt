use Rattle.std.proofs.Common.{arith, sym, subst}
use Rattle.paw_effects.specs.Story.{story_of}
use Rattle.paw_reading.specs.declared.frames.Frame.{Frame}
use Rattle.paw_process.specs.inner.Moves.{Enters}
use Rattle.paw_process.proofs.AfterCondacts.{enters_match}
use Rattle.paw_process.proofs.Steps.{going_inside}
use Rattle.paw_process.proofs.step.StoryReader.enter.Goals as goal

pub returns-then-f-gt0-clause-some : goal.returns-then-f-gt0-clause-some
returns-then-f-gt0-clause-some g c =
    let lists = g.T.Tables.game c.args.self.now.tables.now in
    subst (λ (e : Frame). Enters lists c.args.world.now c.args.f e) (sym c.cursor_of.ensures.at)
    (record {
      entry = c.requires.entry c.if-f-gt0.true;
      low = omega arith;
      goes = λ X fs r is. going_inside (story_of lists X) fs c.args.f r c.if-f-gt0.true;
    })

pub returns-clause-some : goal.returns-clause-some
returns-clause-some g c =
    let found = c.match_cursor.ensures in
    (enters_match (g.T.Tables.game c.args.self.now.tables.now) c.args.world.now c.args.f c.match_cursor.result (omega (arith, c.if-f-gt0.false))
    (rw (c.flag-verb.ensures.value, c.flag-noun.ensures.value) at found.value) found.table found.start found.reached found.small).0

pub returns-clause-none : goal.returns-clause-none
returns-clause-none g c =
    let found = c.match_cursor.ensures in
    (enters_match (g.T.Tables.game c.args.self.now.tables.now) c.args.world.now c.args.f c.match_cursor.result (omega (arith, c.if-f-gt0.false))
    (rw (c.flag-verb.ensures.value, c.flag-noun.ensures.value) at found.value) found.table found.start found.reached found.small).1
