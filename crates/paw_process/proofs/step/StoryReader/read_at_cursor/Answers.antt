use Rattle.std.proofs.Common.{refl, sym, arith, None}
use Rattle.paw_game.proofs.ValidGames.{condact-early}
use Rattle.paw_game.proofs.Right.{right_at}
use Rattle.paw_effects.specs.Story.{story_of}
use Rattle.paw_process.proofs.Readings.{reads_nothing}
use Rattle.paw_process.proofs.Steps.{reading_end}
use Rattle.paw_process.specs.inner.Meaning.{having, run_held}
use Rattle.paw_process.specs.inner.Moves.{reading_at}
use Rattle.paw_process.specs.inner.AfterCondact.{frame_of, moved_on}
use Rattle.paw_process.specs.inner.OpenTables.{below}
use Rattle.paw_process.specs.inner.Work.{counts}
use Rattle.paw_process.specs.declared.after_condact.AfterCondact.TheVariants as after_condact
use Rattle.paw_process.proofs.step.StoryReader.read_at_cursor.Goals as goal

pub read-requires-clause-at : goal.read-requires-clause-at
read-requires-clause-at g c =
    let old = c.args.cursor.now in
    rw c.frame_at-f.ensures.value
    (record {
      at = condact-early (g.T.Tables.game c.args.self.now.tables.now) c.requires.valid old.table old.entry old.at c.in-Some.c (sym c.in-Some.ensures.value);
      entry = c.requires.entry;
    })

pub read-requires-clause-found : goal.read-requires-clause-found
read-requires-clause-found g c = rw c.frame_at-f.ensures.value (sym c.in-Some.ensures.value)

pub read-requires-clause-condact : goal.read-requires-clause-condact
read-requires-clause-condact g c =
    let old = c.args.cursor.now in
    right_at (g.T.Tables.game c.args.self.now.tables.now) c.requires.valid old.table old.entry old.at c.in-Some.c (sym c.in-Some.ensures.value)

pub returns-in-None-clause-meaning : goal.returns-in-None-clause-meaning
returns-in-None-clause-meaning g c X answers =
    let game = story_of (g.T.Tables.game c.args.self.now.tables.now) X in
    let f = frame_of c.args.cursor.now c.args.acted in
    let fs = below c.args.machine.now.frames in
    let old = having c.args.surroundings.now c.args.machine.now in
    reads_nothing game (reading_at game fs f) old None (having c.args.surroundings.now (moved_on f after_condact.NextEntry c.args.machine.now))
    (record { left = refl; steps = refl })
    (λ r. reading_end game fs f (run_held old r) (sym c.in-None.ensures.value))

pub returns-in-Some-clause-meaning : goal.returns-in-Some-clause-meaning
returns-in-Some-clause-meaning g c X answers = rw c.frame_at-f.ensures.value at (c.read.ensures.meaning X answers)

pub returns-in-Some-clause-progress : goal.returns-in-Some-clause-progress
returns-in-Some-clause-progress g c none = counts (omega (arith, rw c.frame_at-f.ensures.value at (c.read.ensures.counts none)))
