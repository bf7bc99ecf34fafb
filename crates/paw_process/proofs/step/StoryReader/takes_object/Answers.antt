use Rattle.std.proofs.Common.{arith, sym, ap, ◌∙◌, ◌≡◌, add-one, Some, ℕ, ◌∷◌, true, ◌+◌}
use Rattle.std.specs.Prelude.{Option}
use Rattle.paw_effects.specs.Story.{story_of}
use Rattle.paw_reading.specs.declared.frames.Frame.{Frame}
use Rattle.paw_process.proofs.Steps.{turning_some, turning_none}
use Rattle.paw_process.proofs.Taking.{left_above_low, taken_above}
use Rattle.paw_process.proofs.Works.{taking_falls}
use Rattle.paw_process.specs.inner.Objects.{least_taken}
use Rattle.paw_world.specs.inner.Places.{left_above}
use Rattle.paw_process.specs.inner.Moves.{looping}
use Rattle.paw_process.specs.inner.OpenTables.{below}
use Rattle.paw_process.proofs.step.StoryReader.takes_object.Goals as goal

pub returns-in-Some-clause-meaning : goal.returns-in-Some-clause-meaning
returns-in-Some-clause-meaning g c X r =
    rw (c.set_top.ensures.value, c.set_open_loop.ensures.value, c.take.ensures.value, add-one)
    (turning_some (story_of (g.T.Tables.game c.args.self.now.tables.now) X) (below c.args.machine.now.frames) c.args.l _
    (looping c.args.world.now c.args.machine.now.turning r) c.in-Some.o c.requires.level
    (omega (arith, left_above_low c.args.world.now c.args.above, c.requires.ready.game.places)) (sym c.in-Some.ensures.value))

pub returns-in-Some-clause-falls : goal.returns-in-Some-clause-falls
returns-in-Some-clause-falls g c took is above =
    let w = c.args.world.now in
    let next : Option ℕ → Option ℕ = λ a. least_taken (g.T.Tables.game c.args.self.now.tables.now) w c.args.l.place (left_above w.places a) in
    let found : Some c.in-Some.o ≡ next (Some c.args.l.last) = c.in-Some.ensures.value ∙ ap next above in
    let f : Frame = record { table = c.args.l.table; entry = c.args.l.entry; at = c.args.l.at + 1; acted = true } in
    taking_falls c.args.machine.now c.set_top.new.self f c.args.l (record c.args.l { last = c.in-Some.o }) is
    (ap (λ m. m.frames) c.set_top.ensures.value ∙ ap (λ m. f ∷ below m.frames) c.set_open_loop.ensures.value)
    (ap (λ m. m.turning) c.set_top.ensures.value ∙ ap (λ m. m.turning) c.set_open_loop.ensures.value)
    (taken_above _ w c.args.l.place c.args.l.last c.in-Some.o c.requires.ready.game.places found) (omega arith)

pub returns-in-None-clause-meaning : goal.returns-in-None-clause-meaning
returns-in-None-clause-meaning g c X r =
    turning_none (story_of (g.T.Tables.game c.args.self.now.tables.now) X) (below c.args.machine.now.frames) c.args.l _
    (looping c.args.world.now c.args.machine.now.turning r) (sym c.in-None.ensures.value)
