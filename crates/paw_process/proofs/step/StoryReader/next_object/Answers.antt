use Rattle.std.proofs.Common.{sym, ap, ◌∙◌, ◌≡◌, None, List, true}
use Rattle.paw_effects.specs.Story.{story_of}
use Rattle.paw_reading.specs.declared.frames.Frame.{Frame}
use Rattle.paw_reading.specs.Reading.{Left}
use Rattle.paw_reading.specs.inner.GoingOn.{along}
use Rattle.paw_process.proofs.Stops.{goes_from}
use Rattle.paw_process.specs.inner.Moves.{looping}
use Rattle.paw_process.specs.inner.OpenTables.{below}
use Rattle.paw_process.proofs.step.StoryReader.next_object.Goals as goal

pub returns-then-takes_object-clause-meaning : goal.returns-then-takes_object-clause-meaning
returns-then-takes_object-clause-meaning g c X r = rw c.if-takes_object.true at (c.takes_object.ensures.meaning X r)

pub returns-clause-meaning : goal.returns-clause-meaning
returns-clause-meaning g c X r =
    let game = story_of (g.T.Tables.game c.args.self.now.tables.now) X in
    let new = looping c.args.world.now None r in
    let none = c.if-takes_object.false in
    let unset = c.set_open_loop.ensures.value in
    let e : c.leave.new.self.turning ≡ None = ap (λ m. m.turning) c.leave.ensures.same ∙ ap (λ m. m.turning) unset in
    rw (e, c.takes_object.ensures.world none)
    (goes_from game _ _ c.leave.result c.leave.new.self.frames new
    (rw none at (c.takes_object.ensures.meaning X r)
    ∙ ap (λ (fs : List Frame). along game (below fs) (Left true new))
    (sym (ap (λ m. m.frames) unset ∙ ap (λ m. m.frames) (c.takes_object.ensures.same none))))
    (c.leave.ensures.meaning game new))
