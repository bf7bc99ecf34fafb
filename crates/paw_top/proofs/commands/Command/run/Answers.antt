use Rattle.paw_effects.specs.Story.{story_of}
use Rattle.paw_top.proofs.commands.Command.run.Goals as goal

pub returns-in-Compile-clause-comes : goal.returns-in-Compile-clause-comes
returns-in-Compile-clause-comes g c = λ tells X answers. rw c.in-Compile.is (c.compile.ensures.compiles tells)

pub returns-in-Decompile-clause-comes : goal.returns-in-Decompile-clause-comes
returns-in-Decompile-clause-comes g c = λ tells X answers. rw c.in-Decompile.is (c.decompile.ensures.decompiles tells)

pub returns-in-Walk-clause-comes : goal.returns-in-Walk-clause-comes
returns-in-Walk-clause-comes g c = λ tells X answers. rw c.in-Walk.is (c.walk.ensures.walks tells X answers)

pub returns-in-Play-clause-comes : goal.returns-in-Play-clause-comes
returns-in-Play-clause-comes g c = λ tells X answers. rw c.in-Play.is (c.play.ensures.plays tells X answers)

pub returns-in-Play-clause-moments : goal.returns-in-Play-clause-moments
returns-in-Play-clause-moments g c = λ tells X answers.
    rw c.in-Play.is (λ h holds empty. c.play.ensures.any_moment tells (story_of h X) answers holds empty)

pub returns-in-Resume-clause-comes : goal.returns-in-Resume-clause-comes
returns-in-Resume-clause-comes g c = λ tells X answers. rw c.in-Resume.is record {
  again = c.resume.ensures.plays tells X answers;
  goes_on = λ h s holds goes. c.resume.ensures.goes_on tells (story_of h X) s answers holds goes;
}

pub returns-in-Resume-clause-moments : goal.returns-in-Resume-clause-moments
returns-in-Resume-clause-moments g c = λ tells X answers.
    rw c.in-Resume.is (λ h s holds goes. c.resume.ensures.any_moment tells (story_of h X) s answers holds goes)

pub returns-in-Trace-clause-comes : goal.returns-in-Trace-clause-comes
returns-in-Trace-clause-comes g c = λ tells X answers. rw c.in-Trace.is (c.walk-in-Trace.ensures.walks tells X answers)

pub returns-in-Trial-clause-comes : goal.returns-in-Trial-clause-comes
returns-in-Trial-clause-comes g c = λ tells X answers. rw c.in-Trial.is (c.trial.ensures.tries tells)

pub returns-in-Check-clause-comes : goal.returns-in-Check-clause-comes
returns-in-Check-clause-comes g c = λ tells X answers. rw c.in-Check.is (c.check.ensures.checks tells)

pub returns-in-Wrap-clause-comes : goal.returns-in-Wrap-clause-comes
returns-in-Wrap-clause-comes g c = λ tells X answers. rw c.in-Wrap.is (c.wrap.ensures.wraps tells)
