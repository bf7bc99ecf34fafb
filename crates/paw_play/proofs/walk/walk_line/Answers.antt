use Rattle.paw_play.proofs.Names.{refl, sym, subst, inl, NotesShown, serves_done, serves_then, failed_so_far}
use Rattle.paw_play.proofs.Walking.{walks_on, none_left, none_asked}
use Rattle.paw_play.proofs.walk.walk_line.Goals as goal

pub returns-in-Line-clause-meaning : goal.returns-in-Line-clause-meaning
returns-in-Line-clause-meaning g c = λ tells X answers whole most n first w few.
    let a = c.in-Line.ensures.answer tells in
    let keeps = subst (NotesShown g.P.Preface.showing) (sym c.take-step.ensures.most) w.keeps in
    walks_on w c.requires.seated _ _ a.0 a.1 a.2.same most _ c.take-step.new.self c.take-step.result c.show_step.result few keeps
    c.take-step.ensures.seated c.take-step.ensures.last a.3 (c.take-step.ensures.meaning X answers w.prompt w.waits w.pieces w.traces)
    (c.show_step.ensures.meaning (c.ask.ensures.tells.0 tells))

pub returns-in-End-clause-meaning : goal.returns-in-End-clause-meaning
returns-in-End-clause-meaning g c = λ tells X answers whole most n first w few. none_left w c.requires.seated most _ few (c.in-End.ensures.answer tells)

pub returns-in-Failed-clause-meaning : goal.returns-in-Failed-clause-meaning
returns-in-Failed-clause-meaning g c = λ tells X answers whole most n first w few. none_asked w c.requires.seated most _ few (c.in-Failed.ensures.answer tells)

pub returns-in-Line-clause-serves : goal.returns-in-Line-clause-serves
returns-in-Line-clause-serves g c = serves_then g.S.Stage _ _ (failed_so_far c.show_step.result) _ _ _
    (serves_done g.S.Stage _ _ c.ask.ensures.tells c.in-Line.ensures.counts_failure) c.show_step.ensures.serves

pub returns-in-End-clause-serves : goal.returns-in-End-clause-serves
returns-in-End-clause-serves g c = record { tells = c.ask.ensures.tells; counts_failure = c.in-End.ensures.counts_failure; among = tt }

pub returns-in-Failed-clause-serves : goal.returns-in-Failed-clause-serves
returns-in-Failed-clause-serves g c = record { tells = c.ask.ensures.tells; counts_failure = c.in-Failed.ensures.counts_failure; among = inl refl }
