use Rattle.paw_play.proofs.Names.{◌≡◌, Result, Ok, Err, OnOk, OnErr, Text, Standing, ShowsTo, InShow, with_shown, Failed}
use Rattle.paw_play.proofs.show.show.Goals as goal

-- What a show that was done leaves, and one that failed.
done : {A : Type 0} (old new : Standing) (text : Text) (r : Result A Failed) → ShowsTo old new text r → OnOk r (new ≡ with_shown text old)
done old new text (Ok a) h = h
done old new text (Err e) h = tt

failed : {A : Type 0} (old new : Standing) (text : Text) (r : Result A Failed) → ShowsTo old new text r → OnErr r (InShow old text new)
failed old new text (Ok a) h = tt
failed old new text (Err e) h = h

pub returns-clause-shown : goal.returns-clause-shown
returns-clause-shown g c tells = done _ _ c.args.text.now c.show.result (c.show.ensures.answer tells)

pub returns-clause-part : goal.returns-clause-part
returns-clause-part g c tells = failed _ _ c.args.text.now c.show.result (c.show.ensures.answer tells)
