use Rattle.std.proofs.Common.{◌∷◌, length, subst, sym, take}
use Rattle.std.specs.List.{concat}
use Rattle.sha2.specs.Hashers.{Holds256}
use Rattle.paw_routines.proofs.Measures.{concat-more}
use Rattle.paw_routines.proofs.routines.Routines.measure.Goals as goal

pub loop-n-preserved : goal.loop-n-preserved
loop-n-preserved g c = λ X stand.
    subst (λ message. Holds256 c.update-in-loop-n.new.self (length X ∷ message))
    (sym (concat-more X c.loop-n.n c.answers_of.result (c.answers_of.ensures.value X stand)))
    (c.update-in-loop-n.ensures (length X ∷ concat (take c.loop-n.n X)) (c.loop-n.invariant X stand))
