-- The facts of a game's objects, one after the other.
use Rattle.std.proofs.Common.{◌≡◌, ℕ, zero, suc, ◌+◌, ◌<◌, List, [], ◌∷◌, ◌++◌, Some, length, map, take, set, slice_get}
use Rattle.std.proofs.Common.{sym, ap, ◌∙◌, add-one}
use Rattle.std.specs.Option.{option_map}
use Rattle.std.proofs.Math.Seq.{take-suc-set}
use Rattle.paw_base.specs.declared.parts.ObjectFacts.{ObjectFacts}
use Rattle.paw_game.specs.declared.parts.ObjectRow.{ObjectRow}

-- The facts of these objects.
abbrev pub facts_all : List ObjectRow → List ObjectFacts
facts_all os = map (λ o. o.facts) os

one_more : (os : List ObjectRow) (o : ℕ) (f : ObjectFacts) → option_map (λ (r : ObjectRow). r.facts) (slice_get os o) ≡ Some f
    → take (suc o) (facts_all os) ≡ take o (facts_all os) ++ f ∷ []
one_more [] zero f is = cc
one_more [] (suc o) f is = cc
one_more (r ∷ os) zero f is = let e : r.facts ≡ f = cc in ap (λ (x : ObjectFacts). x ∷ []) e
one_more (r ∷ os) (suc o) f is = ap (λ (xs : List ObjectFacts). r.facts ∷ xs) (one_more os o f is)

-- The facts of one more object are copied.
pub taken_more : (os : List ObjectRow) (facts : List ObjectFacts) (o : ℕ) (f : ObjectFacts) → o < length facts
    → option_map (λ (r : ObjectRow). r.facts) (slice_get os o) ≡ Some f
    → take o facts ≡ take o (facts_all os) → take (o + 1) (set facts o f) ≡ take (o + 1) (facts_all os)
taken_more os facts o f within is before =
    rw (add-one) (take-suc-set facts o f within ∙ (ap (λ (xs : List ObjectFacts). xs ++ f ∷ []) before ∙ sym (one_more os o f is)))
