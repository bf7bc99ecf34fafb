-- Lists that are made row by row.
use Rattle.std.proofs.Common.{◌≡◌, ℕ, suc, ◌-◌, ◌<◌, ◌≤◌, List, [], ◌∷◌, ◌++◌, length, replicate, refl, sym, ap, ◌∙◌}
use Rattle.std.proofs.Common.{arith, append_assoc}
use Rattle.std.proofs.lemmas.List.{length-append, append-nil}
use Rattle.paw_base.specs.Bytes.{Text, Texts}
use Rattle.paw_base.specs.declared.parts.ObjectFacts.{ObjectFacts}
use Rattle.paw_game.specs.declared.parts.ObjectRow.{ObjectRow}
use Rattle.paw_grammar.specs.GrammarState.{objects_of}

-- ---- a list that is filled up to a length

pub one_filled : {A : Type 0} (a : A) (xs : List A) (count : ℕ) → length xs < count
    → (xs ++ a ∷ []) ++ replicate (count - length (xs ++ a ∷ [])) a ≡ xs ++ replicate (count - length xs) a
one_filled a xs count h =
    let long = length-append xs (a ∷ []) in
    let e : count - length xs ≡ suc (count - length (xs ++ a ∷ [])) = omega (arith, long, h) in
    rw e (append_assoc xs (a ∷ []) (replicate (count - length (xs ++ a ∷ [])) a))

pub all_filled : {A : Type 0} (a : A) (xs : List A) (count : ℕ) → count ≤ length xs → xs ++ replicate (count - length xs) a ≡ xs
all_filled a xs count h =
    let e : count - length xs ≡ 0 = omega (arith, h) in
    rw e (append-nil xs)

-- ---- objects

pub object_more : (done new : List ObjectRow) (old ts : Texts) (t : Text) (rest fs : List ObjectFacts)
    (f : ObjectFacts) (whole : List ObjectRow) → old ≡ t ∷ ts → rest ≡ f ∷ fs
    → new ≡ done ++ (record { text = t; facts = f }) ∷ [] → done ++ objects_of old rest ≡ whole
    → new ++ objects_of ts fs ≡ whole
unfolding objects_of
object_more done new old ts t rest fs f whole next first pushed invariant =
    ap (λ (x : List ObjectRow). x ++ objects_of ts fs) pushed
    ∙ append_assoc done ((record { text = t; facts = f }) ∷ []) (objects_of ts fs)
    ∙ sym (ap (λ (x : Texts). done ++ objects_of x (f ∷ fs)) next)
    ∙ sym (ap (λ (x : List ObjectFacts). done ++ objects_of old x) first)
    ∙ invariant

no_facts : (ts : Texts) → objects_of ts [] ≡ []
unfolding objects_of
no_facts [] = refl
no_facts (t ∷ ts) = refl

empty : {A : Type 0} (xs : List A) → length xs ≡ 0 → xs ≡ []
empty [] h = refl
empty (x ∷ xs) h = absurd (omega (arith, h))

pub objects_cut : (done : List ObjectRow) (ts : Texts) (fs : List ObjectFacts) (whole : List ObjectRow)
    → length fs ≡ 0 → done ++ objects_of ts fs ≡ whole → done ≡ whole
objects_cut done ts fs whole none invariant =
    sym (append-nil done) ∙ sym (ap (λ (x : List ObjectRow). done ++ x) (ap (objects_of ts) (empty fs none) ∙ no_facts ts)) ∙ invariant

no_texts : (fs : List ObjectFacts) → objects_of [] fs ≡ []
unfolding objects_of
no_texts fs = refl

pub objects_end : (done : List ObjectRow) (ts : Texts) (fs : List ObjectFacts) (whole : List ObjectRow)
    → length ts ≡ 0 → done ++ objects_of ts fs ≡ whole → done ≡ whole
objects_end done ts fs whole none invariant =
    sym (append-nil done) ∙ sym (ap (λ (x : List ObjectRow). done ++ x) (ap (λ (x : Texts). objects_of x fs) (empty ts none) ∙ no_texts fs)) ∙ invariant
