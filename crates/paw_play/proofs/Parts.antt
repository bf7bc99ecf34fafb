-- The moments of a session in two parts: before its store is attached, and from then on.
use Rattle.paw_play.proofs.Names.{◌≡◌, ◌⊎◌, ℕ, ◌≤◌, refl, sym, ◌∙◌, subst, arith, inl, inr, Name, Standing, Unattached, made_if_missing, InAttach, EachMoment, InTwoParts, first_alone, both, Ghosts, Passes_map, Passes_on, NotYet, Passes}

-- Each moment inside a call is one since its beginning.
passes_since : {b n : ℕ} {past since : ℕ → Standing → Type 0} {P : Standing → Type 0} → Passes b n past since P → Passes b n past since (since b)
passes_since {b} h = record {
  later = h.later;
  nothing_else = λ t m low is. elim (h.nothing_else t m low is) [ inl q ↦ inl q | inr q ↦ inr (q.0, q.0 b (omega arith)) ];
  stays = h.stays;
}

-- Calls up to a turn, at which such a moment stands, and calls from there on.
two_parts : {S : Type 0} (g : Ghosts S) (old mid new : S) (Before After : Standing → Type 0) →
    ((m : Standing) → g.since mid (g.clock mid) m → m ≡ g.standing mid) →
    g.since mid (g.clock mid) (g.standing mid) → After (g.standing mid) →
    EachMoment g old mid (λ m. Before m ⊎ (m ≡ g.standing mid)) → EachMoment g mid new After →
    InTwoParts g old new Before After
two_parts g old mid new Before After only counts turned h k =
    both (g.clock mid) h.later k.later
    (λ m is. elim (k.nothing_else (g.clock mid) m (omega arith) is) [
      | inl p ↦ subst After (sym (only m p)) turned
      | inr q ↦ q.1
    ])
    (Passes_on _ _ _ _ _ _ (λ m. Before m ⊎ g.since new (g.clock mid) m) (g.since new (g.clock mid))
    (Passes_map _ _ _ _ _ (λ m. Before m ⊎ g.since new (g.clock mid) m) h (λ m i. elim i [
      | inl b ↦ inl b
      | inr e ↦ inr (k.stays (g.clock mid) m (omega arith) (subst (λ x. g.since mid (g.clock mid) x) (sym e) counts))
    ])) (passes_since k) (λ m i. inr i))

-- Calls that belong to the first part come before.
pub then_two_parts : {S : Type 0} (g : Ghosts S) (old mid new : S) (Before After : Standing → Type 0) → EachMoment g old mid Before →
    InTwoParts g mid new Before After → InTwoParts g old new Before After
then_two_parts g old mid new Before After h (first_alone k) = first_alone (Passes_on _ _ _ _ _ _ Before Before h k (λ m i. i))
then_two_parts g old mid new Before After h (both turn low high all k) =
    both turn (omega (arith, h.later, low)) high all
    (Passes_on _ _ _ _ _ _ (λ m. Before m ⊎ g.since new turn m) (λ m. Before m ⊎ g.since new turn m)
    (Passes_map _ _ _ _ Before (λ m. Before m ⊎ g.since new turn m) h (λ m i. inl i)) k (λ m i. i))

-- ---- before the store is attached ----

pub not_yet : (name : Name) (old m : Standing) → m ≡ old → NotYet name old m
not_yet name old m e = subst (NotYet name old) (sym e) (record { asked = refl; shown = refl; files = inl refl; store = inl (refl, refl) })

made_yet : (name : Name) (old m : Standing) →
    m ≡ record old { files = made_if_missing name (old.files name) old.files } → NotYet name old m
made_yet name old m e = subst (NotYet name old) (sym e) (record { asked = refl; shown = refl; files = inr refl; store = inl (refl, refl) })

-- Inside the attach, or at its end.
in_attach : (old new : Standing) (name : Name) (m : Standing) → InAttach old new name m → NotYet name old m ⊎ (m ≡ new)
in_attach old new name m (inl e) = inl (not_yet name old m e)
in_attach old new name m (inr (inl e)) = inl (made_yet name old m e)
in_attach old new name m (inr (inr e)) = inr e

unattached_yet : (old new : Standing) (name : Name) (m : Standing) → Unattached old new → m ≡ new → NotYet name old m
unattached_yet old new name m (inl is) e = not_yet name old m (e ∙ is)
unattached_yet old new name m (inr is) e =
    subst (NotYet name old) (sym (e ∙ is)) (record { asked = refl; shown = refl; files = inl refl; store = inr refl })

-- Inside an attach that failed.
in_failed_attach : (old new : Standing) (name : Name) (m : Standing) → Unattached old new → InAttach old new name m → NotYet name old m
in_failed_attach old new name m left i = elim (in_attach old new name m i) [
  | inl n ↦ n
  | inr e ↦ unattached_yet old new name m left e
]

-- ---- an attach, and what comes after it ----

-- An attach that failed, and nothing more.
pub attach_failed : {S : Type 0} (g : Ghosts S) (old new : S) (name : Name) (After : Standing → Type 0) →
    Unattached (g.standing old) (g.standing new) →
    EachMoment g old new (InAttach (g.standing old) (g.standing new) name) → InTwoParts g old new (NotYet name (g.standing old)) After
attach_failed g old new name After left h =
    first_alone (Passes_map _ _ _ _ _ (NotYet name (g.standing old)) h
    (λ m i. in_failed_attach (g.standing old) (g.standing new) name m left i))

-- An attach by which the second part begins, with what a stage says of the moment at which it stands.
pub then_attached : {S : Type 0} (g : Ghosts S) →
    ((s : S) (m : Standing) → g.Tells s → g.since s (g.clock s) m → m ≡ g.standing s) →
    ((s : S) (t : ℕ) → g.Tells s → t ≤ g.clock s → g.since s t (g.standing s)) →
    (old mid new : S) (name : Name) (After : Standing → Type 0) → g.Tells mid → After (g.standing mid) →
    EachMoment g old mid (InAttach (g.standing old) (g.standing mid) name) → EachMoment g mid new After →
    InTwoParts g old new (NotYet name (g.standing old)) After
then_attached g only counts old mid new name After now turned h k =
    two_parts g old mid new (NotYet name (g.standing old)) After (λ m is. only mid m now is) (counts mid (g.clock mid) now (omega arith)) turned
    (Passes_map _ _ _ _ _ _ h (in_attach (g.standing old) (g.standing mid) name)) k
