-- The moments of calls that follow each other.
use Rattle.std.proofs.Common.{◌≡◌, ◌⊎◌, ℕ, ◌≤◌, inl, inr, sym, ◌∙◌, subst, arith}
use Rattle.paw_stage.specs.Stage.{Standing}
use Rattle.paw_stage.specs.Moments.{Passes}
use Rattle.paw_stage.specs.AcrossCalls.{EachMoment, InTwoParts, first_alone, both}
use Rattle.paw_stage.specs.declared.Stage.{Ghosts}

-- A weaker statement of what stands inside a call.
pub Passes_map : (b n : ℕ) (past since : ℕ → Standing → Type 0) (P Q : Standing → Type 0) → Passes b n past since P →
    ((m : Standing) → P m → Q m) → Passes b n past since Q
Passes_map b n past since P Q h f = record {
  later = h.later;
  nothing_else = λ t m low now. elim (h.nothing_else t m low now) [ inl q ↦ inl q | inr q ↦ inr (q.0, f m q.1) ];
  stays = h.stays;
}

-- Two calls, one after the other.
pub Passes_on : (b n n' : ℕ) (past since since' : ℕ → Standing → Type 0) (P Q : Standing → Type 0) →
    Passes b n past since P → Passes n n' since since' Q → ((m : Standing) → Q m → P m) → Passes b n' past since' P
Passes_on b n n' past since since' P Q h k f = record {
  later = omega (arith, h.later, k.later);
  nothing_else = λ t m low now. elim (k.nothing_else t m (omega (arith, h.later)) now) [
    | inl q ↦ elim (h.nothing_else t m low q) [
      | inl p ↦ inl p
      | inr p ↦ inr (λ u early. k.stays u m (omega (arith, early, h.later)) (p.0 u early), p.1)
    ]
    | inr q ↦ inr (λ u early. q.0 u (omega (arith, early, h.later)), f m q.1)
  ];
  stays = λ t m low past. k.stays t m (omega (arith, h.later)) (h.stays t m low past);
}

-- No time passed.
pub Passes_none : (b : ℕ) (since : ℕ → Standing → Type 0) (P : Standing → Type 0) → Passes b b since since P
Passes_none b since P = record { later = omega arith; nothing_else = λ t m low now. inl now; stays = λ t m low past. past }

-- The same moments, once each is mapped: so is what stands inside the call.
pub Passes_image : (b n : ℕ) (past since : ℕ → Standing → Type 0) (P : Standing → Type 0) (f g : Standing → Standing) →
    ((s : Standing) → g s ≡ f s) → Passes b n past since P →
    Passes b n (λ t x. (s : Standing) × past t s × (x ≡ f s)) (λ t x. (s : Standing) × since t s × (x ≡ g s))
    (λ x. (s : Standing) × P s × (x ≡ f s))
Passes_image b n past since P f g same h = record {
  later = h.later;
  nothing_else = λ t x low now. elim (h.nothing_else t now.0 low now.1) [
    | inl p ↦ inl (now.0, p, now.2 ∙ same now.0)
    | inr p ↦ inr (λ u early. (now.0, p.0 u early, now.2), (now.0, p.1, now.2 ∙ same now.0))
  ];
  stays = λ t x low old. (old.0, h.stays t old.0 low old.1, old.2 ∙ sym (same old.0));
}

-- ---- what stands now ----

module _ {S : Type 0} (g : Ghosts S) (only : (s : S) (m : Standing) → g.Tells s → g.since s (g.clock s) m → m ≡ g.standing s)
    (counts : (s : S) (t : ℕ) → g.Tells s → t ≤ g.clock s → g.since s t (g.standing s)) (old new : S) (now : g.Tells new)
  where
    -- What stands after calls stood before them, or at a moment inside them.
    pub now_inside : (Inside : Standing → Type 0) → g.Tells old → EachMoment g old new Inside →
        (g.standing new ≡ g.standing old) ⊎ Inside (g.standing new)
    now_inside Inside tells h = elim (h.nothing_else (g.clock old) (g.standing new) (omega arith) (counts new (g.clock old) now h.later)) [
      | inl past ↦ inl (only old (g.standing new) tells past)
      | inr inside ↦ inr inside.1
    ]

    -- Of calls in two parts it is a moment of the first, or of the second.
    pub now_in_parts : (Before After : Standing → Type 0) → g.Tells old → Before (g.standing old) → InTwoParts g old new Before After →
        Before (g.standing new) ⊎ After (g.standing new)
    now_in_parts Before After tells first (first_alone h) = elim (now_inside Before tells h) [
      | inl same ↦ inl (subst Before (sym same) first)
      | inr inside ↦ inl inside
    ]
    now_in_parts Before After tells first (both mid early late after h) = inr (after (g.standing new) (counts new mid now late))
