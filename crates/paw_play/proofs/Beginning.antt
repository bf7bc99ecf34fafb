-- A new session, from its begin on.
use Rattle.paw_play.proofs.Names.{◌≡◌, inl, inr, Some, None, refl, sym, ap, ◌∙◌, Err, Text, Story, Standing, PlayerView, ChangesStoreOnly, PlayEnd, PlayedSession, InMaking, MadeAndPlayed, halts, unmade, call_of_end, IsRestingStore, BeginsTo, InBeginning}
use Rattle.paw_reading.specs.declared.halt.Halt.TheVariants as halt
use Rattle.paw_play.specs.declared.PlayEnd.TheVariants as end
use Rattle.paw_play.proofs.Playing.{stays_by, stays_at_rest}

-- All but the store stands as it did.
beside_is : (first kept : Standing) → ChangesStoreOnly first kept → kept ≡ record first { files = kept.files; attached = kept.attached; disk = kept.disk; written = kept.written }
beside_is first kept b =
    ap (λ x. record kept { lines = x }) b.lines ∙ ap (λ x. record kept { lines = first.lines; asked = x }) b.asked
    ∙ ap (λ x. record kept { lines = first.lines; asked = first.asked; shown = x }) b.shown

module _ (A : Type 0) {F : Type 0} (g : Story) (s : PlayedSession) (first now : Standing) (next : PlayerView F) (piece : Text) (store : IsRestingStore s.name first)
    (beside : ChangesStoreOnly first now) where
  -- No session is made.
  pub begun_ends : (o : PlayEnd) → BeginsTo {A = A} g s now next piece (Err o) → (call_of_end o ≡ None → now ≡ first) → MadeAndPlayed s first now o
  begun_ends (end.Outside c) h still = unmade c h (beside_is first now beside) (stays_by s.name first first now beside (stays_at_rest s.name first store))
  begun_ends (end.Spent kind) h still = let k = h.1 in halts (end.Spent kind) (halt.Spent kind) k.0 refl refl k.1 (still refl)
  begun_ends (end.TooDeep table) h still = let k = h.1 in halts (end.TooDeep table) (halt.TooDeep table) k.0 refl refl k.1 (still refl)
  begun_ends end.Ended h still = let e = h.0 in cc
  begun_ends _ h still = absurd h

-- While it is begun.
pub in_making : (s : PlayedSession) (first m : Standing) → IsRestingStore s.name first → InBeginning s first m → InMaking s first m
in_making s first m store i = record {
  asked = i.asked;
  shown = i.shown;
  attached = i.attached ∙ store.attached;
  files = λ f other. i.files f (λ e. let a : Some s.name ≡ Some f = sym store.attached ∙ e in other (cc));
  leaves = λ image may. elim (i.disk image may) [
    | inl u ↦ inl u.1
    | inr k ↦ inr k
  ];
}
