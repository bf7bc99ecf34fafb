-- What stands inside an attach, part by part.
use Rattle.std.proofs.Common.{◌≡◌, ◌⊎◌, inl, inr, ap, ◌∙◌}
use Rattle.paw_base.specs.Bytes.{Name}
use Rattle.paw_stage.specs.Stage.{Standing, Unattached, made_if_missing, with_store_opened}
use Rattle.paw_stage.specs.Stage.{InAttach}

-- A missing file may be there already, and the store is that before the call or that after it.
pub record AttachParts (old new : Standing) (name : Name) (m : Standing) : Type 0 where
  pub asked : m.asked ≡ old.asked
  pub shown : m.shown ≡ old.shown
  pub files : (m.files ≡ old.files) ⊎ (m.files ≡ made_if_missing name (old.files name) old.files)
  pub store : ((m.attached ≡ old.attached) × (m.disk ≡ old.disk)) ⊎ ((m.attached ≡ new.attached) × (m.disk ≡ new.disk))

at_old : (old new : Standing) (name : Name) (m : Standing) → m ≡ old → AttachParts old new name m
at_old old new name m e = record {
  asked = ap (λ (q : Standing). q.asked) e;
  shown = ap (λ (q : Standing). q.shown) e;
  files = inl (ap (λ (q : Standing). q.files) e);
  store = inl (ap (λ (q : Standing). q.attached) e, ap (λ (q : Standing). q.disk) e);
}

at_made : (old new : Standing) (name : Name) (m : Standing) →
    m ≡ record old { files = made_if_missing name (old.files name) old.files } → AttachParts old new name m
at_made old new name m e = record {
  asked = ap (λ (q : Standing). q.asked) e;
  shown = ap (λ (q : Standing). q.shown) e;
  files = inr (ap (λ (q : Standing). q.files) e);
  store = inl (ap (λ (q : Standing). q.attached) e, ap (λ (q : Standing). q.disk) e);
}

at_new : (old new : Standing) (name : Name) (m : Standing) → new.asked ≡ old.asked → new.shown ≡ old.shown →
    (new.files ≡ old.files) ⊎ (new.files ≡ made_if_missing name (old.files name) old.files) → m ≡ new →
    AttachParts old new name m
at_new old new name m asked shown files e = record {
  asked = ap (λ (q : Standing). q.asked) e ∙ asked;
  shown = ap (λ (q : Standing). q.shown) e ∙ shown;
  files = elim files [ inl f ↦ inl (ap (λ (q : Standing). q.files) e ∙ f) | inr f ↦ inr (ap (λ (q : Standing). q.files) e ∙ f) ];
  store = inr (ap (λ (q : Standing). q.attached) e, ap (λ (q : Standing). q.disk) e);
}

-- Inside an attach that was done.
pub attach_parts : (old new : Standing) (name : Name) (m : Standing) → new ≡ with_store_opened name old → InAttach old new name m →
    AttachParts old new name m
attach_parts old new name m is (inl e) = at_old old new name m e
attach_parts old new name m is (inr (inl e)) = at_made old new name m e
attach_parts old new name m is (inr (inr e)) =
    at_new old new name m (ap (λ (q : Standing). q.asked) is) (ap (λ (q : Standing). q.shown) is)
    (inr (ap (λ (q : Standing). q.files) is)) e

-- Inside an attach that failed.
pub unattached_parts : (old new : Standing) (name : Name) (m : Standing) → Unattached old new → InAttach old new name m →
    AttachParts old new name m
unattached_parts old new name m is (inl e) = at_old old new name m e
unattached_parts old new name m is (inr (inl e)) = at_made old new name m e
unattached_parts old new name m (inl is) (inr (inr e)) =
    at_new old new name m (ap (λ (q : Standing). q.asked) is) (ap (λ (q : Standing). q.shown) is)
    (inl (ap (λ (q : Standing). q.files) is)) e
unattached_parts old new name m (inr is) (inr (inr e)) =
    at_new old new name m (ap (λ (q : Standing). q.asked) is) (ap (λ (q : Standing). q.shown) is)
    (inl (ap (λ (q : Standing). q.files) is)) e
