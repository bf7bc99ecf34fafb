-- The attach of a session's store.
use Rattle.paw_play.proofs.Names.{◌≡◌, ◌≢◌, ℕ, [], ◌∷◌, Option, Some, None, Ok, refl, sym, ap, ◌∙◌, subst, length, inl, inr, Bytes, Name, MayLeave, stable, Standing, Files, bytes_or_none, made_if_missing, AttachesTo, stable_is, stable_leaves, IsUnmade, PlayedSession, InPlay, InMaking, InNewSession, attached_to, store_bytes, IsRestingStore, holds_same, holds_other, recover, recover_by}

pub no_bytes : (bytes : Bytes) → length bytes ≡ 0 → bytes ≡ []
no_bytes [] h = refl
no_bytes (b ∷ bytes) h = cc

-- ---- files ----

there_by : (name : Name) (files : Files) (file : Option Bytes) → files name ≡ file → made_if_missing name file files name ≡ Some (bytes_or_none file)
there_by name files None e = holds_same name (Some []) files
there_by name files (Some bytes) e = e

is_there : (name : Name) (files : Files) → made_if_missing name (files name) files name ≡ Some (bytes_or_none (files name))
is_there name files = there_by name files (files name) refl

other_by : (name n : Name) (files : Files) (file : Option Bytes) → n ≢ name → made_if_missing name file files n ≡ files n
other_by name n files None ne = holds_other name n (Some []) files ne
other_by name n files (Some bytes) ne = refl

-- Another file than the store's is as it was.
pub other_file : (old : Standing) (name n : Name) → n ≢ name → (attached_to old name).files n ≡ old.files n
other_file old name n ne = other_by name n old.files (old.files name) ne

-- ---- the store ----

pub store_attached : (old : Standing) (name : Name) → IsRestingStore name (attached_to old name)
store_attached old name = record { attached = refl; stable = stable_is (store_bytes old name); file = is_there name old.files }

pub store_empty : (old new : Standing) (name : Name) (n : ℕ) → AttachesTo old new name (Ok n) → n ≡ 0 → store_bytes old name ≡ []
store_empty old new name n a e = no_bytes (store_bytes old name) (sym a.0 ∙ e)

-- No bytes are no session.
none_unmade : (image : Bytes) → image ≡ [] → IsUnmade (recover image)
unfolding recover recover_by
none_unmade image e = rw e tt

-- ---- moments ----

-- An empty store was attached.
pub at_new_attach : (s : PlayedSession) (old new : Standing) → new ≡ attached_to old s.name → store_bytes old s.name ≡ [] →
    InNewSession s old new
at_new_attach s old new is empty = inl (record {
  asked = ap (λ (q : Standing). q.asked) is;
  shown = ap (λ (q : Standing). q.shown) is;
  attached = ap (λ (q : Standing). q.attached) is;
  files = λ n ne. ap (λ (q : Standing). q.files n) is ∙ other_file old s.name n ne;
  leaves = λ image may. inl (none_unmade image
      (stable_leaves (stable (store_bytes old s.name)) image (stable_is (store_bytes old s.name))
      (subst (λ d. MayLeave d image) (ap (λ (q : Standing). q.disk) is) may) ∙ empty));
})

-- What holds from the attached store on holds from before the attach.
making_from : (s : PlayedSession) (old m : Standing) → InMaking s (attached_to old s.name) m → InMaking s old m
making_from s old m i = record {
  asked = i.asked;
  shown = i.shown;
  attached = i.attached;
  files = λ n ne. i.files n ne ∙ other_file old s.name n ne;
  leaves = i.leaves;
}

pub playing_from : (s : PlayedSession) (old m : Standing) → InPlay s (attached_to old s.name) m → InPlay s old m
playing_from s old m i = record {
  taken = i.taken;
  text = i.text;
  last = i.last;
  there = i.there;
  few = i.few;
  asked = i.asked;
  shown = i.shown;
  before = i.before;
  attached = i.attached;
  files = λ n ne. i.files n ne ∙ other_file old s.name n ne;
  leaves = i.leaves;
}

pub new_from : (s : PlayedSession) (old m : Standing) → InNewSession s (attached_to old s.name) m → InNewSession s old m
new_from s old m (inl i) = inl (making_from s old m i)
new_from s old m (inr i) = inr (playing_from s old m i)
