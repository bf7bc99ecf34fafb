-- From a store at rest to one that is attached, and what a crash leaves of all files meanwhile.
use Rattle.paw_host.proofs.Cited.{◌≡◌, ◌≢◌, ◌⊎◌, inl, inr, [], Option, Some, None, refl, sym, ap, ◌∙◌, subst, length, ◌∷◌, if◌then◌else◌, Bytes, Name, Seed, Disk, MayLeave, stable, Standing, Files, file_bytes, bytes_or_none, made_if_missing, with_store_opened, Unattached, InAttach, IsUnmade, Recovered, Shown, Digests, ChangesStoreOnly, stable_is, stable_leaves, beside_none, in_later, Story, MayBeLeft, other_file, NamedSession, Absent, At, From, Refused, Stores, InFile, InAnswer, IsAside, LeftOf, StoresEither, Rests, recover, recover_by}
use Rattle.paw_host.proofs.Named.{by_name}

-- A moment at which nothing is done yet: all rests, and each file has the bytes that it had.
pub record IsBefore (name : Name) (old m : Standing) : Type 0 where
  pub asked : m.asked ≡ old.asked
  pub shown : m.shown ≡ old.shown
  pub files : (f : Name) → f ≢ name → m.files f ≡ old.files f
  pub attached : (m.attached ≡ old.attached) ⊎ (m.attached ≡ Some name) ⊎ (m.attached ≡ None)
  pub rests : Rests m
  pub same : (f : Name) → file_bytes m f ≡ file_bytes old f

-- At rest.
pub rest_left : (s : Standing) → Rests s → (f bytes : Bytes) → MayBeLeft f s bytes → bytes ≡ file_bytes s f
rest_left s rests f bytes (inl h) = stable_leaves s.disk bytes rests.stable h.1 ∙ sym (rests.files f h.0)
rest_left s rests f bytes (inr h) = h.1

-- ---- the attach ----

made_by : (name f : Name) (files : Files) (file : Option Bytes) → files name ≡ file →
    bytes_or_none (made_if_missing name file files f) ≡ bytes_or_none (files f)
made_by name f files (Some bytes) e = refl
made_by name f files None e =
    by_name (λ b. bytes_or_none (if b then Some [] else files f) ≡ bytes_or_none (files f)) f name (λ same. sym (ap bytes_or_none (ap files same ∙ e)))
    (λ other. refl)

made_bytes : (old : Standing) (name f : Name) → bytes_or_none ((with_store_opened name old).files f) ≡ file_bytes old f
made_bytes old name f = made_by name f old.files (old.files name) refl

same_name : (name f : Name) → ◌≡◌ {A = Option Name} (Some name) (Some f) → name ≡ f
same_name name f e = cc

module _ (old new : Standing) (name : Name) (rests : Rests old) where
  before_it : IsBefore name old old
  before_it = record { asked = refl; shown = refl; files = λ f ne. refl; attached = inl refl; rests = rests; same = λ f. refl }

  made_it : IsBefore name old (record old { files = made_if_missing name (old.files name) old.files })
  made_it = record {
    asked = refl;
    shown = refl;
    files = λ f ne. other_file old name f ne;
    attached = inl refl;
    rests = record { stable = rests.stable; files = λ f e. made_bytes old name f ∙ rests.files f e };
    same = made_bytes old name;
  }

  opened_it : IsBefore name old (with_store_opened name old)
  opened_it = record {
    asked = refl;
    shown = refl;
    files = λ f ne. other_file old name f ne;
    attached = inr (inl refl);
    rests = record {
      stable = stable_is (file_bytes old name);
      files = λ f e. made_bytes old name f ∙ ap (file_bytes old) (sym (same_name name f e));
    };
    same = made_bytes old name;
  }

  unattached_it : Unattached old new → IsBefore name old new
  unattached_it (inl e) = subst (λ q. IsBefore name old q) (sym e) before_it
  unattached_it (inr e) = subst (λ q. IsBefore name old q) (sym e)
      (record {
        asked = refl;
        shown = refl;
        files = λ f ne. refl;
        attached = inr (inr refl);
        rests = record { stable = stable_is []; files = λ f e. let no : ◌≡◌ {A = Option Name} None (Some f) = e in cc };
        same = λ f. refl;
      })

  -- Inside the attach.
  pub in_attach : (new ≡ with_store_opened name old) ⊎ Unattached old new → (m : Standing) → InAttach old new name m → IsBefore name old m
  in_attach how m (inl e) = subst (IsBefore name old) (sym e) before_it
  in_attach how m (inr (inl e)) = subst (IsBefore name old) (sym e) made_it
  in_attach how m (inr (inr e)) = subst (IsBefore name old) (sym e) (elim how [
    | inl is ↦ subst (λ q. IsBefore name old q) (sym is) opened_it
    | inr u ↦ unattached_it u
  ])

-- ---- a moment of the attached store ----

-- What holds of whatever a crash leaves of it, by less, and from a store beside which nothing has changed.
pub in_file_on : {Left Then : Bytes → Type 0} {old mid m : Standing} → ChangesStoreOnly old mid → InFile Left mid m →
    ((bytes : Bytes) → Left bytes → Then bytes) → InFile Then old m
in_file_on {Left} {Then} {old} {mid} {m} beside i f = in_later old mid (λ (d : Disk). (image : Bytes) → MayLeave d image → Left image)
    (λ (d : Disk). (image : Bytes) → MayLeave d image → Then image) m beside (λ d h image may. f image (h image may)) i

pub in_file : {Left Then : Bytes → Type 0} {old m : Standing} → InFile Left old m → ((bytes : Bytes) → Left bytes → Then bytes) → InFile Then old m
in_file {old} i f = in_file_on (beside_none old) i f

-- ---- a session that is asked for something ----

module _ (g : Story) (seed : Seed) (name : Name) (before after : NamedSession) (old : Standing) (stores : Stores g before (file_bytes old name)) where
  -- Before anything is done.
  pub answer_before : (m : Standing) → IsBefore name old m → InAnswer g seed name before after old m
  answer_before m i = record {
    asked = i.asked;
    shown = i.shown;
    files = i.files;
    others = λ f ne bytes may. rest_left m i.rests f bytes may ∙ i.same f;
    attached = i.attached;
    left = λ bytes may. inl (subst (Stores g before) (sym (rest_left m i.rests name bytes may ∙ i.same name)) stores);
  }

  -- Once the store is attached.
  pub answer_in_file : (m : Standing) → InFile (LeftOf g seed before after) (with_store_opened name old) m → InAnswer g seed name before after old m
  answer_in_file m i = record {
    asked = i.asked;
    shown = i.shown;
    files = still;
    others = λ f ne bytes may. elim may [
      | inl h ↦ absurd (ne (sym (same_name name f (sym i.attached ∙ h.0))))
      | inr h ↦ h.1 ∙ ap bytes_or_none (still f ne)
    ];
    attached = inr (inl i.attached);
    left = λ bytes may. elim may [
      | inl h ↦ elim (i.disk bytes h.1) [ inl b ↦ inl b | inr a ↦ inr (i.attached, a) ]
      | inr h ↦ absurd (h.0 i.attached)
    ];
  }
    where
      still : (f : Name) → f ≢ name → m.files f ≡ old.files f
      still f ne = i.files f (λ e. ne (sym (same_name name f e))) ∙ other_file old name f ne

-- From a store with no bytes, of which there is no session.
pub answer_in_new : (g : Story) (seed : Seed) (name : Name) (before after : NamedSession) (old mid : Standing) (m : Standing) →
    Stores g before (file_bytes old name) → before ≡ Absent → mid ≡ with_store_opened name old → InFile (LeftOf g seed Absent after) mid m →
    InAnswer g seed name before after old m
answer_in_new g seed name before after old mid m stores none is i =
    answer_in_file g seed name before after old stores m
    (subst (λ s. InFile (LeftOf g seed s after) (with_store_opened name old) m) (sym none) (subst (λ q. InFile (LeftOf g seed Absent after) q m) is i))

-- From a store with bytes.
pub answer_in_kept : (g : Story) (seed : Seed) (name : Name) (before after : NamedSession) (old mid : Standing) (m : Standing) →
    Stores g before (file_bytes old name) → mid ≡ with_store_opened name old → InFile (StoresEither g before after) mid m →
    InAnswer g seed name before after old m
answer_in_kept g seed name before after old mid m stores is i =
    answer_in_file g seed name before after old stores m
    (in_file (subst (λ q. InFile (StoresEither g before after) q m) is i) (λ bytes h. elim h [ inl b ↦ inl b | inr a ↦ inr (inl a) ]))

-- ---- what it leaves ----

pub no_bytes : (bytes : Bytes) → length bytes ≡ 0 → bytes ≡ []
no_bytes [] h = refl
no_bytes (b ∷ bytes) h = cc

-- No bytes are no session.
pub unmade : (bytes : Bytes) → bytes ≡ [] → IsUnmade (recover bytes)
unfolding recover recover_by
unmade bytes e = rw e tt

pub not_shown : (r : Recovered) (d : Digests) (state piece : Bytes) → IsUnmade r → r ≡ Shown d state piece → ⊥
not_shown r d state piece h e = subst IsUnmade e h

pub none_stored : (g : Story) (before : NamedSession) (bytes : Bytes) → bytes ≡ [] → Stores g before bytes → before ≡ Absent
none_stored g Absent bytes e h = refl
none_stored g (At own es) bytes e h = absurd (not_shown (recover bytes) _ _ _ (unmade bytes e) h.keeps.shown)
none_stored g (From st piece) bytes e h = absurd (not_shown (recover bytes) _ _ _ (unmade bytes e) h.shows.shown)
none_stored g (Refused kept) bytes e h = absurd (h.1.0 (sym h.0 ∙ e))

-- An attach that failed.
pub aside_unattached : (name : Name) (old new : Standing) → Unattached old new → IsAside name old new
aside_unattached name old new (inl e) = subst (IsAside name old) (sym e) (record { lines = refl; asked = refl; shown = refl; files = λ f ne. refl })
aside_unattached name old new (inr e) = subst (IsAside name old) (sym e) (record { lines = refl; asked = refl; shown = refl; files = λ f ne. refl })

module _ (name : Name) (old mid new : Standing) (is : mid ≡ with_store_opened name old) (b : ChangesStoreOnly mid new) where
  -- The store is attached still.
  pub attached_still : new.attached ≡ Some name
  attached_still = b.attached ∙ ap (λ (q : Standing). q.attached) is

  -- And all else as it was.
  pub aside_beside : IsAside name old new
  aside_beside = record {
    lines = b.lines ∙ ap (λ (q : Standing). q.lines) is;
    asked = b.asked ∙ ap (λ (q : Standing). q.asked) is;
    shown = b.shown ∙ ap (λ (q : Standing). q.shown) is;
    files = λ f ne. b.files f (λ e. ne (sym (same_name name f (sym (ap (λ (q : Standing). q.attached) is) ∙ e))))
        ∙ (ap (λ (q : Standing). q.files f) is ∙ other_file old name f ne);
  }
