-- The moments of one call more in a record of calls.
use Rattle.std.proofs.Common.{◌≡◌, ◌≢◌, ◌⊎◌, ℕ, zero, suc, ◌≤◌, List, [], ◌∷◌, ◌++◌, length, take, drop, inl, inr, refl, sym}
use Rattle.std.proofs.Common.{ap, ◌∙◌, subst, arith, append-nil}
use Rattle.std.proofs.Common.{length-append}
use Rattle.std.specs.Prelude.{Option, Some, None, Bool, true, false, if◌then◌else◌}
use Rattle.std.specs.Str.{bytes_eq}
use Rattle.std.proofs.lemmas.Slice.Eq.{bytes_eq-Decides}
use Rattle.std.proofs.Math.Seq.{take-length}
use Rattle.paw_base.specs.Bytes.{Bytes, Name}
use Rattle.paw_stage.specs.Disk.{Disk, MayStay, disk_written, stable}
use Rattle.paw_stage.specs.Stage.{Standing, Saves, bytes_or_none}
use Rattle.paw_stage.specs.Moments.{Passes}
use Rattle.paw_stage.specs.inner.Done.{DoneCall, fresh, standing_after, after_call_of, after, is_attached, file_replaced}
use Rattle.paw_stage.specs.inner.Replay.{MayStand, StandsInside, StoodInside, since_of}
use Rattle.paw_stage.specs.inner.Staying.{stable_stays, either_stays, after_stays}
use Rattle.paw_stage.specs.declared.log.CallKind.{CallKind}
use Rattle.paw_stage.specs.declared.log.CallKind.TheVariants as kind
use Rattle.paw_stage.proofs.Logs.{after-push}

-- What stands before a call is inside it.
begins : (k : CallKind) (name bytes : Bytes) (s m : Standing) → m ≡ s → MayStand k name bytes s m
begins kind.Add name bytes s m e = inl e
begins kind.Load name bytes s m e = e
begins kind.Save name bytes s m e = inl e
begins kind.Attach name bytes s m e = inl e
begins kind.Read name bytes s m e = e
begins (kind.Write at) name bytes s m e = inl e
begins kind.Sync name bytes s m e = inl e
begins kind.Take name bytes s m e = inl e
begins kind.End name bytes s m e = e
begins kind.Show name bytes s m e = (0, e ∙ ap (λ t. record s { shown = t }) (sym (append-nil s.shown)))

-- The disk of a saved file's store.
not_attached : (a : Option Name) (name : Name) (x y : Disk) → a ≢ Some name → (if is_attached a name then x else y) ≡ y
not_attached None name x y ne = refl
not_attached (Some n) name x y ne = other (bytes_eq n name) (λ e. ne (ap Some ((bytes_eq-Decides n name).0 e)))
  where
    other : (b : Bool) → (b ≡ true → ⊥) → (if b then x else y) ≡ y
    other true h = absurd (h refl)
    other false h = refl

attached_yes : (a : Option Name) (name : Name) (x y : Disk) → a ≡ Some name → (if is_attached a name then x else y) ≡ x
attached_yes a name x y e = ap (λ o. if is_attached o name then x else y) e ∙ ap (λ b. if b then x else y) ((bytes_eq-Decides name name).1 refl)

pub saves : (s new : Standing) (name : Name) (bytes : Option Bytes) → MayStay s.disk → new ≡ file_replaced name bytes s →
    Saves s new name bytes
saves s new name bytes h e =
    record {
      disk = (file_replaced name bytes s).disk;
      apart = λ ne. not_attached s.attached name (stable (bytes_or_none bytes)) s.disk ne;
      store = λ is. ap (λ d. d.bytes) (attached_yes s.attached name (stable (bytes_or_none bytes)) s.disk is);
      stays = either_stays (is_attached s.attached name) (stable (bytes_or_none bytes)) s.disk (stable_stays (bytes_or_none bytes)) h;
      stands = e;
    }

-- What stands after a call is inside it.
ends : (k : CallKind) (name bytes : Bytes) (s m : Standing) → MayStay s.disk → m ≡ after_call_of k name bytes s →
    MayStand k name bytes s m
ends kind.Add name bytes s m h e = inr e
ends kind.Load name bytes s m h e = e
ends kind.Save name bytes s m h e = inr (Some bytes, saves s m name (Some bytes) h e)
ends kind.Attach name bytes s m h e = inr (inr e)
ends kind.Read name bytes s m h e = e
ends (kind.Write at) name bytes s m h e =
    inr (disk_written at (length bytes) bytes s.disk, length bytes, inr (bytes, omega arith, refl), omega arith, e)
ends kind.Sync name bytes s m h e = inr e
ends kind.Take name bytes s m h e = inr e
ends kind.End name bytes s m h e = e
ends kind.Show name bytes s m h e = (length bytes, e ∙ ap (λ t. record s { shown = s.shown ++ t }) (sym (take-length bytes)))

split : (s : Standing) (ds : List DoneCall) (d : DoneCall) (m : Standing) → StoodInside s (ds ++ d ∷ []) m → StoodInside s ds m ⊎ StandsInside (after s ds) d m
split s [] d m (inl h) = inr h
split s [] d m (inr h) = absurd h
split s (x ∷ ds) d m (inl h) = inl (inl h)
split s (x ∷ ds) d m (inr h) = elim (split (standing_after s x) ds d m h) [ inl k ↦ inl (inr k) | inr k ↦ inr k ]

first : (s : Standing) (ds : List DoneCall) (d : DoneCall) (m : Standing) → StoodInside s ds m → StoodInside s (ds ++ d ∷ []) m
first s [] d m h = absurd h
first s (x ∷ ds) d m (inl h) = inl h
first s (x ∷ ds) d m (inr h) = inr (first (standing_after s x) ds d m h)

last : (s : Standing) (ds : List DoneCall) (d : DoneCall) (m : Standing) → StandsInside (after s ds) d m → StoodInside s (ds ++ d ∷ []) m
last s [] d m h = inl h
last s (x ∷ ds) d m h = inr (last (standing_after s x) ds d m h)

after_split : (s : Standing) (t : ℕ) (ds : List DoneCall) → after (after s (take t ds)) (drop t ds) ≡ after s ds
after_split s zero ds = refl
after_split s (suc t) [] = refl
after_split s (suc t) (d ∷ ds) = after_split (standing_after s d) t ds

take_push : (t : ℕ) (ds : List DoneCall) (d : DoneCall) → t ≤ length ds → (take t (ds ++ d ∷ []) ≡ take t ds) × (drop t (ds ++ d ∷ []) ≡ drop t ds ++ d ∷ [])
take_push zero ds d h = (refl, refl)
take_push (suc t) [] d h = absurd (omega arith)
take_push (suc t) (x ∷ ds) d h =
    let k : (take t (ds ++ d ∷ []) ≡ take t ds) × (drop t (ds ++ d ∷ []) ≡ drop t ds ++ d ∷ []) = take_push t ds d (omega arith) in (ap (λ l. x ∷ l) k.0, k.1)

-- What stood inside the last call stood since each time up to it.
since_each : (ds : List DoneCall) (d : DoneCall) (m : Standing) → StandsInside (after fresh ds) d m → (u : ℕ) → u ≤ length ds → since_of (ds ++ d ∷ []) u m
since_each ds d m h u early = inr (let q = take_push u ds d early in
    subst (λ l. StoodInside (after fresh l) (drop u (ds ++ d ∷ [])) m) (sym q.0)
    (subst (λ l. StoodInside (after fresh (take u ds)) l m) (sym q.1)
    (last (after fresh (take u ds)) (drop u ds) d m (subst (λ s. StandsInside s d m) (sym (after_split fresh u ds)) h))))

-- One call more.
pub passes : (ds : List DoneCall) (d : DoneCall) → Passes (length ds) (length (ds ++ d ∷ [])) (since_of ds) (since_of (ds ++ d ∷ []))
    (StandsInside (after fresh ds) d)
passes ds d =
    record {
      later = omega (arith, length-append ds (d ∷ []));
      nothing_else = λ t m low h. elim h [
        | inl k ↦
            let j = ends d.kind d.name d.bytes (after fresh ds) m (after_stays ds) (subst (λ s. m ≡ s) (after-push fresh ds d) k) in
            inr (since_each ds d m j, j)
        | inr k ↦ let q = take_push t ds d low in
            elim (split (after fresh (take t ds)) (drop t ds) d m
            (subst (λ l. StoodInside (after fresh (take t ds)) l m) q.1
            (subst (λ l. StoodInside (after fresh l) (drop t (ds ++ d ∷ [])) m) q.0 k))) [
              | inl j ↦ inl (inr j)
              | inr j ↦ let i = subst (λ s. StandsInside s d m) (after_split fresh t ds) j in inr (since_each ds d m i, i)
            ]
      ];
      stays = λ t m low h. inr (let q = take_push t ds d low in
          subst (λ l. StoodInside (after fresh l) (drop t (ds ++ d ∷ [])) m) (sym q.0) (subst (λ l. StoodInside (after fresh (take t ds)) l m) (sym q.1)
          (elim h [
            | inl k ↦ last (after fresh (take t ds)) (drop t ds) d m
                (begins d.kind d.name d.bytes (after (after fresh (take t ds)) (drop t ds)) m
                (subst (λ s. m ≡ s) (sym (after_split fresh t ds)) k))
            | inr k ↦ first (after fresh (take t ds)) (drop t ds) d m k
          ])));
    }
