-- The attach of the store of a session that is taken up again.
use Rattle.paw_play.proofs.Names.{◌≡◌, ◌-◌, ◌≤◌, [], refl, sym, ap, ◌∙◌, subst, arith, Ok, Err, append-nil, Text, Name, Story, Valid, IsStable, stable, Standing, Still, text_of, Digests, kept_digests, State, each_of, kept_bytes, PlayedSession, GoesOnFrom, ShowsState, going_on, from_state, InPlay, attached_to, store_bytes, PlaysAgain, refused, unread, resumes_play, no_state, plays_on, PlaysOn, PlayEnd, PlayerView, IsOpen, ResumesTo, IsPlaying, OpenSession, ChangesStoreOnly, EVENT_LIMIT, stable_is, beside_none, RestsWith}
use Rattle.paw_play.specs.declared.PlayEnd.TheVariants as end
use Rattle.paw_play.proofs.{Attaching.playing_from, Attaching.store_attached, Showing.state_kept, Standing.is_shown, Standing.same_again, Playing.rests_by, Playing.stays_at_rest, Playing.in_rest, Playing.starts, Written.had_bytes}

-- While the session is found.
in_finding : (g : Story) (digests : Digests) (name : Name) (st : State) (piece : Text) (old new m : Standing) → Valid g.game →
    ShowsState g.game digests (store_bytes old name) st piece → new ≡ attached_to old name → Still new m →
    InPlay (from_state g st piece digests name) old m
in_finding g digests name st piece old new m valid shows is e =
    let s : PlayedSession = from_state g st piece digests name in
    let first : Standing = attached_to old name in
    let rests : RestsWith s first first 0 = rests_by s first first 0 (stays_at_rest name first (store_attached old name))
    (stable_is (store_bytes old name)) (omega arith) (omega (arith, (each_of g.game st shows.valid).events))
    (state_kept g digests (store_bytes old name) st piece valid shows) (had_bytes s digests (kept_bytes st) piece (store_bytes old name) shows.shown) in
    playing_from s old m (subst (InPlay s first) (sym (e ∙ is))
    (in_rest s first first 0 [] (text_of (going_on g st piece [])) rests (omega arith) (sym (append-nil first.shown)) refl))

-- How resuming the session of the attached store ends where it isn't open.
pub not_again : {F : Type 0} (g : Story) (name : Name) (old new : Standing) (seat : PlayerView F) (piece : Text) (o : PlayEnd) →
    ResumesTo g (store_bytes old name) seat piece (Err o) → new ≡ attached_to old name → PlaysAgain g name old new o
not_again g name old new seat piece (end.Refused r) h e = refused r h e
not_again g name old new seat piece (end.State at) h e = resumes_play (end.State at) _ h.0 (no_state at h.1 h.2 h.3 h.4 h.5 e)
not_again g name old new seat piece (end.Outside c) h e = rw h (unread e)
not_again g name old new seat piece _ h e = absurd h

-- ---- where it is open ----

module _ {F : Type 0} (g : Story) (name : Name) (before now : Standing) (seat : PlayerView F) (piece : Text) (o : OpenSession)
    (r : ResumesTo g (store_bytes before name) seat piece (Ok o)) where
  pub opens_again : now ≡ attached_to before name → IsStable now.disk → o.events ≤ EVENT_LIMIT →
      IsPlaying g (from_state g r.1 piece (kept_digests (store_bytes before name)) name) (attached_to before name) now seat piece 0
  opens_again is stable few =
      let s : PlayedSession = from_state g r.1 piece (kept_digests (store_bytes before name)) name in
      let first : Standing = attached_to before name in
      starts g s first now seat piece (store_attached before name) (subst (ChangesStoreOnly first) (sym is) (beside_none first))
      (subst (λ (q : Standing). IsOpen g s 0 [] seat [] piece q.disk.bytes) (sym is) (r.4 name)) stable (omega (arith, few, r.3))
      (ap (λ (q : Standing). q.disk.bytes) is
      ∙ had_bytes s (kept_digests (store_bytes before name)) (kept_bytes r.1) piece (store_bytes before name) r.2.shown)

  pub plays_again : (new : Standing) (end : PlayEnd) →
      PlaysOn (from_state g r.1 piece (kept_digests (store_bytes before name)) name) (EVENT_LIMIT - r.1.events) (attached_to before name) new end →
      PlaysAgain g name before new end
  plays_again new end p = resumes_play end (kept_digests (store_bytes before name)) r.0 (plays_on end r.1 piece r.2 p)

  -- It is the one that goes on from these bytes.
  pub in_again : (s : PlayedSession) → Valid g.game → GoesOnFrom g name (store_bytes before name) s → (m : Standing) →
      InPlay (from_state g r.1 piece (kept_digests (store_bytes before name)) name) (attached_to before name) m → InPlay s before m
  in_again s valid from m i =
      subst (λ q. InPlay q before m) (same_again g name (store_bytes before name) s valid from seat piece o r)
      (playing_from (from_state g r.1 piece (kept_digests (store_bytes before name)) name) before m i)

-- While it is found.
pub in_search : (g : Story) (name : Name) (before old : Standing) (s : PlayedSession) → Valid g.game → GoesOnFrom g name (store_bytes before name) s →
    old ≡ attached_to before name → (m : Standing) → Still old m → InPlay s before m
in_search g name before old s valid from is m e =
    let k = is_shown g name (store_bytes before name) s from in
    subst (λ q. InPlay q before m) k.same (in_finding g k.digests name k.state k.piece before old m valid k.shows is e)
