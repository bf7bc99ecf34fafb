-- The bytes of a session's store, commit by commit.
use Rattle.paw_play.proofs.Names.{◌≡◌, ℕ, [], ◌∷◌, ◌++◌, refl, ap, ◌∙◌, ◌-◌, Bytes, zeros, Ending, pieces_of, Digests, Shown, base_length, state_length, made_session, session_committed, last_piece, state_after, IsKept, PlayedSession, base_after, bytes_before, recover, recover_by}

-- What a session shows, part by part.
pub same_shown : (d e : Digests) (a p b q : Bytes) → Shown d a p ≡ Shown e b q → (d ≡ e) × (a ≡ b) × (p ≡ q)
same_shown d e a p b q h = (cc, cc, cc)

-- A session that keeps a reading has the state and the piece of it.
pub base_is : (digests : Digests) (events : ℕ) (e : Ending) (state piece : Bytes) → IsKept digests events e (Shown digests state piece) →
    state ++ zeros (base_length - state_length) ≡ base_after events e
base_is digests events e state piece k =
    ap (λ x. x ++ zeros (base_length - state_length))
    (same_shown digests digests state piece (state_after events e) (last_piece (pieces_of e)) k.shown).1

pub piece_is : (digests : Digests) (events : ℕ) (e : Ending) (state piece : Bytes) → IsKept digests events e (Shown digests state piece) →
    piece ≡ last_piece (pieces_of e)
piece_is digests events e state piece k = (same_shown digests digests state piece (state_after events e) (last_piece (pieces_of e)) k.shown).2

pub committed_same : (state base piece last old bytes : Bytes) → state ≡ base → piece ≡ last → old ≡ bytes →
    session_committed state piece old ≡ session_committed base last bytes
committed_same state base piece last old bytes e f g =
    ap (λ x. session_committed x piece old) e ∙ ap (λ x. session_committed base x old) f ∙ ap (λ x. session_committed base last x) g

pub made_same : (digests : Digests) (state base piece last : Bytes) → state ≡ base → piece ≡ last →
    made_session digests state piece ≡ made_session digests base last
made_same digests state base piece last e f = ap (λ x. made_session digests x piece) e ∙ ap (λ x. made_session digests base x) f

-- A store that had some, which show a session.
pub had_bytes : (s : PlayedSession) (kept : Digests) (state piece bytes : Bytes) → recover bytes ≡ Shown kept state piece → bytes ≡ bytes_before s bytes
unfolding recover recover_by
had_bytes s kept state piece [] e = cc
had_bytes s kept state piece (b ∷ bytes) e = refl
