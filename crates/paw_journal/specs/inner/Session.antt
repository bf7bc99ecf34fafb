-- How a session lies in the bytes of a store, and what bytes of a store stand for: words that contracts between crates
-- and proofs use besides those of specs/Session.antt.
use Rattle.std.specs.Prelude.{◌≡◌, ℕ, ◌∷◌, ◌++◌, take, drop}
use Rattle.paw_base.specs.Bytes.{Bytes, Text}
use Rattle.paw_journal.specs.declared.refusal.SessionPart.TheVariants as part
use Rattle.paw_journal.specs.Session.{Digests, state_length, made_mark, Recovered, Damaged, Shown, slot_shows}
use Rattle.paw_journal.specs.Session.{made_header}

-- The digests of a game and of routines.
abbrev pub digests_of : Bytes → Bytes → Digests
digests_of game routines = record { game = game; routines = routines }

-- What a session with these digests shows that has this state and this piece.
abbrev pub session_shown : Digests → Bytes → Text → Recovered
session_shown digests state piece = Shown digests (take state_length state) piece

-- A slot with these bytes is damaged at this offset.
abbrev pub IsDamagedAt : Digests → Bytes → ℕ → Type 0
IsDamagedAt digests bytes at = slot_shows digests bytes ≡ Damaged part.Slot at

-- A session as it is laid out, with these bytes in both slots: all but its mark.
abbrev pub laid_session : Digests → Bytes → Bytes
laid_session digests bytes = made_header 0 digests ++ bytes ++ bytes

-- These bytes, with the mark of a session that is made.
abbrev pub with_made_mark : Bytes → Bytes
with_made_mark bytes = made_mark ∷ drop 1 bytes
