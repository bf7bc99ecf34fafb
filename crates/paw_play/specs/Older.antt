-- Sessions of version 1, of which the states have no kept positions.
use Rattle.std.specs.Prelude.{◌≡◌, ℕ, ◌≤◌, length, take}
use Rattle.paw_base.specs.Bytes.{Bytes, Lines, Seed}
use Rattle.paw_base.specs.declared.limits.TheConstants.{EVENT_LIMIT}
use Rattle.paw_effects.specs.Story.{Story}
use Rattle.paw_reading.specs.Turn.{Ending, reading, pieces_of}
use Rattle.paw_reading.specs.Saving.{NeverSaves}
use Rattle.paw_journal.specs.Session.{Digests, Shown, recover, slot_in_use, slot, slot_version, form_length}
use Rattle.paw_journal.specs.Session.{first_length}
use Rattle.paw_state.specs.State.{last_piece}
use Rattle.paw_play.specs.Session.{IsOfStory, state_after, IsPlayed}
use Rattle.paw_play.specs.Stands.{Stands, IsPlayedWith}

-- The slot in use is of version 1, which has the first 1,371 bytes of a state. It shows a state in a session with these
-- digests, and the last piece of a reading. The first 1,371 bytes of that state are those of the state where the
-- reading ended after this number of lines.
pub record KeepsAsOlder (digests : Digests) (events : ℕ) (e : Ending) (bytes : Bytes) : Type 0 where
  pub played : IsPlayed e
  pub first : form_length (slot_version (slot (slot_in_use bytes) bytes)) ≡ first_length
  pub state : Bytes
  pub shown : recover bytes ≡ Shown digests state (last_piece (pieces_of e))
  pub same : take first_length state ≡ take first_length (state_after events e)

-- The bytes of a store are an older session for these lines of a story that was begun with this seed: the lines aren't
-- too many for a session, and the session is one of the story that keeps the reading of them all, except for positions.
pub record IsOlderSession (g : Story) (seed : Seed) (es : Lines) (bytes : Bytes) : Type 0 where
  pub few : length es ≤ EVENT_LIMIT
  pub digests : Digests
  pub belongs : IsOfStory g digests
  pub keeps : KeepsAsOlder digests (length es) (reading g seed es) bytes

-- In a game that never saves, an older session stands for its lines: no position is missing.
abbrev pub OlderSessionsStand : Type 0
OlderSessionsStand =
    (g : Story) (seed : Seed) (es : Lines) (bytes : Bytes) → IsPlayedWith g seed es → NeverSaves g.game →
    IsOlderSession g seed es bytes → Stands g seed es bytes
