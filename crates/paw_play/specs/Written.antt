-- The bytes of a session's store, exactly.
use Rattle.std.specs.Prelude.{ℕ, zero, suc, ◌+◌, ◌-◌, [], ◌∷◌, ◌++◌}
use Rattle.paw_base.specs.Bytes.{Bytes, Lines, zeros}
use Rattle.paw_reading.specs.Turn.{Ending, pieces_of}
use Rattle.paw_journal.specs.Session.{base_length, state_length, made_session, session_committed}
use Rattle.paw_state.specs.State.{last_piece}
use Rattle.paw_play.specs.Session.{state_after}
use Rattle.paw_play.specs.Walk.{first_lines}
use Rattle.paw_play.specs.Played.{PlayedSession}

-- The state in which a reading ended, after this number of lines, as the base of a slot: filled up with zeros.
abbrev pub base_after : ℕ → Ending → Bytes
base_after events e = state_after events e ++ zeros (base_length - state_length)

-- The bytes of a session's store before the first line: those that it had or, where it had none, those of the session
-- as it is newly made.
abbrev pub bytes_before : PlayedSession → Bytes → Bytes
bytes_before s [] = made_session s.digests (base_after 0 (s.whole [])) (last_piece (pieces_of (s.whole [])))
bytes_before s (b ∷ bytes) = b ∷ bytes

-- The bytes of this store after the first n lines of the session. Each line makes one commit: of the state in which the
-- reading of the lines up to it ends, and of its last piece.
abbrev pub store_bytes_after : PlayedSession → Lines → ℕ → Bytes → Bytes
store_bytes_after s lines zero bytes = bytes
store_bytes_after s lines (suc n) bytes =
    session_committed (base_after (s.before + suc n) (s.whole (first_lines (suc n) lines)))
    (last_piece (pieces_of (s.whole (first_lines (suc n) lines)))) (store_bytes_after s lines n bytes)
