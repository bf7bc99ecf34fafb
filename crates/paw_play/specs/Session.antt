-- What a session keeps of a reading.
use Rattle.std.specs.Prelude.{◌≡◌, ℕ, []}
use Rattle.sha2.specs.Sha256.{sha256}
use Rattle.paw_base.specs.Bytes.{Bytes}
use Rattle.paw_game.specs.Image.{image}
use Rattle.paw_routines.specs.Measure.{measure}
use Rattle.paw_effects.specs.Story.{Story}
use Rattle.paw_effects.specs.declared.act.Prompt.TheVariants as prompt
use Rattle.paw_reading.specs.declared.halt.Halt.TheVariants as halt
use Rattle.paw_reading.specs.Turn.{Ending, WaitsAt, Halted, pieces_of}
use Rattle.paw_journal.specs.Session.{Digests, BelongsTo, Recovered, Shown}
use Rattle.paw_state.specs.State.{State}
use Rattle.paw_state.specs.State.{state_bytes}
use Rattle.paw_state.specs.State.{last_piece, state_at}

-- The digests of a story: that of its game, and that of its routines.
abbrev pub story_digests : Story → Digests
story_digests g = record { game = sha256 (image g.game); routines = measure g.answers }

-- A session with these digests is one of the story: it keeps the digest of its game, and that of its routines or none.
abbrev pub IsOfStory : Story → Digests → Type 0
IsOfStory g d = BelongsTo (sha256 (image g.game)) (measure g.answers) d

-- The bytes that a session keeps of a state.
unfoldable pub kept_bytes : State → Bytes
kept_bytes s = state_bytes s

-- The bytes of the state in which a reading ended; none where a piece ran out of a budget or a call was too deep.
abbrev pub state_after : ℕ → Ending → Bytes
state_after events (WaitsAt p path r) = kept_bytes (state_at events p path r)
state_after events (Halted halt.Over r) = kept_bytes (state_at events prompt.Over [] r)
state_after events _ = []

-- The reading waits, or the game is over and no line is left.
abbrev pub IsPlayed : Ending → Type 0
IsPlayed (WaitsAt p path r) = Unit {0}
IsPlayed (Halted halt.Over r) = r.events ≡ []
IsPlayed _ = ⊥

-- A session with these digests keeps where a reading ended: it shows the state there, after this number of lines, and
-- the last piece.
pub record IsKept (digests : Digests) (events : ℕ) (e : Ending) (r : Recovered) : Type 0 where
  pub played : IsPlayed e
  pub shown : r ≡ Shown digests (state_after events e) (last_piece (pieces_of e))
