-- What stays true of the rooms of a record of calls.
use Rattle.std.specs.Prelude.{◌≡◌, ◌+◌, ◌≤◌, length, vec_len, vec_capacity}
use Rattle.paw_stage.specs.inner.Log.{Logged, all_done, calls_replayed, AreLaid}
use Rattle.paw_stage.specs.declared.log.Log.TheInside.{Inside}

-- The calls that the fields hold.
abbrev pub logged_in : Inside → Logged
logged_in l = record {
  calls = all_done l.room.items l.calls.items;
  calls_left = l.calls_left;
  bytes_left = l.bytes_left;
}

-- The calls lie one after the other in the room, the text is what they showed, the number of bytes written to stores is
-- theirs, and the spare calls and bytes have room.
pub record IsLogSound (l : Inside) : Type 0 where
  pub laid : AreLaid l.calls.items 0 (length l.room.items)
  pub text : l.text.items ≡ (calls_replayed l.room.items l.calls.items).shown
  pub written : l.written ≡ (calls_replayed l.room.items l.calls.items).written
  pub calls_fit : vec_len l.calls + l.calls_left ≤ vec_capacity l.calls
  pub bytes_fit : vec_len l.room + l.bytes_left ≤ vec_capacity l.room
  pub written_fits : l.written ≤ vec_len l.room
  pub text_fits : vec_len l.text + l.bytes_left ≤ vec_capacity l.text
