-- The turn, and the reading of a list of lines.
use Rattle.std.specs.Prelude.{ℕ, zero, suc, ◌+◌, ◌-◌, ◌*◌, ◌/◌, ◌%◌, ◌==◌, Bool, true, false, List, [], ◌∷◌, ◌++◌}
use Rattle.std.specs.Prelude.{Option, Some, None, length, map, sum_by, nat_lt, min, if◌then◌else◌}
use Rattle.std.specs.List.{concat}
use Rattle.paw_base.specs.Bytes.{Lines, Seed, Text, Texts}
use Rattle.paw_base.specs.declared.flags.TheConstants.{VIEW_FLAG, DARK_VIEW_FLAG, UNLIT_VIEW_FLAG, FIRST_FRAME_FLAG}
use Rattle.paw_base.specs.declared.flags.TheConstants.{LAST_FRAME_FLAG, DARK_FRAME_FLAG, UNLIT_FRAME_FLAG}
use Rattle.paw_base.specs.declared.flags.TheConstants.{LOW_TURNS_FLAG, HIGH_TURNS_FLAG, VERB_FLAG, LOCATION_FLAG}
use Rattle.paw_base.specs.declared.flags.TheConstants.{PROMPT_FLAG}
use Rattle.paw_base.specs.declared.limits.TheConstants.{READ_LIMIT}
use Rattle.paw_base.specs.declared.messages.TheConstants.{DARK_MESSAGE, PROMPT_MESSAGE, UNKNOWN_MESSAGE}
use Rattle.paw_base.specs.declared.messages.TheConstants.{NO_WAY_MESSAGE, IMPOSSIBLE_MESSAGE, LINE_MESSAGE}
use Rattle.paw_base.specs.declared.messages.TheConstants.{TIMEOUT_MESSAGE}
use Rattle.paw_base.specs.declared.tables.TheConstants.{RESPONSE_TABLE, DESCRIBED_TABLE, FRAME_TABLE}
use Rattle.paw_base.specs.declared.words.TheConstants.{NO_WORD, FIRST_PLAIN_VERB}
use Rattle.paw_base.specs.declared.fault.SpentKind.TheVariants as spent
use Rattle.paw_game.specs.Game.{GameLists}
use Rattle.paw_game.specs.Tables.{exit_at}
use Rattle.paw_world.specs.World.{World, flag, with_flag, starting_world, is_dark, is_unlit, flag_lowered}
use Rattle.paw_world.specs.World.{flag_lowered_if}
use Rattle.paw_phrase.specs.Sentence.{Parsed, IsSentence, IsUnknown, IsNoPhrase}
use Rattle.paw_effects.specs.Story.{Story}
use Rattle.paw_effects.specs.declared.act.Prompt.{Prompt}
use Rattle.paw_effects.specs.declared.act.Prompt.TheVariants as prompt
use Rattle.paw_effects.specs.Counts.{turns_taken}
use Rattle.paw_effects.specs.Texts.{put_text, say_text, location_text}
use Rattle.paw_reading.specs.declared.frames.Frame.{Frame}
use Rattle.paw_reading.specs.Run.{Run, piece_closed, fits, text_printed, with_world, line_dropped, is_timeout}
use Rattle.paw_reading.specs.Run.{is_ignored, with_line_heard, with_timeout, taken_phrase}
use Rattle.paw_reading.specs.declared.halt.Halt.{Halt}
use Rattle.paw_reading.specs.declared.halt.Halt.TheVariants as halt
use Rattle.paw_reading.specs.Reading.{Halts}
use Rattle.paw_reading.specs.Reading.{Out, Left, Waits, Stopped, coming_phrase, table_read}
use Rattle.paw_reading.specs.GoingOn.{on_path}

-- The four phases of a turn: the location is described, a time frame comes, the next phrase is taken, or a sentence is
-- responded to.
pub data TurnPhase : Type 0 where
  AtDescribe : TurnPhase
  AtTimeFrame : TurnPhase
  AtPhrase : TurnPhase
  AtResponse : TurnPhase

-- How a reading ends: it waits at a prompt with no line left, with its open frames, the outermost first (none at the
-- main prompt); or play ends for good. Unended appears only where too few phases were granted.
pub data Ending : Type 0 where
  WaitsAt : (p : Prompt) (path : List Frame) (r : Run) → Ending
  Halted : (halt : Halt) (r : Run) → Ending
  Unended : Ending

-- How a turn goes on from a run.
abbrev pub Sequel : Type 0
Sequel = Run → Ending

-- Prints the text if the open piece has room for it, and the turn goes on; otherwise play ends.
abbrev pub saying : Text → Sequel → Run → Ending
saying text go r = if fits r text then go (text_printed text r) else Halted (halt.Spent spent.Text) r

-- The world once a location is described: one flag falls always, one more in the dark, and one more in the dark without
-- light.
abbrev pub location_described : World → World
location_described w =
    flag_lowered_if (is_unlit w) UNLIT_VIEW_FLAG (flag_lowered_if (is_dark w) DARK_VIEW_FLAG (flag_lowered VIEW_FLAG w))

-- The world after a time frame: flags 5 to 8 fall; one more falls in the dark, and one more in the dark without light.
abbrev pub time_frame_passed : World → World
time_frame_passed w =
    let always = flag_lowered LAST_FRAME_FLAG (flag_lowered 7 (flag_lowered 6 (flag_lowered FIRST_FRAME_FLAG w))) in
    flag_lowered_if (is_unlit w) UNLIT_FRAME_FLAG (flag_lowered_if (is_dark w) DARK_FRAME_FLAG always)

-- What is shown of a location before table 1 is read: a message where it is dark without light, and its text otherwise.
abbrev pub view_text : GameLists → World → Text
view_text g w = if is_unlit w then say_text g w DARK_MESSAGE else location_text g w (flag w LOCATION_FLAG)

-- The world with one more turn counted, up to 65,535; two flags hold the number, the low byte and the high one.
abbrev pub turn_counted : World → World
turn_counted w =
    let n = min 65535 (turns_taken w + 1) in with_flag (with_flag w LOW_TURNS_FLAG (n % 256)) HIGH_TURNS_FLAG (n / 256)

-- The prompt: the message that a flag names, or the usual one where the flag is 0, and then the sign at which a line is
-- typed.
abbrev pub prompt_text : GameLists → World → Text
prompt_text g w =
    say_text g w (if flag w PROMPT_FLAG == 0 then PROMPT_MESSAGE else flag w PROMPT_FLAG) ++ put_text g w LINE_MESSAGE

-- What the game says of a timeout at the main prompt, once it is heard.
abbrev pub timeout_text : GameLists → World → Text
timeout_text g w = say_text g (with_timeout true w) TIMEOUT_MESSAGE

-- What a run does at the main prompt. With no line left it waits; an ignored line closes an empty piece, and the next
-- one is taken; at a timeout a message is said, and the time frame comes; any other line becomes the pending bytes,
-- with no verb before, and leads to its first phrase.
unfoldable pub at_main : Story → (TurnPhase → Sequel) → Run → Lines → Ending
at_main g go r [] = WaitsAt prompt.Main [] (record r { events = [] })
at_main g go r (line ∷ lines) =
    let s = record r { events = lines } in
    if is_ignored r.world line then at_main g go (piece_closed s) lines
    else if is_timeout line then saying (timeout_text g.game r.world) (go AtTimeFrame) (with_line_heard line s)
    else go AtPhrase (record s { world = with_timeout false r.world; pending = line; earlier = NO_WORD })

-- How a turn goes on with the next phrase. A sentence counts a turn and is responded to. For a phrase with no known
-- word a message is shown, and the rest of the line is dropped. Where no phrase is left the prompt is shown, the piece
-- is closed, and a line is awaited.
abbrev pub after_phrase : Story → (TurnPhase → Sequel) → Run → Parsed → Ending
after_phrase g go r (IsSentence s rest) =
    go AtResponse (with_world (turn_counted (taken_phrase s rest r).world) (taken_phrase s rest r))
after_phrase g go r (IsUnknown _) = saying (say_text g.game r.world UNKNOWN_MESSAGE) (go AtTimeFrame) (line_dropped r)
after_phrase g go r IsNoPhrase =
    saying (prompt_text g.game r.world) (λ s. at_main g go (piece_closed s) s.events) (line_dropped r)

-- What is said where no entry answered and no exit is there: for a direction, that there is no way; for any other verb,
-- that it is impossible.
abbrev pub refusal_text : GameLists → World → Text
refusal_text g w =
    say_text g w (if nat_lt (flag w VERB_FLAG) FIRST_PLAIN_VERB then NO_WAY_MESSAGE else IMPOSSIBLE_MESSAGE)

-- Takes the exit for the verb, and describes the location that it leads to. Where there is no such exit a message says
-- so, the line is dropped, and the time frame comes.
abbrev pub exit_taken : Story → (TurnPhase → Sequel) → Run → Option ℕ → Ending
exit_taken g go r None = saying (refusal_text g.game r.world) (go AtTimeFrame) (line_dropped r)
exit_taken g go r (Some to) = go AtDescribe (with_world (with_flag r.world LOCATION_FLAG to) r)

-- What follows a table of level 0 that was left. After table 0, of responses: the time frame if an action was carried
-- out, and otherwise the location's exit for the verb. After table 1, of descriptions: the time frame. After table 2,
-- of the time frame: the fall of flags and the next phrase.
abbrev pub after_left : Story → (TurnPhase → Sequel) → ℕ → Bool → Run → Ending
after_left g go zero false r = exit_taken g go r (exit_at g.game (flag r.world LOCATION_FLAG) (flag r.world VERB_FLAG))
after_left g go (suc (suc t)) acted r = go AtPhrase (with_world (time_frame_passed r.world) r)
after_left g go _ acted r = go AtTimeFrame r

-- How a turn goes on after a table at level 0, which was left, waits, or was stopped. After a stop, play ends for good,
-- or the location is described, again or in a game that starts anew.
abbrev pub table_done : Story → (TurnPhase → Sequel) → ℕ → Out → Ending
table_done g go t (Left acted r) = after_left g go t acted r
table_done g go t (Waits p path r) = WaitsAt p path r
table_done g go t (Stopped (Halts halt) r) = Halted halt r
table_done g go t (Stopped _ r) = go AtDescribe r

-- The turn from a phase on, in at most n phases. Table 1 is read once the location was described, table 2 in each time
-- frame, and table 0 in response to a sentence.
unfoldable pub turn : Story → ℕ → TurnPhase → Run → Ending
turn g zero s r = Unended
turn g (suc n) AtDescribe r =
    let view = view_text g.game (location_described r.world) in
    saying view (λ s. table_done g (turn g n) DESCRIBED_TABLE (table_read g DESCRIBED_TABLE s))
    (with_world (location_described r.world) r)
turn g (suc n) AtTimeFrame r = table_done g (turn g n) FRAME_TABLE (table_read g FRAME_TABLE r)
turn g (suc n) AtPhrase r = after_phrase g (turn g n) r (coming_phrase g r)
turn g (suc n) AtResponse r = table_done g (turn g n) RESPONSE_TABLE (table_read g RESPONSE_TABLE r)

-- How much a run may still read, bytes and condacts together: the rest of its line, the condacts that the open piece
-- may still read, and for each line to come its bytes, the condacts of a piece, and one more.
abbrev pub left_to_read : Run → ℕ
left_to_read r =
    length r.pending + (READ_LIMIT - length r.read) + sum_by (λ line. length line + suc READ_LIMIT) r.events

-- A number of phases that is enough, from any phase on.
abbrev pub phases_left : Run → ℕ
phases_left r = 4 * left_to_read r + 4

-- The turns from a phase on, to the end of the reading.
abbrev pub turns_from : Story → TurnPhase → Run → Ending
turns_from g s r = turn g (phases_left r) s r

-- ---- the reading ----

-- The run at the start of a game, with these lines to come.
abbrev pub opening : Story → Seed → Lines → Run
opening g seed es = record {
  world = starting_world (map (λ o. o.facts) g.game.objects) (length g.game.locations) seed;
  pending = [];
  earlier = NO_WORD;
  turning = None;
  current = [];
  read = [];
  pieces = [];
  traces = [];
  events = es;
}

-- The reading of a game with these lines, each of at most 255 bytes.
abbrev pub reading : Story → Seed → Lines → Ending
reading g seed es = turns_from g AtDescribe (opening g seed es)

-- The closed pieces of a reading, the first one first.
abbrev pub pieces_of : Ending → Texts
pieces_of (WaitsAt p path r) = r.pieces
pieces_of (Halted halt r) = r.pieces
pieces_of Unended = []

-- The text of a reading: its closed pieces, one after the other.
abbrev pub text_of : Ending → Text
text_of e = concat (pieces_of e)

-- ---- going on ----

-- The table of the outermost frame; 0 where there is none.
abbrev pub first_table : List Frame → ℕ
first_table [] = 0
first_table (f ∷ path) = f.table

-- Goes on from a prompt with the run's lines, in at most n more phases: at the main prompt, or inside tables; a game
-- that is over stays over. Nothing is printed again, and no piece is closed first.
abbrev pub goes_on : Story → ℕ → Prompt → List Frame → Run → Ending
goes_on g n prompt.Main path r = at_main g (turn g n) r r.events
goes_on g n prompt.Over path r = Halted halt.Over r
goes_on g n p path r = table_done g (turn g n) (first_table path) (on_path g p 0 path r)

-- Goes on from a prompt with the run's lines, to the end of the reading.
abbrev pub going_on_from : Story → Prompt → List Frame → Run → Ending
going_on_from g p path r = goes_on g (phases_left r) p path r
