-- Reading tables in written order.
use Rattle.std.specs.Prelude.{ℕ, zero, suc, ◌-◌, ◌==◌, ◌&&◌, ◌||◌, Bool, true, false, not, List, []}
use Rattle.std.specs.Prelude.{◌∷◌, ◌++◌, Option, Some, None, length, drop, nat_lt, if◌then◌else◌}
use Rattle.std.specs.Option.{option_map_or}
use Rattle.paw_base.specs.Bytes.{Line, Lines, Text}
use Rattle.paw_base.specs.declared.flags.TheConstants.{VERB_FLAG, NOUN_FLAG, ADJECTIVE_FLAG, SECOND_NOUN_FLAG}
use Rattle.paw_base.specs.declared.flags.TheConstants.{SECOND_ADJECTIVE_FLAG, PRONOUN_NOUN_FLAG}
use Rattle.paw_base.specs.declared.flags.TheConstants.{PRONOUN_ADJECTIVE_FLAG, LOOP_FLAG}
use Rattle.paw_base.specs.declared.limits.TheConstants.{READ_LIMIT, LEVEL_LIMIT}
use Rattle.paw_base.specs.declared.messages.TheConstants.{QUIT_MESSAGE, GOODBYE_MESSAGE}
use Rattle.paw_base.specs.declared.words.TheConstants.{NO_WORD}
use Rattle.paw_base.specs.declared.parts.Condact.{Condact}
use Rattle.paw_base.specs.declared.parts.ObjectFacts.{ObjectFacts}
use Rattle.paw_base.specs.declared.fault.SpentKind.TheVariants as spent
use Rattle.paw_game.specs.declared.parts.Entry.{Entry}
use Rattle.paw_game.specs.Game.{GameLists}
use Rattle.paw_game.specs.Tables.{table_at, entry_at, condacts_of, facts_at, matches}
use Rattle.paw_world.specs.World.{World, flag, place, with_flag}
use Rattle.paw_phrase.specs.Sentence.{Parsed, IsSentence, IsUnknown, IsNoPhrase, phrase_parsed}
use Rattle.paw_effects.specs.Story.{Story}
use Rattle.paw_effects.specs.declared.act.Prompt.{Prompt}
use Rattle.paw_effects.specs.declared.act.Prompt.TheVariants as prompt
use Rattle.paw_effects.specs.declared.act.Truth.{Truth}
use Rattle.paw_effects.specs.declared.act.Truth.TheVariants as truth
use Rattle.paw_effects.specs.declared.act.Effect.{Effect}
use Rattle.paw_effects.specs.declared.act.Effect.TheVariants as effect
use Rattle.paw_effects.specs.Texts.{put_text, say_text}
use Rattle.paw_effects.specs.Holds.{is_condition, holds}
use Rattle.paw_effects.specs.Effects.{Done, effect_of, object_referred}
use Rattle.paw_reading.specs.declared.frames.Frame.{Frame}
use Rattle.paw_reading.specs.declared.frames.OpenLoop.{OpenLoop}
use Rattle.paw_reading.specs.declared.halt.Halt.{Halt}
use Rattle.paw_reading.specs.declared.halt.Halt.TheVariants as halt
use Rattle.paw_reading.specs.Run.{Run, StepRow, piece_closed, fits, text_printed, with_world, without_loop}
use Rattle.paw_reading.specs.Run.{line_dropped}
use Rattle.paw_reading.specs.Run.{anew, is_ignored, with_line_heard, reply, is_yes, is_no, taken_phrase}

-- What stops a table, and all that called it: the location is described again; the game starts anew; or play ends for
-- good.
pub data Stop : Type 0 where
  Redescribes : Stop
  Restarts : Stop
  Halts : (halt : Halt) → Stop

-- How the reading of a table ends: the table was left, with an action carried out or not; play waits at a prompt with
-- no line left, with its open frames, the outermost first; or the table was stopped.
pub data Out : Type 0 where
  Left : (acted : Bool) (r : Run) → Out
  Waits : (p : Prompt) (path : List Frame) (r : Run) → Out
  Stopped : (stop : Stop) (r : Run) → Out

-- Play ends for good in this run.
abbrev pub halts : Halt → Run → Out
halts halt r = Stopped (Halts halt) r

-- Whether the last piece is closed where play ends for good: only if the game is over. Otherwise it is dropped.
abbrev pub closes_piece : Halt → Bool
closes_piece halt.Over = true
closes_piece _ = false

-- How reading goes on in a table, as a function of whether an action was carried out there so far, and of the run.
abbrev pub Onward : Type 0
Onward = Bool → Run → Out

-- The reading of a table, given its number.
abbrev pub Called : Type 0
Called = ℕ → Run → Out

-- ---- budget and text ----

-- Goes on only where the open piece may read one more condact: a piece reads at most 200,000.
abbrev pub within : Run → Out → Out
within r x = if nat_lt (length r.read) READ_LIMIT then x else halts (halt.Spent spent.Condacts) r

-- The step for a condact at this frame: yes, or no for a condition that failed.
abbrev pub step_at : Frame → Condact → Bool → StepRow
step_at f c passed = record { table = f.table; entry = f.entry; at = f.at; code = c.code; yes = passed }

-- The run with one more step in its open piece: this condact, with yes or no.
abbrev pub step_noted : Frame → Condact → Bool → Run → Run
step_noted f c passed r = record r { read = r.read ++ step_at f c passed ∷ [] }

-- Prints the text if the open piece has room for it, and reads on; otherwise play ends.
abbrev pub printing : Text → (Run → Out) → Run → Out
printing text go r = if fits r text then go (text_printed text r) else halts (halt.Spent spent.Text) r

-- ---- calls ----

-- After a call: where the called table was left, reading goes on; where play waits in it, the frame of the caller is
-- put before the open frames; a stop stays.
abbrev pub after_call : Frame → Onward → Out → Out
after_call f go (Left b r) = go (f.acted || b) r
after_call f go (Waits p path r) = Waits p (f ∷ path) r
after_call f go (Stopped stop r) = Stopped stop r

-- ---- the object loop ----

-- The open loop, if it was opened at this level.
abbrev pub at_level : ℕ → Option OpenLoop → Option OpenLoop
at_level lv None = None
at_level lv (Some l) = if l.level == lv then Some l else None

-- How reading goes on after a table ends: with the open loop's next object, where it was left at that loop's level; all
-- else stays.
abbrev pub next_object_or : ℕ → (OpenLoop → Run → Out) → Out → Out
next_object_or lv next (Left a r) = option_map_or (λ l. next l r) (at_level lv r.turning) (Left a r)
next_object_or lv next x = x

-- Whether the sentence excepts an object: its second noun is the object's, and so is its second adjective, if any.
abbrev pub is_excepted : World → ObjectFacts → Bool
is_excepted w f =
    not (flag w SECOND_NOUN_FLAG == NO_WORD) && ((f.noun == flag w SECOND_NOUN_FLAG)
    && ((flag w SECOND_ADJECTIVE_FLAG == NO_WORD) || (f.adjective == flag w SECOND_ADJECTIVE_FLAG)))

-- Whether the loop may take an object with these facts: there is such an object, it has a noun, and it isn't excepted.
abbrev pub may_be_taken : World → Option ObjectFacts → Bool
may_be_taken w facts = option_map_or (λ f. not (f.noun == NO_WORD) && not (is_excepted w f)) facts false

-- Whether the loop takes this object: it is at the loop's place now, and may be taken.
abbrev pub is_taken : GameLists → World → OpenLoop → ℕ → Bool
is_taken g w l o = (place w o == l.place) && may_be_taken w (facts_at g o)

-- The world with the object's noun and adjective in the sentence; unchanged where there is no such object.
abbrev pub object_named : World → Option ObjectFacts → World
object_named w facts = option_map_or (λ f. with_flag (with_flag w NOUN_FLAG f.noun) ADJECTIVE_FLAG f.adjective) facts w

-- The run once the loop took this object: it is in the sentence and in the loop's flag, and is referred to.
abbrev pub object_taken : GameLists → OpenLoop → ℕ → Run → Run
object_taken g l o r = record r {
  turning = Some (record l { last = o });
  world = object_referred (with_flag (object_named r.world (facts_at g o)) LOOP_FLAG o) o;
}

-- Runs the loop over its last n objects, in rising order. For each that it takes, `body` is read; after the last the
-- loop is closed, and the table is left with an action carried out.
unfoldable pub over_objects : Story → ℕ → OpenLoop → (Run → Out) → ℕ → Run → Out
over_objects g lv l body zero r = Left true (without_loop r)
over_objects g lv l body (suc n) r =
    if is_taken g.game r.world l (length g.game.objects - suc n)
    then next_object_or lv (λ _. over_objects g lv l body n)
    (body (object_taken g.game l (length g.game.objects - suc n) r))
    else over_objects g lv l body n r

-- The loop that the DOALL at this frame opens over a place.
abbrev pub loop_of : ℕ → Frame → ℕ → OpenLoop
loop_of lv f p = record { level = lv; table = f.table; entry = f.entry; at = f.at; place = p; last = 0 }

-- ---- prompts ----

-- Play ends because the game is over, with its last piece closed.
abbrev pub game_over : Run → Out
game_over r = halts halt.Over (piece_closed (without_loop (line_dropped r)))

-- What follows a no to END's question: the game says goodbye and is over.
abbrev pub over : Story → Run → Out
over g r = printing (say_text g.game r.world GOODBYE_MESSAGE) game_over r

-- What an answer does at a prompt in a table. For QUIT, yes reads on, and all else leaves the table with an action
-- carried out. For END, no ends the game, and all else starts it anew. A key, the only other prompt there, reads on
-- with an action carried out.
abbrev pub prompt_answered : Story → Prompt → Frame → Onward → Line → Run → Out
prompt_answered g prompt.Quit f go line r = if is_yes line then go f.acted r else Left true r
prompt_answered g prompt.Again f go line r = if is_no line then over g r else Stopped Restarts (anew r)
prompt_answered g _ f go line r = go true r  -- Key

-- A prompt in a table, once the piece is closed. With no line left the run waits; an ignored line closes an empty
-- piece, and the next one is taken; any other line is heard and answers.
unfoldable pub prompt_asked : Story → Prompt → Frame → Onward → Run → Lines → Out
prompt_asked g p f go r [] = Waits p (f ∷ []) (record r { events = [] })
prompt_asked g p f go r (line ∷ lines) =
    if is_ignored r.world line then prompt_asked g p f go (piece_closed (record r { events = lines })) lines
    else prompt_answered g p f go (reply line) (with_line_heard line (record r { events = lines }))

-- The open piece is closed, and the run waits at a prompt in a table.
abbrev pub waits : Story → Prompt → Frame → Onward → Run → Out
waits g p f go r = prompt_asked g p f go (piece_closed r) r.events

-- ---- one condact ----

-- How reading goes on after a condition: where it holds, `go` reads on at the next condact; where it fails, `next`
-- reads on at the next entry; QUIT asks its question.
abbrev pub after_test : Story → Frame → Onward → Onward → Condact → Run → Truth → Out
after_test g f next go c r truth.Yes = go f.acted (step_noted f c true r)
after_test g f next go c r truth.No = next f.acted (step_noted f c false r)
after_test g f next go c r truth.Ask =
    printing (put_text g.game r.world QUIT_MESSAGE) (waits g prompt.Quit f go) (step_noted f c true r)

-- How reading goes on after PARSE: where there is a sentence it is taken, and `next` reads on at the next entry;
-- otherwise `go` reads on at the next condact. The bytes of a phrase with no known word are dropped.
abbrev pub after_parse : Frame → Onward → Onward → Run → Parsed → Out
after_parse f next go r (IsSentence s rest) = next f.acted (taken_phrase s rest r)
after_parse f next go r (IsUnknown rest) = go f.acted (record r { pending = rest })
after_parse f next go r IsNoPhrase = go f.acted r

-- The next phrase of the line, read with the verb of the phrase before, and the pronoun's meaning from the flags.
abbrev pub coming_phrase : Story → Run → Parsed
coming_phrase g r =
    phrase_parsed g.game r.pending r.earlier (flag r.world PRONOUN_NOUN_FLAG) (flag r.world PRONOUN_ADJECTIVE_FLAG)

-- How reading goes on after an action: `go` reads on at the next condact, `next` at the next entry, and `sub` reads a
-- table one level deeper. The last row, that of Spent, is never used: an action of the program answers Spent where a
-- text doesn't fit, but here play has then ended before the action is carried out.
abbrev pub after_action : Story → Called → ℕ → Frame → Onward → Onward → Effect → Run → Out
after_action g sub lv f next go effect.Go r = go true r
after_action g sub lv f next go (effect.Exit a) r = Left a r
after_action g sub lv f next go effect.Redescribe r = Stopped Redescribes (without_loop r)
after_action g sub lv f next go (effect.Call u) r = after_call f go (sub u r)
after_action g sub lv f next go (effect.Loop p) r =
    over_objects g lv (loop_of lv f p) (go true) (length g.game.objects) r
after_action g sub lv f next go (effect.Ask p) r = waits g p f go r
after_action g sub lv f next go effect.Parse r = after_parse f next go r (coming_phrase g r)
after_action g sub lv f next go effect.Spent r = halts (halt.Spent spent.Text) r

-- The run after an action: in the world that it leaves, with the line dropped and the loop cancelled where it says so.
abbrev pub carried_out : Done → Run → Run
carried_out d r = record r {
  world = d.world;
  pending = if d.act.drop_line then [] else r.pending;
  turning = if d.act.cancel_loop then None else r.turning;
}

-- An action prints its text, and is then carried out.
abbrev pub acts : Story → Called → ℕ → Frame → Onward → Onward → Done → Run → Out
acts g sub lv f next go d r = printing d.text (λ r'. after_action g sub lv f next go d.act.effect (carried_out d r')) r

-- Reads a condact: tests a condition, and goes on in the world that its test leaves; or carries out an action.
abbrev pub reads_one : Story → Called → ℕ → Frame → Onward → Onward → Condact → Run → Out
reads_one g sub lv f next go c r =
    let tested = holds g.game r.world c in
    if is_condition c then after_test g f next go c (with_world tested.world r) tested.answer
    else acts g sub lv f next go (effect_of g r.world c) (step_noted f c true r)

-- ---- entries, tables, levels ----

-- The frame at a condact, given its table, its entry, its number, and whether an action was carried out.
abbrev pub frame_at : ℕ → ℕ → ℕ → Bool → Frame
frame_at t e k acted = record { table = t; entry = e; at = k; acted = acted }

-- Reads the condacts of an entry from number k on; after the last, `next` goes on with the next entry.
unfoldable pub condacts : Story → Called → ℕ → ℕ → ℕ → Onward → ℕ → List Condact → Bool → Run → Out
condacts g sub lv t e next k [] acted r = next acted r
condacts g sub lv t e next k (c ∷ cs) acted r =
    within r (reads_one g sub lv (frame_at t e k acted) next (condacts g sub lv t e next (suc k) cs) c r)

-- Whether an entry is read: it matches the verb and the noun as they are when it is reached.
abbrev pub is_for_now : Run → Entry → Bool
is_for_now r en = matches (flag r.world VERB_FLAG) (flag r.world NOUN_FLAG) en

-- Reads the entries of a table from number e on; after the last the table is left.
unfoldable pub entries : Story → Called → ℕ → ℕ → ℕ → List Entry → Bool → Run → Out
entries g sub lv t e [] acted r = Left acted r
entries g sub lv t e (en ∷ es) acted r =
    if is_for_now r en then condacts g sub lv t e (entries g sub lv t (suc e) es) 0 en.condacts acted r
    else entries g sub lv t (suc e) es acted r

-- Reads on from condact k of entry e, without testing the entry's verb and noun.
abbrev pub rest_of_entry : Story → Called → ℕ → ℕ → ℕ → ℕ → Bool → Run → Out
rest_of_entry g sub lv t e k =
    condacts g sub lv t e (entries g sub lv t (suc e) (drop (suc e) (table_at g.game t))) k
    (drop k (condacts_of (entry_at g.game t e)))

-- Reads on from a condact of an entry to the end of the table. At condact 0 the entry's verb and noun are tested first.
abbrev pub from_condact : Story → Called → ℕ → ℕ → ℕ → ℕ → Bool → Run → Out
from_condact g sub lv t e zero = entries g sub lv t e (drop e (table_at g.game t))
from_condact g sub lv t e (suc k) = rest_of_entry g sub lv t e (suc k)

-- Goes on with the open loop: looks for the next object after the one that was taken last, and reads on after the
-- loop's DOALL.
abbrev pub rest_of_loop : Story → Called → ℕ → OpenLoop → Run → Out
rest_of_loop g sub lv l =
    let body = from_condact g sub lv l.table l.entry (suc l.at) true in
    over_objects g lv (record l { last = 0 }) body (length g.game.objects - suc l.last)

-- Reads on at a level, with the loop that may be open there.
abbrev pub read_at_level : Story → Called → ℕ → ℕ → ℕ → ℕ → Bool → Run → Out
read_at_level g sub lv t e k acted r = next_object_or lv (rest_of_loop g sub lv) (from_condact g sub lv t e k acted r)

-- Reads a table called from level lv, where n more levels may open; with none left the call is too deep, and play ends.
unfoldable pub table_called : Story → ℕ → ℕ → ℕ → Run → Out
table_called g zero lv u r = halts (halt.TooDeep u) r
table_called g (suc n) lv u r = read_at_level g (table_called g n (suc lv)) (suc lv) u 0 0 false r

-- Reads a table called from level lv; levels go from 0 to 10.
abbrev pub deeper : Story → ℕ → ℕ → Run → Out
deeper g lv = table_called g (LEVEL_LIMIT - lv) lv

-- Reads on at level lv in table t, from condact k of entry e.
abbrev pub rest_of_table : Story → ℕ → ℕ → ℕ → ℕ → Bool → Run → Out
rest_of_table g lv = read_at_level g (deeper g lv) lv

-- Reads a table at level 0 from its start.
abbrev pub table_read : Story → ℕ → Run → Out
table_read g t = rest_of_table g 0 t 0 0 false
